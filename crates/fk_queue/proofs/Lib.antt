pub mod Backing
pub mod Changing
pub mod Counting
pub mod Numbering
pub mod Standing
