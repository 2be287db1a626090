pub mod Drafting
pub mod Gathering
pub mod Keeping
pub mod Meanings
pub mod Numbering
