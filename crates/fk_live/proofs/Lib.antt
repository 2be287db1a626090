pub mod Offering
pub mod Keeping
pub mod Closing
pub mod Ending
