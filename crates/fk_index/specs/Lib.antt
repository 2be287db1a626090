pub mod Drafts
pub mod Owners
pub mod Parts
pub mod Sessions
pub mod Slots
pub mod Tables
pub mod Waiting
