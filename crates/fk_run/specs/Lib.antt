pub mod Run
pub mod Statuses
pub mod Turns
