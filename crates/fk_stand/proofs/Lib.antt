pub mod Acks
pub mod Counting
mod Evaluated
