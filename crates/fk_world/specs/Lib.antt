pub mod World
pub mod Quiet
pub mod Clocks
pub mod Draining
