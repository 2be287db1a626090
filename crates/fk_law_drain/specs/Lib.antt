pub mod Answering
pub mod Delivering
pub mod Drained
pub mod Draining
pub mod Ending
pub mod Falling
pub mod Looking
