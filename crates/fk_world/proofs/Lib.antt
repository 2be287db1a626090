pub mod Beginning
pub mod Going
pub mod Emptying
pub mod Quieting
