pub mod Owning
pub mod Placing
pub mod Putting
pub mod Rising
pub mod Standing
