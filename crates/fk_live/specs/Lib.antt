pub mod Choosing
pub mod Desk
pub mod Live
pub mod Undisturbed
pub mod Worked
