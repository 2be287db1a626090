pub mod World
pub mod Playing
pub mod Starting
pub mod Asking
