pub mod Turning
pub mod Statuses
pub mod Texts
pub mod Worlds
pub mod Fronts
pub mod Refusing
