pub mod BeatServices
pub mod Beating
pub mod Fired
pub mod TellerServices
pub mod Telling
