pub mod Counts
pub mod Epochs
pub mod FirstNumbers
pub mod Noting
pub mod Registering
pub mod SetWatches
pub mod Sweeps
pub mod Telling
