pub mod OneRun
pub mod Computed
