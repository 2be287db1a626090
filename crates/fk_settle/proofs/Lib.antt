pub mod Commits
pub mod Fitting
pub mod Placing
pub mod Verdicts
