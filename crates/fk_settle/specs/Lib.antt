pub mod Held
pub mod Missing
pub mod Transaction
pub mod Verdicts
