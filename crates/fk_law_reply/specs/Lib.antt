pub mod ClosedClients
pub mod Evictions
pub mod Ledger
pub mod Plans
pub mod Reads
pub mod RefusedOutcomes
pub mod Replying
