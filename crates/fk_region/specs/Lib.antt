pub mod Blocks
pub mod Chains
pub mod Changes
pub mod Kept
pub mod Laws
pub mod Meaning
