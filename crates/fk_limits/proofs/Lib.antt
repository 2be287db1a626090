pub mod Decoded
pub mod Deployments
pub mod Turning
pub mod Wants
