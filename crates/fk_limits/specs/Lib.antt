pub mod Deployments
pub mod Turns
