pub mod Inbox
pub mod Standing
pub mod Making
pub mod Serving
