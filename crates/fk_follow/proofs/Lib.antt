pub mod Answering
pub mod Closing
pub mod Going
pub mod Items
pub mod Listing
pub mod Owning
pub mod Stages
