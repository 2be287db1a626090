pub mod Alike
mod Creating
pub mod Deletes
pub mod Editing
mod Gathering
mod Indexing
pub mod Keeping
mod Listing
pub mod Looking
mod Notes
pub mod Order
pub mod Owning
pub mod Parents
mod Parting
pub mod Passing
pub mod Refusing
pub mod Rising
pub mod SameKind
mod Samples
mod Seeking
mod Showing
mod Sorting
pub mod Standing
pub mod Starting
pub mod Views
mod Whole
pub mod Written
