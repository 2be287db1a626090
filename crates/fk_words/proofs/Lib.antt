pub mod Joining
pub mod Numbers
pub mod Shapes
pub mod Steps
pub mod Walking
pub mod Behind
