pub mod Joins
pub mod Logic
pub mod Numerals
mod PathOrder
pub mod PathTexts
