pub mod Beats
pub mod Tellers
