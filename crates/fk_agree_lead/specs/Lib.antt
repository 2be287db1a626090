pub mod Leaders
