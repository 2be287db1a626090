pub mod Promising
