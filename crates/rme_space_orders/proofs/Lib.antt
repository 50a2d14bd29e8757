pub mod Possible
pub mod Copies
