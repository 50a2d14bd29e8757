pub mod Fencing
pub mod Answering
