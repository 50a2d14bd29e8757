pub mod Adding
pub mod Observing
pub mod Staying
pub mod Writing
