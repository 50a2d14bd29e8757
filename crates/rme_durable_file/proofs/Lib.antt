pub mod Starting
pub mod Rewriting
