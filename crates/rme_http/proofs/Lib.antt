pub mod Contents
pub mod Hosts
pub mod Reading
pub mod Targets
