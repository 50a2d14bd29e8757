pub mod Growth
pub mod Places
pub mod Shapes
pub mod Loads
