pub mod Reading
pub mod Rows
pub mod Jobs
pub mod Lines
pub mod Sounding
