pub mod Tables
pub mod MoreRows
pub mod Ages
pub mod Ends
