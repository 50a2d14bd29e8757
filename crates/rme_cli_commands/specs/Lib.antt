pub mod FinalReports
pub mod Drawn
