pub mod Fronts
pub mod Telling
pub mod Marking
pub mod Authors
pub mod Texts
pub mod Holding
