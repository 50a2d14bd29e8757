pub mod Equality
pub mod Searches
pub mod Copies
pub mod InTurn
pub mod Cuts
pub mod WorkerTexts
pub mod SpaceTexts
pub mod FileLines
