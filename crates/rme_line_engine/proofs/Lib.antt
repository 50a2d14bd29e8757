pub mod TallyLemmas
pub mod Seeing
pub mod Tallying
pub mod NoteLemmas
pub mod WalkLemmas
pub mod EngineLemmas
pub mod ToldLemmas
