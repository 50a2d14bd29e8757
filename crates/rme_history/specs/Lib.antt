-- In reading order: the order of entries, legal histories and their laws, the state of a replay, and the greatest
-- number of steps of each phase.
pub mod Places
pub mod Legal
pub mod Laws
pub mod Folds
pub mod Tallies
pub mod EntryLists
