-- In reading order: the answers before a space is used, the calls of a directory, and how lines are answered; and the
-- space of an entry and of a visit.
pub mod NoSpaceAnswers
pub mod DirectoryCalls
pub mod SpacedAnswers
pub mod Visits
