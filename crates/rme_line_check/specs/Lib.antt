-- In reading order: the event of a transcript's line, the verdict on a transcript, how its lines are checked in order,
-- and the observations of a check.
pub mod EventLines
pub mod Verdicts
pub mod Judging
pub mod Observations
pub mod Observing
