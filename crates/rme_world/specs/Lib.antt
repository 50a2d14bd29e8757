-- In reading order: the counts of steps, the view of a world in contracts, the initial world, the refusals of each
-- event, the effect of each event, what steps and look-ups report, the refinement theorem, the contract of each call,
-- lists of events, saved worlds, and the report of a step.
pub mod Counting
pub mod WorldViews
pub mod WorldInvariants
pub mod Opening
pub mod Refusals
pub mod Events
pub mod Queries
pub mod Refinement
pub mod Calls
pub mod EventLists
pub mod Images
pub mod StepReports
