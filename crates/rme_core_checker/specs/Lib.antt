-- In reading order: the views of a machine and of its checker state; the answer of `admits`. Then, cited by no public
-- contract: how a step is decided and its new state, and the invariant of a checker state.
pub mod Views
pub mod Admitting
pub mod Deciding
pub mod Invariants
