-- The meaning of each test; the tests and the total functions decide the machine's steps; the reads and the invariant
-- of a checker state; the effect of its changes on the machine's state.
pub mod Tests
pub mod Deciding
pub mod StateReads
pub mod Taking
