-- In reading order: the values of workers that are down, and of those that are up; the contracts of their calls, and a
-- job that may be posted; the outcome of driving a worker; the tag of no service; the room of a close, its answer, and
-- the answer of a close with counts.
pub mod Downs
pub mod Kinds
pub mod Leaves
pub mod Calls
pub mod Admissions
pub mod Driving
pub mod Tags
pub mod Filling
pub mod Closing
pub mod Counting
