-- In reading order: the jobs of plans, and the plans that can be supervised; the falls; the possible ends of a worker's
-- lives; the stop of one life; a worker between two lives; the final contents of the slots; and the answers of a run.
pub mod Plans
pub mod Falling
pub mod Ends
pub mod Stops
pub mod WorkerSlots
pub mod LifeResults
pub mod Supervised
