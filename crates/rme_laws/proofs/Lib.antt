-- Of a durable server: the value that a store finds does not matter; one event from alike worlds leads to alike worlds,
-- and so do all events, walks, and the lines of a file.
pub mod Steps
pub mod Events
pub mod Still
pub mod Walks
pub mod Lines
pub mod Written
pub mod Reading
pub mod Others
pub mod Batches
pub mod HeaderPlaces
pub mod Histories
pub mod Lives
pub mod Prefixes
pub mod Headers
pub mod Crashes
pub mod Reaching
pub mod Inside
pub mod Sections
pub mod Places
-- Of many servers over one log.
pub mod Heads
-- Of processes over one file.
pub mod Actions
pub mod Values
pub mod Leaving
pub mod Happenings
pub mod Moves
pub mod Runs
pub mod Staying
pub mod ProcessSections
