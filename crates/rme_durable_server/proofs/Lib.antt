-- The lines that an event batch adds; the state to which the log leads; orders that are executed try by try.
pub mod Growing
pub mod Leading
pub mod Extending
pub mod Keeping
mod Choosing
