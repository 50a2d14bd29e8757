-- In reading order.
pub mod StreamEvents
pub mod BufferedWrites
pub mod Pieces
pub mod Cuts
pub mod Readers
pub mod StreamCalls
pub mod LineRuns
pub mod Names
