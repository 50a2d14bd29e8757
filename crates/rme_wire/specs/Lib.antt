-- In reading order, after the crates below that define a line and its names.
pub use Rattle.rme_line_io.specs.Pieces
pub use Rattle.rme_line_io.specs.Cuts
pub use Rattle.rme_line_io.specs.BufferedWrites
pub use Rattle.rme_line_io.specs.Readers
pub use Rattle.rme_line_io.specs.StreamCalls
pub use Rattle.rme_line_io.specs.LineRuns
pub use Rattle.rme_line_io.specs.Names
pub mod Values
pub mod Operations
pub mod Openings
pub mod Loadings
pub mod Commands
pub mod Requests
