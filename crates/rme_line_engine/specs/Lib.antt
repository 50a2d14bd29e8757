-- In reading order, after the output of a run of lines: the state that the lines leave, the answer to each call of a
-- world, what a tally sees of a step, the effect of a walk and of each command, the answer to each line and its tally,
-- and the transcript of each line.
pub use Rattle.rme_line_io.specs.LineRuns
pub mod EngineStates
pub mod Tallies
pub mod WorldWalks
pub mod CommandEffects
pub mod Lines
pub mod Laws
pub mod Transcripts
pub mod Outputs
pub mod Engines
