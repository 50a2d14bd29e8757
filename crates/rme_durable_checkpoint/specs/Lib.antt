-- In reading order: what a checkpoint preserves, and what growth does.
pub mod Checkpoints
pub mod Growths
