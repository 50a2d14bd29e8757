-- In reading order: what a search finds; the workers and the spaces that a text names; what a key allows; the lines of
-- a file, and the file.
pub mod Finding
pub mod Workers
pub mod Spaces
pub mod Allowing
pub mod KeyLines
pub mod KeyFiles
