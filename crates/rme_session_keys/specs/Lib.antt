-- In reading order: the line that begins a session, the worker and the space that a line asks for, and how lines are answered.
pub mod Hellos
pub mod AskedWorkers
pub mod AskedSpaces
pub mod KeyedAnswers
