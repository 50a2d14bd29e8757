-- In reading order: a log on an engine, and the effect of one call on it; what an answer says; many tries of one add;
-- a store over an engine; and a log in memory.
pub mod EngineLogs
pub mod Answers
pub mod Tries
pub mod Ownerships
pub mod ReplicaStores
pub mod MemoryLogs
pub mod KnownLogs
pub mod MemoryEngines
