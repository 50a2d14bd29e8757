-- Of a durable server: when two worlds are alike; the lines of events, and a recovered world; two histories of a server
-- by the same log; a session whose worker is inside a lock.
pub mod AlikeWorlds
pub mod LoggedLines
pub mod Histories
pub mod HeldLocks
-- Of many servers: all that was ever put to one log, and its laws.
pub mod Puts
-- Of processes: their runs over one file; that they are of one world; what holds while an owner is inside its lock; and
-- the section that it is told.
pub mod ProcessRuns
pub mod OneWorld
pub mod InsideRuns
pub mod ProcessSections
