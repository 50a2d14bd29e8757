-- In reading order: an executor and its lines; a client's session; the values that clients see over epochs, and the
-- replies that need no event; the base of a header; a session step over epochs, and the lives that clients are told; how
-- long an epoch is; and the state of a file, and its first bad line.
pub mod LoggedStates
pub mod ClientSessions
pub mod ClientValues
pub mod ImmediateReplies
pub mod HeaderBases
pub mod EpochStates
pub mod ClientLives
pub mod EpochLengths
pub mod RecoveredStates
