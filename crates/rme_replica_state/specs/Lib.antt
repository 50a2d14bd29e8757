-- In reading order: the lines among the bytes of a log; the state in a log.
pub mod SealedLogs
pub mod LogStates
