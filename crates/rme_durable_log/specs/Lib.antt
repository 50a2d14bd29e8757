-- In reading order: the effect of one call on the contents of a store; the log, and the prefixes of it that were
-- stored; and the log as threads share it.
pub mod StoreCalls
pub mod Logs
pub mod LogRules
