-- In reading order: the effect of one call on the bytes of a file; a file as the store of a log; how a server begins
-- with a file, and how its state grows; and the faults of files that are no state.
pub mod DiskFiles
pub mod FileStores
pub mod Starts
pub mod Growths
pub mod BadLogs
