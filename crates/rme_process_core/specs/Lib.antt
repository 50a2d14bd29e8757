-- In reading order: the plain numbers that C reads and writes; the actions of a batch; the effect of its values on a
-- worker; the slate that a worker expects; the contracts of the functions below the calls; the worker of a handle; the
-- jobs that a worker accepts; the contract of each call; and the steps of a process.
pub mod Flat
pub mod Batches
pub mod Folds
pub mod ExpectedSlates
pub mod Runs
pub mod Workers
pub mod Jobs
pub mod Calls
pub mod Processes
