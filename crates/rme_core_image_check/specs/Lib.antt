-- In reading order: the values read from a bank; the last entries of a history, and when its numbers rise; the
-- conditions on one worker's words; the conditions on one lock's.
pub mod Reads
pub mod LastEntryLists
pub mod Workers
pub mod Locks
