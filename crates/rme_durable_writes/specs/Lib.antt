-- In reading order: the checksum; a log as it is written; how its next write is made; what is read of it.
pub mod Checksums
pub mod Writes
pub mod Sealing
pub mod Finding
pub mod Reading
