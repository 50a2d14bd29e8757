-- In reading order: how a command ends; how long it waits; times; tables, and their rows; the
-- tables of answers; pages of the names of spaces.
pub mod Ends
pub mod Waits
pub mod Ages
pub mod Tables
pub mod StatusRows
pub mod TopRows
pub mod LookUps
pub mod SpaceLines
