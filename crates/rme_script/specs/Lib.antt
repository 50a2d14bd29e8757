-- In reading order: a script as the list of its operations, the scripts that fit a row, the cells that a script names,
-- its effect on a row, and its words. Only `IsPaddedList` is about the layout of scripts and rows in memory.
pub mod Programs
pub mod Scripts
pub mod Cells
pub mod Jobs
pub mod JobRefusals
pub mod Eval
pub mod RowAgreement
pub mod Slates
pub mod Padding
