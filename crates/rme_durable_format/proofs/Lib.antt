-- How lines are appended to texts; the values of line 1, that they are unique, and that they are read from the text that
-- is written for them; newlines in bytes; the state that the lines lead to.
pub mod Growing
pub mod Telling
pub mod OnePast
mod Separating
mod JsonTexts
mod HeaderLines
mod CommandReading
mod SubmissionLines
pub mod Newlines
pub mod Leading
mod Living
pub mod Falling
pub mod Asking
pub mod Running
pub mod Opened
pub mod Stopping
