-- In reading order: the statuses, and the conversion of faults; words in texts; the texts of faults.
pub mod FaultStatuses
pub mod EscapedTexts
pub mod FaultTexts
pub mod Explanations
