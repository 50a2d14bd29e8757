-- In reading order: tokens and receipts; the answers to single lines; the answers that a client reads.
pub mod Fencing
pub mod Answers
pub mod Repeating
