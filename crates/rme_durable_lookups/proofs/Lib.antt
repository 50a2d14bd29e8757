-- Texts of numbers; and the notes on workers.
pub mod Listing
pub mod Noting
