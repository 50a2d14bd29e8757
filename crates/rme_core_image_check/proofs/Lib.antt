-- The answer of a test; lists filled from the front; nodes; rising numbers, and last entries; the conditions on one
-- worker; masks, shadow words and cells, and the conditions on one lock; all of them together.
pub mod Answering
pub mod Filling
pub mod Holders
pub mod Rising
pub mod LastEntries
pub mod Accounted
pub mod Shadowing
pub mod Standing
pub mod Together
