-- In reading order, after the names of locks: the client's receipts, the texts of parts, of whole answers, and of a
-- transcript's lines.
pub use Rattle.rme_line_io.specs.Names
pub mod ClientReceipts
pub mod Texts
pub mod Replies
pub mod Events
