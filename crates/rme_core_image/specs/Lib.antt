-- In reading order: the bytes of an image and their contents, then the parsers as functions on lists, which only
-- private contracts cite.
pub mod Images
pub mod Parsing
