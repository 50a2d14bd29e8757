-- In reading order: a file's bytes and their contents; why bytes are no such file; the locks and workers of the words,
-- and their texts; the soundness of words.
pub mod ProcessFiles
pub mod FileDefects
pub mod FileContents
pub mod FileTexts
pub mod Sound
