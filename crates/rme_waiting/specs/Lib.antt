-- In reading order: who waits for whom; the words of a world; the laws of waiting workers in a world.
pub mod Waiting
pub mod WorldWords
pub mod Laws
