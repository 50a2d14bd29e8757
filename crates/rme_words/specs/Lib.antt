-- In reading order: the shape and its limits, the addresses and their numbers, the effect of a store.
pub mod Shapes
pub mod Words
pub mod Refusals
