pub mod Found
pub mod OrderLemmas
pub mod TokenLemmas
pub mod Counting
pub mod Refusing
pub mod Trying
