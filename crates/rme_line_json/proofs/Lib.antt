pub mod NumberLemmas
pub mod Reading
pub mod ValueLemmas
pub mod Viewing
