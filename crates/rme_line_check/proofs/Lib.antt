pub mod JudgeLemmas
pub mod WatchLemmas
