pub mod OperationLemmas
pub mod OpeningLemmas
