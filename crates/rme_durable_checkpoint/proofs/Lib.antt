-- Workers that are down.
pub mod NotUp
