pub mod ServiceAttempts
pub mod ServiceChoices
