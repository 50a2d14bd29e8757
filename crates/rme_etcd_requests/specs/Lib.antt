-- In reading order: the transactions that a log makes, as JSON; heads as JSON; what an answer says.
pub mod Transactions
pub mod HeadTexts
pub mod TransactionAnswers
