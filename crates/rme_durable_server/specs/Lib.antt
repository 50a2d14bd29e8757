-- In reading order: the history of a server's life; how orders are executed and answered; how the server chooses a
-- worker; how the lines of a session are answered.
pub mod ServerHistories
pub mod DurableOrders
pub mod DurableChoices
pub mod DurableAnswers
