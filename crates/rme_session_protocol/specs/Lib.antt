-- In reading order: the patience of an order, the label of a client, the order of a line, its reading token by token,
-- the client's replies, the texts of the answers, and a worker that the server chooses; then the effect of an order.
pub mod Patience
pub mod ClientLabels
pub mod Orders
pub mod Tokens
pub mod ClientReplies
pub mod ReplyTexts
pub mod WorkerChoices
-- In reading order: the planned crash; the session view; the refusals of each order; the effect and the answer of each
-- order; an order that is executed in parts; and the answers to the lines of a session.
pub mod PlannedCrashes
pub mod SessionViews
pub mod Refusals
pub mod SessionSteps
pub mod Attempts
pub mod SessionLines
