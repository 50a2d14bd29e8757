-- In reading order: the session view; the fencing token of a worker that is inside; own steps of one worker; a worker's
-- work on its job; the event batch of an order; the effect of an order; an executor; the event batch of a session.
pub mod WorkerSessions
pub mod Downs
pub mod FencingTokens
pub mod Outcomes
pub mod WorkerRuns
pub mod JobRuns
pub mod EventBatches
pub mod Replies
pub mod AppliedOrders
pub mod ExecutorStates
pub mod Executors
pub mod SessionBatches
