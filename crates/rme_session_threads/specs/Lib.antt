-- In reading order: the planned crash as a Chance; the lives of a worker; what a session holds, and its view; the
-- outcome of a job; the outcome of attaching a worker; the work of an order; and the effect of each order. Views,
-- refusals and answers are those of rme_session_protocol.
pub mod CrashPlans
pub mod Lives
pub mod Stands
pub mod JobOutcomes
pub mod Attaching
pub mod SessionWorks
pub mod ThreadSteps
pub mod WorkerSlots
