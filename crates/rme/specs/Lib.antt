-- The definitions of the crates below that a caller's contracts and proofs cite: the values of workers and their
-- service; Downs of one service, those of all workers in order, and those that slots are made of; what a session may
-- hold; and whether a job is over.
pub use Rattle.rme_service_steps.specs.SeatViews
pub use Rattle.rme_service_steps.specs.Closing
pub use Rattle.rme_supervisor.specs.Supervised
pub use Rattle.rme_session_threads.specs.WorkerSlots
pub use Rattle.rme_session_threads.specs.Stands as Holdings
pub use Rattle.rme_table.specs.Calls
