-- In order of dependence: the worker that a waiting worker waits for; in trees in which every taken node has a holder; in
-- a world.
pub mod Holders
pub mod Blocked
pub mod Climbing
