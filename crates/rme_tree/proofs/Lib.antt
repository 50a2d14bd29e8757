-- In order of dependence: the levels of a path, the levels held, the laws of one step, the first number that passes a
-- test, the owner, the clause on single nodes, the descent from a node, the worker that holds a node, the stores of a
-- memory.
pub mod Levels
pub mod Holding
pub mod Steps
pub mod Firsts
pub mod Ownership
pub mod Local
pub mod Descent
pub mod Holders
pub mod Memory
