-- In reading order: histories; the abstract machine, its steps and its runs; the words of a worker and of a lock; the
-- abstraction function; the private invariant; the invariant, and the clauses of an image as written; the label of an
-- event; how private states and histories change; the laws of a step, and further laws; the machine's theorems; what a
-- worker may know of its section.
pub mod Histories
pub mod Machine
pub mod Views
pub mod AbstractState
pub mod AbstractCells
pub mod Knowledge
pub mod Invariant
pub mod Clauses
pub mod Labels
pub mod Changes
pub mod Laws
pub mod FurtherLaws
pub mod Theorems
pub mod KnownSections
