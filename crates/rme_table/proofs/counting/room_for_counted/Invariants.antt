use Rattle.std.specs.Prelude.{◌≡◌, ℕ, ◌≤◌, length, slice_get, Some, vec_capacity}
use Rattle.rme_table.specs.declared.closed.CountedLock.{CountedLock}
use Rattle.rme_table.specs.Counting.{LockHasCountRoom}
use Rattle.rme_table.proofs.counting.room_for_counted.Given as goal

abbrev pub invariant-loop : goal.invariant-loop
invariant-loop l = (l.shape.locks ≤ vec_capacity l.locks) × (length l.locks.items ≡ l.counter)
    × ((lock : ℕ) (room : CountedLock) → slice_get l.locks.items lock ≡ Some room → LockHasCountRoom l.shape room)
