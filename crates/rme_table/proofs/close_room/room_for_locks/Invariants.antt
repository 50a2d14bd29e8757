use Rattle.std.specs.Prelude.{◌≡◌, ℕ, ◌≤◌, length, slice_get, Some, vec_capacity}
use Rattle.rme_machine.specs.Histories.{history_of_lock}
use Rattle.rme_service_steps.specs.Closing.{entries_given}
use Rattle.rme_table.specs.declared.closed.ClosedLock.{ClosedLock}
use Rattle.rme_table.specs.Filling.{LockHasRoom}
use Rattle.rme_table.proofs.close_room.room_for_locks.Given as goal

abbrev pub invariant-loop-lock : goal.invariant-loop-lock
invariant-loop-lock l = (l.shape.locks ≤ vec_capacity l.locks) × (length l.locks.items ≡ l.lock)
    × ((lock : ℕ) (room : ClosedLock) → slice_get l.locks.items lock ≡ Some room → LockHasRoom l.shape (length (history_of_lock (entries_given l.downs) lock)) room)
