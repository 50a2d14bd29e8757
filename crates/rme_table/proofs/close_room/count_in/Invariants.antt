use Rattle.std.specs.Prelude.{◌≡◌, ◌≤◌, take, length}
use Rattle.rme_machine.specs.Histories.{history_of_lock}
use Rattle.rme_table.proofs.close_room.count_in.Given as goal

abbrev pub invariant-loop-at : goal.invariant-loop-at
invariant-loop-at l = (l.count ≡ length (history_of_lock (take l.at l.entries.entries) l.lock)) × (l.count ≤ l.at)
