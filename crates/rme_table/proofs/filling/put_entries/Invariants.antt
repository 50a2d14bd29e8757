use Rattle.std.specs.Prelude.{◌≡◌, take, vec_capacity}
use Rattle.rme_machine.specs.Histories.{history_of_lock}
use Rattle.rme_table.proofs.filling.put_entries.Given as goal

abbrev pub invariant-loop-entry : goal.invariant-loop-entry
invariant-loop-entry l = (l.own.items ≡ history_of_lock (take l.entry-index l.entries) l.lock) × (vec_capacity l.own ≡ vec_capacity l.initial.own)
