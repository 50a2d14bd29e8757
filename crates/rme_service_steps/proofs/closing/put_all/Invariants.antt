use Rattle.std.specs.Prelude.{◌≡◌, ◌++◌, take, vec_capacity}
use Rattle.rme_service_steps.proofs.closing.put_all.Given as goal

abbrev pub invariant-loop-at : goal.invariant-loop-at
invariant-loop-at l = (l.history.items ≡ l.initial.history.items ++ take l.at l.entries.entries) × (vec_capacity l.history ≡ vec_capacity l.initial.history)
