use Rattle.std.specs.Prelude.{◌≡◌, ℕ, ◌<◌, true}
use Rattle.rme_table.specs.Downs.{has_down}
use Rattle.rme_table.proofs.closing.all_given.Given as goal

abbrev pub invariant-loop-worker : goal.invariant-loop-worker
invariant-loop-worker l = (worker : ℕ) → worker < l.worker → has_down l.downs worker ≡ true
