use Rattle.std.specs.Prelude.{◌≡◌, take, true}
use Rattle.rme_supervisor.specs.Supervised.{all_fresh}
use Rattle.rme_supervisor.proofs.checking.are_fresh.Given as goal

abbrev pub invariant-loop-down : goal.invariant-loop-down
invariant-loop-down l = all_fresh (take l.down-index l.downs) ≡ true
