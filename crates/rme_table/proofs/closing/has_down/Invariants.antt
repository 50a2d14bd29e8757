use Rattle.std.specs.Prelude.{◌≡◌, take, false}
use Rattle.rme_table.specs.Downs.{has_down}
use Rattle.rme_table.proofs.closing.has_down.Given as goal

abbrev pub invariant-loop-down : goal.invariant-loop-down
invariant-loop-down l = has_down (take l.down-index l.downs) l.worker ≡ false
