use Rattle.std.proofs.Common.{take}
use Rattle.rme_script.specs.Cells.{IsMaskOfOps}
use Rattle.rme_script.proofs.mask.named.Given as goal

abbrev pub invariant-loop-i : goal.invariant-loop-i
invariant-loop-i l = IsMaskOfOps l.mask (take l.i l.script.ops)
