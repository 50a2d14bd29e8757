use Rattle.std.proofs.Common.{◌≡◌, take}
use Rattle.rme_script.proofs.script.Script.same.Given as goal

abbrev pub invariant-loop-i : goal.invariant-loop-i
invariant-loop-i l = take l.i l.self.ops ≡ take l.i l.other.ops
