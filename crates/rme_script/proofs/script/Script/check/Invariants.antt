use Rattle.std.proofs.Common.{◌≡◌, drop}
use Rattle.std.specs.List.{list_all}
use Rattle.rme_script.specs.Scripts.{op_is_within}
use Rattle.rme_script.proofs.script.Script.check.Given as goal

abbrev pub invariant-loop-i : goal.invariant-loop-i
invariant-loop-i l = list_all (op_is_within l.shape.cells) (drop l.i l.self.ops) ≡ list_all (op_is_within l.shape.cells) l.self.ops
