use Rattle.std.proofs.Common.{arith}
use Rattle.std.proofs.lemmas.List.{length-take}
use Rattle.rme_script.specs.declared.op.Op.{Op}
use Rattle.rme_script.specs.declared.op.Op.TheVariants.{Get}
use Rattle.rme_script.proofs.Fills.{kept_front}
use Rattle.rme_script.proofs.script.Script.of.Goals as goal

pub invariant_of-result : goal.invariant_of-result
invariant_of-result c =
    (omega arith, kept_front (Get 0) 8 _ _ _ (omega arith) (omega (arith, length-take {A = Op})) (omega arith))
