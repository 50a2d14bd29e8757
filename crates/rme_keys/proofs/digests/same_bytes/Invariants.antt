use Rattle.rme_keys.proofs.Equality.{AgreeBelow}
use Rattle.rme_keys.proofs.digests.same_bytes.Given as goal

-- the bytes so far differ in no bit exactly if they are equal
abbrev pub invariant-loop-i : goal.invariant-loop-i
invariant-loop-i l = AgreeBelow l.left l.right l.i l.difference
