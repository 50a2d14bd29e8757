use Rattle.std.proofs.Common.{arith}
use Rattle.rme_keys.proofs.Equality.{agree_none, agree_more, agree_all}
use Rattle.rme_keys.proofs.digests.same_bytes.Goals as goal

pub loop-i-init : goal.loop-i-init
loop-i-init c = agree_none c.args.left.now c.args.right.now

pub loop-i-preserved : goal.loop-i-preserved
loop-i-preserved c = agree_more c.args.left.now c.args.right.now c.loop-i.i c.loop-i.difference c.loop-i.invariant

pub returns : goal.returns
returns c = agree_all c.args.left.now c.args.right.now c.loop-i.i c.loop-i.difference (omega arith) (omega arith) c.loop-i.invariant
