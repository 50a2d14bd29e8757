use Rattle.std.proofs.Common.{arith}
use Rattle.rme_script.proofs.Masks.{mask_step, mask_end}
use Rattle.rme_script.proofs.Rising.{cells_named_mask}
use Rattle.rme_script.proofs.mask.named.Goals as goal

pub loop-i-preserved : goal.loop-i-preserved
loop-i-preserved c =
    mask_step c.loop-i.mask c.op_mask-mask.result c.loop-i.i c.args.script.now.ops c.op.result c.op.ensures c.loop-i.invariant c.op_mask-mask.ensures

pub returns-clause-mask : goal.returns-clause-mask
returns-clause-mask c = mask_end c.loop-i.mask c.loop-i.i c.args.script.now.ops (omega arith) c.loop-i.invariant

pub returns-clause-cells : goal.returns-clause-cells
returns-clause-cells c = cells_named_mask c.loop-i.mask c.args.script.now.ops (returns-clause-mask c)
