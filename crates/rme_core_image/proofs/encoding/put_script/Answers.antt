use Rattle.std.proofs.lemmas.List.Elements.{All-more}
use Rattle.rme_core_image.specs.Images.{IsSmallOp, op_bytes}
use Rattle.rme_core_image.proofs.Appends.{item_more}
use Rattle.rme_core_image.proofs.encoding.put_script.Goals as goal

pub loop-op-preserved : goal.loop-op-preserved
loop-op-preserved c = (
  item_more op_bytes _ _ _ c.args.ops.now c.loop-op.op-index _ c.loop-op-test.true c.loop-op.invariant.0 c.in_ok-put_op.ensures.put,
  All-more IsSmallOp c.args.ops.now c.loop-op.op-index _ c.loop-op-test.true c.loop-op.invariant.1 c.in_ok-put_op.ensures.small,
)
