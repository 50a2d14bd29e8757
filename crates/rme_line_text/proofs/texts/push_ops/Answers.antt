use Rattle.std.proofs.Common.{string_bytes}
use Rattle.rme_line_text.specs.Texts.{op_text}
use Rattle.rme_script.proofs.Lists.{drop_at}
use Rattle.rme_line_text.proofs.TextLemmas.{separates_next}
use Rattle.rme_line_text.proofs.texts.push_ops.Goals as goal

pub loop-index-preserved : goal.loop-index-preserved
loop-index-preserved c =
    let here = drop_at c.args.script.now.ops c.loop-index.index c.op.result c.op.ensures in
    let so_far = rw here at c.loop-index.invariant in
    separates_next op_text (string_bytes c.args.out.now) c.args.script.now.ops _ _ c.op.result _ _ _ so_far c.in_ok-push_comma.ensures c.in_ok-push_op.ensures
