use Rattle.std.proofs.Common.{arith}
use Rattle.rme_script.proofs.Slating.{slate_at}
use Rattle.rme_script.proofs.slate.slate_word.Goals as goal

pub returns-then-part-eq0 : goal.returns-then-part-eq0
returns-then-part-eq0 c = slate_at c.args.script.now.ops c.args.at c.op.result c.op_words.result 0 c.requires c.op.ensures c.op_words.ensures.words (omega (arith, c.if-part-eq0.true))

pub returns-then-part-eq1 : goal.returns-then-part-eq1
returns-then-part-eq1 c = slate_at c.args.script.now.ops c.args.at c.op.result c.op_words.result 1 c.requires c.op.ensures c.op_words.ensures.words (omega (arith, c.if-part-eq1.true))

pub returns : goal.returns
returns c = slate_at c.args.script.now.ops c.args.at c.op.result c.op_words.result 2 c.requires c.op.ensures c.op_words.ensures.words (omega (arith, c.if-part-eq0.false, c.if-part-eq1.false))
