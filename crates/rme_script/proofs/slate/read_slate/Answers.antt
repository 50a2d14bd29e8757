use Rattle.std.proofs.Common.{sym, ◌∙◌}
use Rattle.rme_script.proofs.Readings.{reading_next, reading_none}
use Rattle.rme_script.proofs.slate.read_slate.Goals as goal

pub loop-i-preserved : goal.loop-i-preserved
loop-i-preserved c =
    rw c.put.ensures (
      c.loop-i.invariant.0,
      reading_next c.args.n c.args.words.now c.loop-i.i c.loop-i.script.ops c.if-n.false c.told-words c.loop-i-test.true c.loop-i.invariant.1 c.in-Some.op (sym c.op_from_words.ensures ∙ c.in-Some.is),
    )

pub returns-in_default-clause-none : goal.returns-in_default-clause-none
returns-in_default-clause-none c = λ no.
    reading_none c.args.n c.args.words.now c.loop-i.i c.loop-i.script.ops c.if-n.false c.told-words c.loop-i-test.true c.loop-i.invariant.1 (sym c.op_from_words.ensures ∙ c.in_default.is)
