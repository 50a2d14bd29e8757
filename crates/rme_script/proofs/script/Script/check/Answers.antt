use Rattle.std.proofs.Common.{sym, ◌∙◌, arith}
use Rattle.rme_script.proofs.Checks.{check_next, check_bad, check_no_cell}
use Rattle.rme_script.proofs.script.Script.check.Goals as goal

pub loop-i-preserved : goal.loop-i-preserved
loop-i-preserved c =
    check_next c.args.shape.cells c.loop-i.i c.args.self.now.ops c.op.result c.op.ensures (sym c.is_within.ensures ∙ c.if-not-is_within.false) c.loop-i.invariant

pub returns-then-not-is_within-clause-exact : goal.returns-then-not-is_within-clause-exact
returns-then-not-is_within-clause-exact c =
    check_no_cell c.args.shape.cells c.args.self.now (omega arith)
    (check_bad c.args.shape.cells c.loop-i.i c.args.self.now.ops c.op.result c.op.ensures (sym c.is_within.ensures ∙ c.if-not-is_within.true) c.loop-i.invariant)
