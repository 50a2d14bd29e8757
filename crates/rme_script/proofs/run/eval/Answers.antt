use Rattle.std.proofs.Common.{arith}
use Rattle.rme_script.proofs.Runs.{going_next, going_end, ended_unnamed, ended_local}
use Rattle.rme_script.proofs.run.eval.Goals as goal

pub loop-i-preserved : goal.loop-i-preserved
loop-i-preserved c =
    going_next c.args.script.now.ops c.args.row.now c.loop-i.i c.op.result c.loop-i.row _ c.loop-i.reply _
    c.op.ensures c.perform-reply.ensures.row c.perform-reply.ensures.value c.loop-i.invariant

pub returns-clause-fold : goal.returns-clause-fold
returns-clause-fold c = going_end c.args.script.now.ops c.args.row.now c.loop-i.i c.loop-i.row c.loop-i.reply (omega arith) c.loop-i.invariant

pub returns-clause-unnamed : goal.returns-clause-unnamed
returns-clause-unnamed c = ended_unnamed c.args.script.now.ops c.args.row.now c.loop-i.row c.loop-i.reply (returns-clause-fold c)

pub returns-clause-local : goal.returns-clause-local
returns-clause-local c = ended_local c.args.script.now.ops c.args.row.now c.loop-i.row c.loop-i.reply (returns-clause-fold c)
