use Rattle.rme_script.proofs.Runs.{Going}
use Rattle.rme_script.proofs.run.eval.Given as goal

abbrev pub invariant-loop-i : goal.invariant-loop-i
invariant-loop-i l = Going l.script.ops l.fn.row l.i l.row l.reply
