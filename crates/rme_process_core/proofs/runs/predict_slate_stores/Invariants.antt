use Rattle.std.proofs.Common.{◌*◌}
use Rattle.rme_process_core.proofs.Going.{TellsPost}
use Rattle.rme_process_core.proofs.runs.predict_slate_stores.Given as goal

abbrev pub invariant-loop-at : goal.invariant-loop-at
invariant-loop-at l = TellsPost l.fn.context.shape l.fn.context.until l.private l.slate.job (3 * l.at) l.batch
