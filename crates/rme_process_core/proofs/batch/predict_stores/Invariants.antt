use Rattle.std.proofs.Common.{◌-◌}
use Rattle.rme_process_core.proofs.Telling.{TellsStores}
use Rattle.rme_process_core.proofs.batch.predict_stores.Given as goal

abbrev pub invariant-loop-batch : goal.invariant-loop-batch
invariant-loop-batch l = TellsStores l.fn.context.shape l.fn.context.until l.private l.ahead l.batch

abbrev pub decreases-loop-batch : goal.decreases-loop-batch
decreases-loop-batch l = 96 - l.batch.count
