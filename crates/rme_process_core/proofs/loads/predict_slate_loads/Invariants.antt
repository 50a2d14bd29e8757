use Rattle.rme_process_core.proofs.Loading.{TellsSlate}
use Rattle.rme_process_core.proofs.loads.predict_slate_loads.Given as goal

abbrev pub invariant-loop-at : goal.invariant-loop-at
invariant-loop-at l = TellsSlate l.fn.context.shape l.fn.context.until l.worker l.operations l.loaded l.at l.batch
