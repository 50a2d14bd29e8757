use Rattle.rme_process_core.proofs.Going.{TellsSwaps}
use Rattle.rme_process_core.proofs.runs.predict_swaps.Given as goal

abbrev pub invariant-loop-level : goal.invariant-loop-level
invariant-loop-level l = TellsSwaps l.fn.context.shape l.fn.context.until l.worker l.fn.ascent.lock l.fn.ascent.held l.level l.fn.batch l.batch
