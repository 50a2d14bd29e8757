use Rattle.rme_process_core.proofs.Going.{TellsClears}
use Rattle.rme_process_core.proofs.runs.predict_node_releases.Given as goal

abbrev pub invariant-loop-cleared : goal.invariant-loop-cleared
invariant-loop-cleared l = TellsClears l.fn.context.shape l.fn.context.until l.worker l.lock l.level l.cleared l.fn.batch l.batch
