use Rattle.std.proofs.Common.{◌*◌}
use Rattle.rme_process_core.proofs.Loading.{TellsSection}
use Rattle.rme_process_core.proofs.loads.predict_section.Given as goal

abbrev pub invariant-loop-at : goal.invariant-loop-at
invariant-loop-at l = TellsSection l.context.shape l.context.until l.worker l.lock l.guess.script.n l.guess.words (3 * l.at) l.fn.batch l.batch
