use Rattle.std.proofs.Common.{◌∙◌, sym, ap, length}
use Rattle.rme_script.specs.Eval.{RunResult}
use Rattle.rme_script.proofs.Laws.{eval_length}
use Rattle.rme_program.proofs.phases.logging.run_log.Goals as goal

pub returns-in-Some-clause-stage : goal.returns-in-Some-clause-stage
returns-in-Some-clause-stage c = (c.requires.lock, c.in-Some.ensures.below, sym (ap (λ (ran : RunResult). length ran.row) c.eval-reply.ensures.fold) ∙ (eval_length _ _ ∙ c.requires.row))
