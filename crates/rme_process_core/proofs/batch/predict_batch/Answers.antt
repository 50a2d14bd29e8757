use Rattle.std.proofs.Common.{[], subst, refl}
use Rattle.rme_program.specs.declared.stage.Stage.{Stage}
use Rattle.rme_process_core.specs.Runs.{PredictsUpTo, private_at_stage}
use Rattle.rme_process_core.proofs.Telling.{leads_fresh}
use Rattle.rme_process_core.proofs.batch.predict_batch.Goals as goal

pub returns-in-Climbing-clause-foretells : goal.returns-in-Climbing-clause-foretells
returns-in-Climbing-clause-foretells c =
    let private = c.args.private.now in
    let P : Stage → Type 0 = λ s. PredictsUpTo c.args.shape c.args.until private [] (private_at_stage private.worker private.begun s) in
    c.predict_climb.ensures.foretells private private.begun (subst P c.in-Climbing.is (leads_fresh c.args.shape c.args.until private [] refl))
