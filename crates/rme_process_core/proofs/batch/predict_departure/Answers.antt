use Rattle.std.proofs.Common.{ap, ◌∙◌}
use Rattle.rme_process_core.proofs.Telling.{leads_at}
use Rattle.rme_program.specs.declared.stage.Stage.TheVariants.{Leaving}
use Rattle.rme_process_core.proofs.batch.predict_departure.Goals as goal

pub returns-in-Clear-clause-foretells : goal.returns-in-Clear-clause-foretells
returns-in-Clear-clause-foretells c =
    let context = c.args.context in let private = c.args.private.now in
    c.predict_node_releases.ensures.foretells private private.begun (leads_at context.shape context.until private _ c.args.batch.now c.requires.fresh (c.requires.here ∙ ap Leaving c.in-Clear.is))
