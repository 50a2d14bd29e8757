use Rattle.std.proofs.Common.{ap, ◌∙◌}
use Rattle.rme_process_core.proofs.Telling.{leads_at}
use Rattle.rme_program.specs.declared.stage.Stage.TheVariants.{Logging}
use Rattle.rme_process_core.proofs.batch.predict_log.Goals as goal

pub returns-in-LoadTurn-clause-foretells : goal.returns-in-LoadTurn-clause-foretells
returns-in-LoadTurn-clause-foretells c =
    let context = c.args.context in let private = c.args.private.now in
    c.predict_section.ensures.foretells private private.begun (leads_at context.shape context.until private _ c.args.batch.now c.requires.fresh (c.requires.here ∙ ap Logging c.in-LoadTurn.is))
