use Rattle.rme_program.proofs.steps.stage_after.Goals as goal

pub returns-in_default-clause-stage : goal.returns-in_default-clause-stage
returns-in_default-clause-stage c = c.in_default.ensures.stage c.args.begun
