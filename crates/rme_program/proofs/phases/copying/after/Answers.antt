use Rattle.rme_program.proofs.phases.copying.after.Goals as goal

pub returns-in-LoadMask-clause-stage : goal.returns-in-LoadMask-clause-stage
returns-in-LoadMask-clause-stage c = c.copy_stage_from.ensures.stage _

pub returns-in-StoreCell-clause-stage : goal.returns-in-StoreCell-clause-stage
returns-in-StoreCell-clause-stage c = c.copy_stage_from-in-StoreCell.ensures.stage _
