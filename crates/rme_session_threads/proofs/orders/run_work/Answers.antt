use Rattle.std.proofs.Common.{subst}
use Rattle.rme_session_protocol.specs.declared.planned_crash.PlannedCrash.{PlannedCrash}
use Rattle.rme_session_threads.specs.SessionWorks.{WorkEffect, WorkSettlement, work_holding, work_lead}
use Rattle.rme_session_threads.specs.JobOutcomes.{holding_steps}
use Rattle.rme_session_threads.proofs.Working.{left_so, settled_place, settled_told, settled_tried}
use Rattle.rme_session_threads.proofs.orders.run_work.Goals as goal

pub returns-clause-did : goal.returns-clause-did
returns-clause-did g c =
    let P : PlannedCrash → Type 0 = λ planned. WorkSettlement c.perform_work-worked.result planned c.args.life c.finish_work.result.0 c.finish_work.result.1 c.finish_work.result.2 in
    left_so c.args.service.now.shape (work_lead c.args.work) c.args.life (record { value = work_holding c.args.work; planned = c.args.planned; life = c.args.life }) (WorkEffect c.args.service.now.shape c.args.work)
    c.perform_work-worked.new.planned.countdown c.perform_work-worked.result c.finish_work.result.0 c.finish_work.result.1 c.finish_work.result.2 c.perform_work-worked.ensures.did c.perform_work-worked.ensures.plan
    (subst P c.remaining.ensures c.finish_work.ensures.settles)

pub returns-clause-tried : goal.returns-clause-tried
returns-clause-tried g c = λ most has.
    settled_tried most (holding_steps (work_holding c.args.work)) c.remaining.result c.args.life c.perform_work-worked.result c.finish_work.result.0 c.finish_work.result.1 c.finish_work.result.2 c.finish_work.ensures.settles
    (c.perform_work-worked.ensures.tried most has)

pub returns-clause-told : goal.returns-clause-told
returns-clause-told g c =
    settled_told c.args.service.now.shape c.remaining.result c.args.life c.perform_work-worked.result c.finish_work.result.0 c.finish_work.result.1 c.finish_work.result.2 c.finish_work.ensures.settles
    c.perform_work-worked.ensures.told

pub returns-clause-place : goal.returns-clause-place
returns-clause-place g c =
    settled_place (work_holding c.args.work) c.remaining.result c.args.life c.perform_work-worked.result c.finish_work.result.0 c.finish_work.result.1 c.finish_work.result.2 c.finish_work.ensures.settles
    c.perform_work-worked.ensures.place
