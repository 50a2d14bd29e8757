use Rattle.std.proofs.Common.{List, length, subst}
use Rattle.rme_service_steps.specs.SeatViews.{SeatView}
use Rattle.rme_supervisor.specs.declared.plan.WorkerPlan.{WorkerPlan}
use Rattle.rme_supervisor.specs.Plans.{AreWorkerPlans}
use Rattle.rme_supervisor.proofs.Lives.{ordered}
use Rattle.rme_supervisor.proofs.run.run.Goals as goal

pub returns-in_default-clause-unattended : goal.returns-in_default-clause-unattended
returns-in_default-clause-unattended g c =
    let run = g.K.RunTag.run in
    let P : List WorkerPlan → Type 0 = λ plans. AreWorkerPlans plans (length c.args.downs.items) in
    let Q : List SeatView → Type 0 = λ downs. AreWorkerPlans run.plans (length downs) in
    record { ours = c.requires.ours; why = (subst Q c.requires.named.2 (subst P c.requires.named.1 c.requires.good), c.requires.all) }

pub keep_all-requires-clause-orders : goal.keep_all-requires-clause-orders
keep_all-requires-clause-orders g c = λ κs within worker plan at.
    ordered g.K.Tag.ident g.K.RunTag.run c.args.context.now.service.now c.args.context.now.schedule.rounds c.args.context.now.schedule.plans.now (g.G.Gate.answered c.args.context.now.gate.now) g.G.Gate.lets_all (length c.args.downs.items) c.requires.named.0 c.requires.named.3
    c.requires.named.1 c.requires.good c.requires.away worker plan at
