use Rattle.std.proofs.Common.{subst, sym, ◌∙◌}
use Rattle.std.specs.Prelude.{None, Some}
use Rattle.rme_words.specs.declared.shape.Shape.{Shape}
use Rattle.rme_session_protocol.specs.Refusals.{OrderRefusal}
use Rattle.rme_session_protocol.specs.declared.view.Session.{Session}
use Rattle.rme_session_protocol.specs.declared.order.Order.{Order}
use Rattle.rme_session_protocol.specs.declared.order.Order.TheVariants as order
use Rattle.rme_session_world.specs.AppliedOrders.{AppliesOrder}
use Rattle.rme_session_world.specs.declared.orders.AppliedOrder.{AppliedOrder}
use Rattle.rme_session_world.specs.WorkerSessions.{IsNumberWithinJobs}
use Rattle.rme_session_world.proofs.Beginning.{has_draft, not_nobody, number_within}
use Rattle.rme_session_world.proofs.Sorting.{attach_refused, commits, refused_carries, resumed}
use Rattle.rme_session_world.proofs.orders.apply_with_worker.Goals as goal

pub returns-in-Some-clause-carries : goal.returns-in-Some-clause-carries
returns-in-Some-clause-carries c =
    let S = λ (s : Shape). OrderRefusal s c.args.session.now c.args.order.now (Some c.in-Some.why) in
    let V = λ (v : Session). OrderRefusal c.args.world.now.shape v c.args.order.now (Some c.in-Some.why) in
    let P = λ (carried : AppliedOrder). AppliesOrder c.args.world.now (Some c.args.worker) c.args.planned c.args.order.now carried c.args.world.now in
    subst P (sym c.refused_order.ensures)
    (refused_carries c.args.world.now c.args.worker c.args.planned c.args.order.now c.in-Some.why c.requires.rests (subst V c.requires.session (subst S c.shape.ensures c.in-Some.ensures)))

pub order_refusal-requires : goal.order_refusal-requires
order_refusal-requires c =
    let S = λ (s : Shape). IsNumberWithinJobs s c.args.session.now in
    record { few = subst S (sym c.shape.ensures) (number_within c.args.world.now c.args.worker c.recall_invariant.ensures c.requires.rests c.args.session.now c.requires.session) }

pub unreachable-requires : goal.unreachable-requires
unreachable-requires c =
    let O = λ (its : Order). OrderRefusal c.shape.result c.args.session.now its None in
    attach_refused c.shape.result c.in-Attach.field-0.worker c.args.session.now (λ none. not_nobody c.args.world.now c.args.worker c.recall_invariant.ensures c.requires.rests (sym c.requires.session ∙ none))
    (subst O c.in-Attach.is c.in_default.ensures)

pub returns-in-Resume-clause-carries : goal.returns-in-Resume-clause-carries
returns-in-Resume-clause-carries c =
    let O = λ (its : Order). OrderRefusal c.shape.result c.args.session.now its None in
    let P = λ (carried : AppliedOrder). AppliesOrder c.args.world.now (Some c.args.worker) c.args.planned (order.Resume c.in-Resume.field-0) carried c.continue_job-worked.new.world in
    let Q = λ (its : Order). AppliesOrder c.args.world.now (Some c.args.worker) c.args.planned its c.worked_order.result c.continue_job-worked.new.world in
    subst Q (sym c.in-Resume.is)
    (subst P (sym c.worked_order.ensures)
    (resumed c.args.world.now c.continue_job-worked.new.world c.args.worker c.args.planned c.continue_job-worked.result c.requires.rests c.continue_job-worked.ensures.went c.args.session.now c.requires.session c.in-Resume.field-0
    (subst O c.in-Resume.is c.in_default.ensures)))

pub returns-in-Commit-clause-carries : goal.returns-in-Commit-clause-carries
returns-in-Commit-clause-carries c =
    let O = λ (its : Order). OrderRefusal c.shape.result c.args.session.now its None in
    let P = λ (carried : AppliedOrder). AppliesOrder c.args.world.now (Some c.args.worker) c.args.planned order.Commit carried c.continue_job-worked-in-Commit.new.world in
    let Q = λ (its : Order). AppliesOrder c.args.world.now (Some c.args.worker) c.args.planned its c.worked_order-in-Commit.result c.continue_job-worked-in-Commit.new.world in
    subst Q (sym c.in-Commit.is)
    (subst P (sym c.worked_order-in-Commit.ensures)
    (commits c.args.world.now c.continue_job-worked-in-Commit.new.world c.args.worker c.args.planned c.continue_job-worked-in-Commit.result c.requires.rests c.continue_job-worked-in-Commit.ensures.went c.args.session.now c.requires.session
    (subst O c.in-Commit.is c.in_default.ensures)))

pub pending_job-requires : goal.pending_job-requires
pending_job-requires c =
    let O = λ (its : Order). OrderRefusal c.shape.result c.args.session.now its None in
    has_draft c.args.world.now c.args.worker c.recall_invariant.ensures c.requires.rests c.args.session.now c.requires.session (subst O c.in-Pending.is c.in_default.ensures)

pub returns-in-Detach-clause-carries : goal.returns-in-Detach-clause-carries
returns-in-Detach-clause-carries c =
    let Q = λ (its : Order). AppliesOrder c.args.world.now (Some c.args.worker) c.args.planned its c.detach.result c.detach.new.world in
    subst Q (sym c.in-Detach.is) (c.detach.ensures.carries c.args.planned)
