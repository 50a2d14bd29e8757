use Rattle.std.proofs.Common.{◌≡◌, ℕ, ap, subst, ◌∙◌}
use Rattle.std.specs.Prelude.{None}
use Rattle.rme_words.specs.declared.shape.Shape.{Shape}
use Rattle.rme_service_steps.specs.SeatViews.{ServiceId}
use Rattle.rme_session_protocol.specs.Refusals.{attach_refusal}
use Rattle.rme_session_threads.specs.Attaching.{AttachAnswer, WorkerRecovery}
use Rattle.rme_session_threads.specs.Stands.{holding_session}
use Rattle.rme_session_protocol.specs.declared.planned_crash.PlannedCrash.TheVariants.{Nothing}
use Rattle.rme_session_threads.proofs.Living.{begins_life}
use Rattle.rme_session_threads.proofs.Rising.{attaches}
use Rattle.rme_session_threads.proofs.orders.attach.Goals as goal

pub returns-clause-acts : goal.returns-clause-acts
returns-clause-acts g c =
    let ident = g.K.Tag.ident in
    let down = c.in-Ok-take.taken.down in
    let is = c.in-Ok-take.ensures.1 in
    let value = c.recover_worker-value.result.0 in
    let reply = c.recover_worker-value.result.1 in
    let P : Shape → Type 0 = λ shape. attach_refusal shape c.args.asked.worker (holding_session None c.args.stand.value) ≡ None in
    let Q : ServiceId → Type 0 = λ its. AttachAnswer its down.part.worker value reply in
    let R : ℕ → Type 0 = λ worker. AttachAnswer ident worker value reply in
    let S : ServiceId → Type 0 = λ its. WorkerRecovery its.shape down value in
    let none = subst P (c.shape.ensures ∙ ap (λ (its : ServiceId). its.shape) c.requires.service) c.in-Ok.ensures.none.1 in
    attaches ident c.args.slots.now c.args.stand c.args.asked down value c.in-Ok-take.taken.life reply none is (subst R is.own (subst Q is.ident_is c.recover_worker-value.ensures.answers))
    (subst S c.requires.service c.recover_worker-value.ensures.keeps)

pub returns-clause-life : goal.returns-clause-life
returns-clause-life g c =
    let taken = c.in-Ok-take.taken in
    begins_life taken.down.ident taken.down.part.worker c.args.asked c.args.stand (record { value = c.recover_worker-value.result.0; planned = Nothing; life = taken.life })
    c.recover_worker-value.result.1 c.in-Ok-take.ensures.2 c.recover_worker-value.ensures.answers
