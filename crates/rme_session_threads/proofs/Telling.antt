-- The token of a worker that is inside.
use Rattle.std.proofs.Common.{◌≡◌, ℕ, ◌∙◌, ap, refl, subst, sym}
use Rattle.std.proofs.lemmas.Option.{same_Some}
use Rattle.std.specs.Prelude.{Bool, false, Some, Ok}
use Rattle.rme_words.specs.declared.shape.Shape.{Shape}
use Rattle.rme_script.specs.declared.job.Job.{Job}
use Rattle.rme_service_steps.specs.SeatViews.{ServiceId, SeatView}
use Rattle.rme_table.specs.Calls.{PartHasSection, SectionContract, is_section_over}
use Rattle.rme_table.specs.declared.driving.Driven.TheVariants as driven
use Rattle.rme_session_protocol.specs.declared.reply.JobOutcome.{JobOutcome}
use Rattle.rme_session_protocol.specs.declared.reply.JobOutcome.TheVariants as outcome
use Rattle.rme_session_protocol.specs.declared.reply.SessionReply.TheVariants as reply
use Rattle.rme_session_threads.specs.Stands.{IsValidHolding}
use Rattle.rme_session_threads.specs.SessionWorks.{driven_result}
use Rattle.rme_session_threads.specs.JobOutcomes.{HasKnownPlace, IsNotFallen, StaysInside, TellsWorkerSection, ThreadWaitsAfterTries, worker_token}
use Rattle.rme_session_threads.specs.declared.stand.Holding.{Holding}
use Rattle.rme_session_threads.specs.declared.stand.Holding.TheVariants.{Held}

module _ (shape : Shape) (held next : SeatView) (job : Job) (section : ℕ) (ours : held.ident.shape ≡ shape) (draft : held.part.draft ≡ Some job) (over : is_section_over held.part.private.stage ≡ false)
    (found : SectionContract (is_section_over held.part.private.stage) held next section) where
  reads : SectionContract false held next section
  reads = subst (λ (its : Bool). SectionContract its held next section) over found

  pub stays_told : StaysInside held (Held next) (outcome.Inside (worker_token held job.lock section))
  stays_told = (job.lock, section, ap (λ (seat : SeatView). Held seat) reads.0, refl)

  pub section_told : TellsWorkerSection shape (Held next) (reply.Entered (outcome.Inside (worker_token held job.lock section)))
  section_told =
      let other = reads.1.0 in
      let same : other ≡ job = same_Some other job (sym reads.1.1 ∙ draft) in
      let P : ℕ → Type 0 = λ lock. PartHasSection held.ident.shape next.part lock section in
      let Q : Shape → Type 0 = λ its. PartHasSection its next.part job.lock section in (
        job,
        ap (λ (seat : SeatView). seat.part.draft) reads.0 ∙ draft,
        refl,
        subst Q ours (subst P (ap (λ (its : Job). its.lock) same) reads.1.2),
      )

-- It does not wait, its job is not over, and it is still one of the service.
module _ (held : SeatView) (value : Holding) (became : JobOutcome) (stays : StaysInside held value became) where
  pub stays_place : HasKnownPlace (Held held) became
  stays_place = rw stays.3 tt

  pub stays_tried : (most steps : ℕ) → ThreadWaitsAfterTries most steps value became
  stays_tried most steps = rw stays.3 tt

  pub stays_up : IsNotFallen became
  stays_up = rw stays.3 tt

  pub stays_ours : (ident : ServiceId) (count : ℕ) → IsValidHolding ident count (Held held) → IsValidHolding ident count value
  stays_ours ident count (slot, pending) = rw stays.2 (record { ident_is = slot.ident_is; slot = slot.slot }, pending)

  pub stays_driven : (lock : ℕ) × (section : ℕ) × (Ok (value, became) ≡ driven_result lock section (driven.Stopped held))
  stays_driven = (stays.0, stays.1, rw (stays.2, stays.3) refl)
