-- A part of a phase after another: what the second begins from, and what both have done.
use Rattle.std.proofs.Common.{◌≡◌, ℕ, ◌+◌, refl, sym, ◌∙◌, ap, subst}
use Rattle.std.specs.Prelude.{Option, Some, None}
use Rattle.rme_words.specs.declared.shape.Shape.{Shape}
use Rattle.rme_program.specs.declared.private.Private.{Private}
use Rattle.rme_program.specs.declared.stage.Stage.{Stage}
use Rattle.rme_program.specs.declared.stage.Parity.{Parity}
use Rattle.rme_program.specs.declared.stage.Visit.{Visit}
use Rattle.rme_program.specs.Steps.{copy_stage_from}
use Rattle.rme_service_steps.specs.declared.seat_record.Part.{Part}
use Rattle.rme_service_steps.specs.Parts.{unchanged_part}
use Rattle.rme_service_steps.specs.Chances.{ChanceCounts}
use Rattle.rme_service_steps.specs.SeatViews.{SeatView}
use Rattle.rme_service_steps.specs.CallSteps.{seat_call, PartIsAtStage, PartIsBeforeStage, CallProgress}
use Rattle.rme_service_steps.proofs.Chains.{then_on}
use Rattle.rme_service_phases.specs.Sections.{parity_of_stage, visit_of_part}

pub begun_at : {s : Shape} {p : Part} {b : ℕ} {st : Stage} → PartIsAtStage s p b st → p.private.begun ≡ b
begun_at at = ap (λ (q : Private). q.begun) at.private

pub stage_at : {s : Shape} {p : Part} {b : ℕ} {st : Stage} → PartIsAtStage s p b st → p.private.stage ≡ st
stage_at at = ap (λ (q : Private). q.stage) at.private

-- Where a worker stands, by what its own record knows of `begun`; and that its stage goes by another name.
pub before_at : {s : Shape} {p : Part} {b : ℕ} {st other : Stage} → PartIsAtStage s p b st → st ≡ other → PartIsBeforeStage s p other
before_at {s} {p} {b} {st} {other} at same = subst (λ (n : ℕ). PartIsAtStage s p n other) (sym (begun_at at)) (subst (λ (x : Stage). PartIsAtStage s p b x) same at)

pub then_as : {s : Shape} {a c d : SeatView} {t u v : ChanceCounts} {m n k b : ℕ} {st other out : Stage} → CallProgress (seat_call s unchanged_part a c t u) m b st → CallProgress (seat_call s unchanged_part c d u v) n c.part.private.begun other
    → other ≡ out → k ≡ m + n → CallProgress (seat_call s unchanged_part a d t v) k b out
then_as {s} {a} {c} {d} {t} {u} {v} {m} {n} {k} {b} {st} {other} {out} one two same count =
    let all = then_on s a c d t u v one two in
    subst (λ (j : ℕ). CallProgress (seat_call s unchanged_part a d t v) j b out) (sym count)
    (subst (λ (j : ℕ). CallProgress (seat_call s unchanged_part a d t v) (m + n) j out) (begun_at one.at) (subst (λ (x : Stage). CallProgress (seat_call s unchanged_part a d t v) (m + n) c.part.private.begun x) same all))

-- How the section was begun that a worker is in.
pub visit_at : {s : Shape} {p : Part} {b : ℕ} {st : Stage} (lock turn : ℕ) (parity : Parity) → PartIsAtStage s p b st → parity_of_stage st ≡ parity
    → ◌≡◌ {A = Visit} (visit_of_part p lock turn) record { lock = lock; turn = turn; parity = parity }
visit_at lock turn parity at is = ap {B = Visit} (λ (x : Parity). record { lock = lock; turn = turn; parity = x }) (ap parity_of_stage (stage_at at) ∙ is)

pub parity_copies : (visit : Visit) (mask : ℕ) (next : Option ℕ) → parity_of_stage (copy_stage_from visit mask next) ≡ visit.parity
parity_copies visit mask (Some cell) = refl
parity_copies visit mask None = refl
