-- Numbers of submissions that are refused, and that are not.
use Rattle.std.proofs.Common.{◌≡◌, ℕ, ◌+◌, ◌<◌, arith, refl, sym, ◌∙◌, inl, inr}
use Rattle.std.specs.Prelude.{Some, None, ◌==◌}
use Rattle.std.proofs.lemmas.Bool.{cases_Bool, eq-eqb, lt-ltb, ne_eqb}
use Rattle.std.proofs.lemmas.Option.{none-some}
use Rattle.rme_words.specs.declared.shape.Shape.{Shape}
use Rattle.rme_words.specs.declared.refusal.Refusal.{Refusal}
use Rattle.rme_session_protocol.specs.declared.order.Submission.{Submission}
use Rattle.rme_session_protocol.specs.Refusals.{ServiceSizes, number_refusal, posting_refusal, posting_refusal_within, repeat_refusal, service_sizes}
use Rattle.rme_script.specs.JobRefusals.{job_refusal}

-- A refusal of the number takes priority over the job.
pub number_refused : (shape : Shape) (last : ℕ) (its : Submission) (why : Refusal) → number_refusal last its.number ≡ Some why → posting_refusal shape last its ≡ Some why
number_refused shape last its why is = elim (cases_Bool (its.number == last + 1)) [
  | inl next ↦ (let Refused : number_refusal last its.number ≡ None = rw next refl in absurd (none-some why (sym Refused ∙ is)))
  | inr other ↦ (let refused : number_refusal last its.number ≡ repeat_refusal last its.number = rw other refl in rw other (sym refused ∙ is))
]

-- The next number's job is refused or not; the last number is not refused.
pub next_posted : (shape : Shape) (last : ℕ) (its : Submission) → its.number ≡ last + 1 → posting_refusal shape last its ≡ job_refusal shape last its.job
next_posted shape last its next = rw (eq-eqb its.number (last + 1) next) refl

pub last_repeated_within : (sizes : ServiceSizes) (last : ℕ) (its : Submission) → 0 < its.number → its.number ≡ last → posting_refusal_within sizes last its ≡ None
last_repeated_within sizes last its some same = rw (ne_eqb its.number (last + 1) (omega (arith, same)), lt-ltb 0 its.number some, eq-eqb its.number last same) refl

pub last_repeated : (shape : Shape) (last : ℕ) (its : Submission) → 0 < its.number → its.number ≡ last → posting_refusal shape last its ≡ None
last_repeated shape = last_repeated_within (service_sizes shape)
