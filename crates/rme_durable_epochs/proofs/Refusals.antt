-- A refusal in a world is a refusal over all epochs, with the numbers that clients see.
use Rattle.std.proofs.Common.{◌≡◌, ◌≢◌, ℕ, ◌+◌, ◌-◌, ◌<◌, arith, refl, sym, ap, ◌∙◌, inl, inr}
use Rattle.std.specs.Prelude.{◌==◌, ◌&&◌, nat_lt, if◌then◌else◌, Bool, true, false, Option, Some, None, option_map}
use Rattle.std.specs.List.{list_all}
use Rattle.std.proofs.lemmas.Bool.{cases_Bool, cases_eq, eq-eqb, ne_eqb, lt-ltb, ltb-true, ltb-false, le-ltb}
use Rattle.rme_words.specs.declared.shape.Shape.{Shape}
use Rattle.rme_words.specs.declared.refusal.Refusal.{Refusal}
use Rattle.rme_words.specs.declared.refusal.Refusal.TheVariants.{Differs, WrongNumber, TooManyJobs, NoWorker, Overtaken, Taken}
use Rattle.rme_script.specs.declared.job.Job.{Job}
use Rattle.rme_script.specs.Programs.{Program}
use Rattle.rme_script.specs.Scripts.{script_check, op_is_within}
use Rattle.rme_session_protocol.specs.declared.order.Submission.{Submission}
use Rattle.rme_session_protocol.specs.declared.order.Order.{Order}
use Rattle.rme_session_protocol.specs.declared.order.Order.TheVariants.{Attach, Submit, Resume, Enter, Commit, Withdraw, Last, CrashAfter, Detach, Ping, Pending}
use Rattle.rme_session_protocol.specs.Attempts.{submission_with_tries, with_tries}
use Rattle.rme_session_protocol.specs.Refusals.{IsWorkerUnavailable, IsWorkerUnavailableWithin, PendingJobRefusal, OrderRefusal, OrderRefusalWithin, SubmitRefusal, SubmitRefusalWithin, attach_refusal, attach_refusal_within, new_job_refusal_within, posting_refusal_within, busy_refusal, bare_refusal, commit_refusal, last_refusal, posting_refusal, repeat_refusal, resume_refusal, withdraw_order_refusal}
use Rattle.rme_script.specs.JobRefusals.{job_refusal, refusal_or_next}
use Rattle.rme_session_protocol.specs.declared.view.Session.{Session}
use Rattle.rme_session_protocol.specs.declared.view.Session.TheVariants.{Nobody, Ready, Climb, Held}
use Rattle.rme_durable_epochs.specs.ClientValues.{numbers_for, worker_base, client_refusal, client_session, client_sizes, epoch_submission, epoch_order}
use Rattle.rme_durable_epochs.specs.declared.epoch_base.Base.{Base}
use Rattle.rme_durable_epochs.proofs.Numbering.{HasNumber}

module _ (numbers : ℕ) where
  abbrev over : Option Refusal → Option Refusal
  over why = option_map (client_refusal numbers) why

  -- ---- a job

  checked_over : (cells : ℕ) (script : Program) (rest : Option Refusal) → refusal_or_next (script_check cells script) (over rest) ≡ over (refusal_or_next (script_check cells script) rest)
  checked_over cells script rest = elim (cases_Bool (nat_lt 8 script.n)) [
    | inl many ↦ rw many refl
    | inr few ↦ elim (cases_Bool (list_all (op_is_within cells) script.ops)) [
      | inl all ↦ rw few (rw all refl)
      | inr some ↦ rw few (rw some refl)
    ]
  ]

  less_over : (last most : ℕ) → nat_lt (numbers + last) (numbers + most) ≡ nat_lt last most
  less_over last most = elim (cases_Bool (nat_lt last most)) [
    | inl less ↦ (let small = ltb-true last most less in lt-ltb (numbers + last) (numbers + most) (omega (arith, small)) ∙ sym less)
    | inr more ↦ (let great = ltb-false last most more in le-ltb (numbers + last) (numbers + most) (omega (arith, great)) ∙ sym more)
  ]

  few_over : (few : Bool) → over (if few then None else Some TooManyJobs) ≡ (if few then None else Some TooManyJobs)
  few_over true = refl
  few_over false = refl

  job_over : (shape : Shape) (last : ℕ) (job : Job) → new_job_refusal_within (client_sizes numbers shape) (numbers + last) job ≡ over (job_refusal shape last job)
  job_over shape last job = elim (cases_Bool (nat_lt job.lock shape.locks)) [
    | inl there ↦ rw there (rw (less_over last shape.jobs) (ap (refusal_or_next (script_check shape.cells job.script)) (sym (few_over (nat_lt last shape.jobs))) ∙ checked_over shape.cells job.script (if nat_lt last shape.jobs then None else Some TooManyJobs)))
    | inr none ↦ rw none refl
  ]

  -- ---- a number

  -- A number that is no repetition is no repetition in the world.
  apart_over : (last asked : ℕ) → (nat_lt 0 asked && (asked == numbers + last)) ≡ false → 0 < asked - numbers → asked - numbers ≢ last
  apart_over last asked not some same =
      let is : asked ≡ numbers + last = omega (arith, some, same) in
      let great : 0 < asked = omega (arith, some) in
      let yes : (nat_lt 0 asked && (asked == numbers + last)) ≡ true = rw (lt-ltb 0 asked great) (eq-eqb asked (numbers + last) is) in
      let never : false ≡ true = sym not ∙ yes in
      absurd (cc)

  wrong_by : (last asked : ℕ) → (0 < asked → asked ≢ last) → repeat_refusal last asked ≡ Some (WrongNumber (last + 1))
  wrong_by last asked apart = elim (cases_Bool (nat_lt 0 asked)) [
    | inl some ↦ rw some (rw (ne_eqb asked last (apart (ltb-true 0 asked some))) refl)
    | inr none ↦ rw none refl
  ]

  not_same : (last asked : ℕ) → (nat_lt 0 asked && (asked == last)) ≡ false → 0 < asked → asked ≢ last
  not_same last asked not some is =
      let yes : (nat_lt 0 asked && (asked == last)) ≡ true = rw (lt-ltb 0 asked some) (eq-eqb asked last is) in
      let never : false ≡ true = sym not ∙ yes in
      absurd (cc)

  add_one : (last : ℕ) → numbers + (last + 1) ≡ numbers + last + 1
  add_one last = omega arith

  module _ (shape : Shape) (last : ℕ) (its : Submission) (not : (nat_lt 0 its.number && (its.number == numbers + last)) ≡ false) where
    pub posting_over : posting_refusal_within (client_sizes numbers shape) (numbers + last) (submission_with_tries 1 its) ≡ over (posting_refusal shape last (submission_with_tries 1 (epoch_submission numbers its)))
    posting_over = elim (cases_eq its.number (numbers + last + 1)) [
      | inl next ↦
          (let within : its.number - numbers ≡ last + 1 = omega (arith, next) in
          rw (eq-eqb its.number (numbers + last + 1) next) (rw (eq-eqb (its.number - numbers) (last + 1) within) (job_over shape last its.job)))
      | inr other ↦
          (let within : its.number - numbers ≢ last + 1 = λ is. other (omega (arith, is)) in
          rw (ne_eqb its.number (numbers + last + 1) other) (rw (ne_eqb (its.number - numbers) (last + 1) within)
          (wrong_by (numbers + last) its.number (not_same (numbers + last) its.number not)
          ∙ ap (λ (n : ℕ). Some (WrongNumber n)) (sym (add_one last))
          ∙ ap over (sym (wrong_by last (its.number - numbers) (apart_over last its.number not))))))
    ]

    -- A number that is not refused there is the next one.
    pub is_next : None ≡ posting_refusal shape last (submission_with_tries 1 (epoch_submission numbers its)) → its.number ≡ numbers + last + 1
    is_next none = elim (cases_eq its.number (numbers + last + 1)) [
      | inl next ↦ next
      | inr other ↦
          (let within : its.number - numbers ≢ last + 1 = λ is. other (omega (arith, is)) in
          let refused : posting_refusal shape last (submission_with_tries 1 (epoch_submission numbers its)) ≡ Some (WrongNumber (last + 1)) = rw (ne_eqb (its.number - numbers) (last + 1) within) (wrong_by last (its.number - numbers) (apart_over last its.number not)) in
          let never : None ≡ Some (WrongNumber (last + 1)) = none ∙ refused in
          absurd (cc))
    ]

  -- ---- a pending job

  same_over : (number asked : ℕ) → 0 < number → asked - numbers ≡ number → asked ≡ numbers + number
  same_over number asked some same = omega (arith, some, same)

  unlike_over : (number asked : ℕ) → asked - numbers ≢ number → asked ≢ numbers + number
  unlike_over number asked apart same = apart (omega (arith, same))

  pub pending_over : (number : ℕ) (draft : Option Job) (its : Submission) (why : Option Refusal) → 0 < number → PendingJobRefusal number draft (submission_with_tries 1 (epoch_submission numbers its)) why
      → PendingJobRefusal (numbers + number) draft (submission_with_tries 1 its) (over why)
  pending_over number draft its None some (same, job) = (same_over number its.number some same, job)
  pending_over number draft its (Some Differs) some (same, job) = (same_over number its.number some same, job)
  pending_over number draft its (Some why) some (apart, is) = (unlike_over number its.number apart, ap (client_refusal numbers) is)

  -- ---- the others

  attach_over : (base : Base) (shape : Shape) (worker : ℕ) (session : Session) → attach_refusal_within (client_sizes numbers shape) worker (client_session base session) ≡ over (attach_refusal shape worker session)
  attach_over base shape worker session = elim (cases_Bool (nat_lt worker shape.workers)) [
    | inl there ↦ rw there (busy session)
    | inr none ↦ rw none refl
  ]
    where
      busy : (session : Session) → busy_refusal (client_session base session) ≡ over (busy_refusal session)
      busy Nobody = refl
      busy (Ready ready) = refl
      busy (Climb pending) = refl
      busy (Held pending) = refl

  resume_over : (base : Base) (session : Session) → resume_refusal (client_session base session) ≡ over (resume_refusal session)
  resume_over base Nobody = refl
  resume_over base (Ready ready) = refl
  resume_over base (Climb pending) = refl
  resume_over base (Held pending) = refl

  commit_over : (base : Base) (session : Session) → commit_refusal (client_session base session) ≡ over (commit_refusal session)
  commit_over base Nobody = refl
  commit_over base (Ready ready) = refl
  commit_over base (Climb pending) = refl
  commit_over base (Held pending) = refl

  withdraw_over : (base : Base) (session : Session) → withdraw_order_refusal (client_session base session) ≡ over (withdraw_order_refusal session)
  withdraw_over base Nobody = refl
  withdraw_over base (Ready ready) = refl
  withdraw_over base (Climb pending) = refl
  withdraw_over base (Held pending) = refl

  last_over : (base : Base) (session : Session) → last_refusal (client_session base session) ≡ over (last_refusal session)
  last_over base Nobody = refl
  last_over base (Ready ready) = refl
  last_over base (Climb pending) = refl
  last_over base (Held pending) = refl

  bare_over : (base : Base) (session : Session) → bare_refusal (client_session base session) ≡ over (bare_refusal session)
  bare_over base Nobody = refl
  bare_over base (Ready ready) = refl
  bare_over base (Climb pending) = refl
  bare_over base (Held pending) = refl

module _ (base : Base) (shape : Shape) where
  -- A submission that does not repeat the last number.
  abbrev pub IsNew : Session → Submission → Type 0
  IsNew (Ready ready) its = (nat_lt 0 its.number && (its.number == (worker_base base ready.worker).numbers + ready.number)) ≡ false
  IsNew session its = Unit {0}

  abbrev pub AsksMore : Session → Order → Type 0
  AsksMore session (Submit its) = IsNew session its
  AsksMore session (Enter its) = IsNew session its
  AsksMore (Ready ready) Last = ⊥
  AsksMore session its = Unit {0}

  submission_over : (session : Session) (its : Submission) (order : Order) (why : Option Refusal) → HasNumber session → IsNew session its
      → SubmitRefusal shape session (submission_with_tries 1 (epoch_submission (numbers_for base session order) its)) why
      → SubmitRefusalWithin (client_sizes (numbers_for base session order) shape) (client_session base session) (submission_with_tries 1 its) (over (numbers_for base session order) why)
  submission_over Nobody its order why some new is = ap (over (numbers_for base Nobody order)) is
  submission_over (Ready ready) its order why some new is =
      let numbers = (worker_base base ready.worker).numbers in
      ap (over numbers) is ∙ sym (posting_over numbers shape ready.number its new)
  submission_over (Climb pending) its order why some new is = pending_over (worker_base base pending.worker).numbers pending.number pending.draft its why some is
  submission_over (Held pending) its order why some new is = pending_over (worker_base base pending.worker).numbers pending.number pending.draft its why some is

  pub refuses_over : (session : Session) (its : Order) (why : Option Refusal) → HasNumber session → AsksMore session its
      → OrderRefusal shape session (with_tries 1 (epoch_order (numbers_for base session its) its)) why
      → OrderRefusalWithin (client_sizes (numbers_for base session its) shape) (client_session base session) (with_tries 1 its) (over (numbers_for base session its) why)
  refuses_over session (Attach its) why some new is = ap (over (numbers_for base session (Attach its))) is ∙ sym (attach_over (numbers_for base session (Attach its)) base shape its.worker session)
  refuses_over session (Submit its) why some new is = submission_over session its (Submit its) why some new is
  refuses_over session (Resume patience) why some new is = ap (over (numbers_for base session (Resume patience))) is ∙ sym (resume_over (numbers_for base session (Resume patience)) base session)
  refuses_over session (Enter its) why some new is = submission_over session its (Enter its) why some new is
  refuses_over session Commit why some new is = ap (over (numbers_for base session Commit)) is ∙ sym (commit_over (numbers_for base session Commit) base session)
  refuses_over session Withdraw why some new is = ap (over (numbers_for base session Withdraw)) is ∙ sym (withdraw_over (numbers_for base session Withdraw) base session)
  refuses_over session Last why some new is = ap (over (numbers_for base session Last)) is ∙ sym (last_over (numbers_for base session Last) base session)
  refuses_over session (CrashAfter steps) why some new is = ap (over (numbers_for base session (CrashAfter steps))) is ∙ sym (bare_over (numbers_for base session (CrashAfter steps)) base session)
  refuses_over session Detach why some new is = ap (over (numbers_for base session Detach)) is ∙ sym (bare_over (numbers_for base session Detach) base session)
  refuses_over session Ping why some new is = ap (over (numbers_for base session Ping)) is
  refuses_over session Pending why some new is = ap (over (numbers_for base session Pending)) is ∙ sym (resume_over (numbers_for base session Pending) base session)

  none_over : (numbers : ℕ) (asked : ℕ) (session : Session) → attach_refusal shape asked session ≡ None → attach_refusal_within (client_sizes numbers shape) asked (client_session base session) ≡ None
  none_over numbers asked session none = attach_over numbers base shape asked session ∙ ap (over numbers) none

  pub misses_over : (session : Session) (its : Order) (why : Refusal) → IsWorkerUnavailable shape session (with_tries 1 (epoch_order (numbers_for base session its) its)) why
      → IsWorkerUnavailableWithin (client_sizes (numbers_for base session its) shape) (client_session base session) (with_tries 1 its) (client_refusal (numbers_for base session its) why)
  misses_over session (Attach its) Taken misses = none_over (numbers_for base session (Attach its)) its.worker session misses
  misses_over session (Attach its) NoWorker misses = none_over (numbers_for base session (Attach its)) its.worker session misses
  misses_over session (Attach its) Overtaken misses = (none_over (numbers_for base session (Attach its)) its.worker session misses.0, misses.1)
  misses_over session its why misses = absurd misses
