-- Each accepted call is a call of a process.
use Rattle.std.proofs.Common.{◌≡◌, ℕ, ◌<◌, true, List, [], take, refl, sym, ap, subst, ◌∙◌, inl, inr, arith}
use Rattle.std.specs.Prelude.{Option, Some, None, Result, Ok, Err, nat_lt, ◌==◌}
use Rattle.std.specs.List.{list_all}
use Rattle.std.proofs.lemmas.Bool.{cases_Bool, cases_lt, eqb-true, le-ltb, lt-ltb}
use Rattle.rme_words.specs.declared.shape.Shape.{Shape}
use Rattle.rme_words.specs.declared.refusal.Refusal.{Refusal}
use Rattle.rme_words.specs.declared.refusal.Refusal.TheVariants.{BadLine, LineTooLong, NotOpen, AlreadyOpen, BadShape, NoWorker, Down, Up, Busy, Idle, NoLock, BadScript, NoCell, TooManyJobs, BadImage, WrongNumber, Differs, Taken, NotAttached, NoMemory, NotWaiting, NotInside, NoSpace, SpaceDiffers, NotAllowed, Overtaken}
use Rattle.rme_words.specs.Refusals.{refusal_code}
use Rattle.rme_script.specs.declared.job.Job.{Job}
use Rattle.rme_script.specs.Programs.{Program}
use Rattle.rme_script.specs.Scripts.{IsScript, op_is_within, script_check}
use Rattle.rme_script.specs.Jobs.{IsJob}
use Rattle.rme_script.specs.Slates.{IsSlate, script_from_words}
use Rattle.rme_script.proofs.Checks.{all_within}
use Rattle.rme_script.proofs.Slates.{script_slate}
use Rattle.rme_program.specs.declared.private.Private.{Private}
use Rattle.rme_program.specs.declared.stage.Ascent.{Ascent}
use Rattle.rme_program.specs.declared.stage.Stage.{Stage}
use Rattle.rme_program.specs.declared.stage.Stage.TheVariants.{Resting, Recovering, Posting, Climbing, Logging, Copying, Leaving}
use Rattle.rme_program.specs.Steps.{restarted_private, submitted_private, withdrawing_private}
use Rattle.rme_process_core.specs.declared.flat.Batch.{Batch}
use Rattle.rme_process_core.specs.declared.flat.BatchOutcome.{BatchOutcome}
use Rattle.rme_process_core.specs.declared.worker.CoreWorker.{CoreWorker}
use Rattle.rme_process_core.specs.Batches.{Predicts, batch_actions}
use Rattle.rme_process_core.specs.Calls.{AbiNextCall, AbiAfterCall, AbiSubmitCall, AbiSubmitJobCall, AbiWithdrawCall, SubmittedSlate, after_state, submit_state, optional_code, unless_batch_out}
use Rattle.rme_process_core.specs.Folds.{private_after_values}
use Rattle.rme_process_core.specs.Jobs.{script_if_checked, checked_script, numbered_job, ready_job, handed_job_at, stage_withdraw_refusal}
use Rattle.rme_process_core.specs.Processes.{NextIsCall, AfterIsCall, SubmitIsCall, WithdrawIsCall, RestartIsCall, NewIsCall}
use Rattle.rme_process_core.specs.Workers.{IsCoreWorker, WorkerKnows, WorkerRestarted}

-- No refusal has the number 0.
coded : (refusal : Refusal) → 0 < refusal_code refusal
coded BadLine = omega arith
coded LineTooLong = omega arith
coded NotOpen = omega arith
coded AlreadyOpen = omega arith
coded BadShape = omega arith
coded NoWorker = omega arith
coded Down = omega arith
coded Up = omega arith
coded Busy = omega arith
coded Idle = omega arith
coded NoLock = omega arith
coded BadScript = omega arith
coded NoCell = omega arith
coded TooManyJobs = omega arith
coded BadImage = omega arith
coded (WrongNumber expected) = omega arith
coded Differs = omega arith
coded Taken = omega arith
coded NotAttached = omega arith
coded NoMemory = omega arith
coded NotWaiting = omega arith
coded NotInside = omega arith
coded NoSpace = omega arith
coded SpaceDiffers = omega arith
coded NotAllowed = omega arith
coded Overtaken = omega arith

none_refused : (refusal : Option Refusal) → optional_code refusal ≡ 0 → refusal ≡ None
none_refused None is = refl
none_refused (Some refusal) is = absurd (omega (arith, is, coded refusal))

no_batch_out : (told : ℕ) (refusal : Option Refusal) → unless_batch_out told refusal ≡ 0 → (told ≡ 0) × (refusal ≡ None)
no_batch_out told refusal is = elim (cases_Bool (told == 0)) [
  | inl none ↦ (eqb-true told 0 none, none_refused refusal (rw none at is))
  | inr some ↦ (let bad : 102 ≡ 0 = rw some at is in absurd (omega (arith, bad)))
]

-- Before the first operation of a batch the private state is the worker's own.
none_made : (shape : Shape) (private : Private) → private_after_values shape private [] ≡ private
unfolding private_after_values
none_made shape private = refl

-- Two workers without a value know the same, if they know of the same private state.
known_same : (old new : CoreWorker) (private : Private) → new.private ≡ private → Some (private_after_values new.shape new.private []) ≡ Some private
known_same old new private is = ap (λ (p : Private). Some p) (none_made new.shape new.private ∙ is)

pub next_is_call : (old new : CoreWorker) (until : ℕ) (given batch : Batch) (result : ℕ) → AbiNextCall old until given result new batch → result ≡ 0 → NextIsCall old batch new
next_is_call old new until given batch result call done =
    let knows : WorkerKnows new old.shape old.private batch.count = call.told done in
    let P : Private → Type 0 = λ p. Predicts old.shape until p (batch_actions batch) in (
      (no_batch_out old.told _ (sym call.answer ∙ done)).0,
      record {
        makes = known_same old new old.private knows.private_is ∙ sym (known_same old old old.private refl);
        fresh = record { shape_is = knows.shape_is; none_found = refl; until = until; foretells = subst P (sym knows.private_is) (call.foretells done) };
      },
    )

pub after_is_call : (old new : CoreWorker) (before after : BatchOutcome) (batch : Batch) (count result : ℕ) → AbiAfterCall (after_state old before) batch count result (after_state new after)
    → result ≡ 0 → AfterIsCall old (take count batch.values) new
after_is_call old new before after batch count result call done =
    let knows : WorkerKnows new old.shape new.private 0 = (call.answered (λ bad. absurd (omega (arith, done, bad)))).1 in (
      knows.told_is,
      λ left. record {
        makes = known_same old new _ (call.taken done).leads;
        fresh = record { shape_is = knows.shape_is; none_found = refl; until = 0; foretells = tt };
      },
    )

-- ---- a job that a worker is given

checked_is : (cells : ℕ) (script : Program) → script_check cells script ≡ Ok tt → list_all (op_is_within cells) script.ops ≡ true
checked_is cells script is = elim (cases_Bool (nat_lt 8 script.n)) [
  | inl many ↦ (let bad : Err BadScript ≡ Ok tt = rw many at is in absurd (cc))
  | inr few ↦
      (elim (cases_Bool (list_all (op_is_within cells) script.ops)) [
        | inl all ↦ all
        | inr other ↦ (let bad : Err NoCell ≡ Ok tt = rw (few, other) at is in absurd (cc))
      ])
]

-- The script that a slate has, once it is checked.
checked_by : (shape : Shape) (begun lock : ℕ) (script : Program) (check : Result (Unit {0}) Refusal) (job : Job) → script_check shape.cells script ≡ check
    → numbered_job shape begun lock (script_if_checked check script) ≡ Ok job → (list_all (op_is_within shape.cells) script.ops ≡ true) × (begun < shape.jobs) × (job ≡ record { lock = lock; script = script })
checked_by shape begun lock script (Ok tt) job check is = elim (cases_lt begun shape.jobs) [
  | inl few ↦ (let same : Ok record { lock = lock; script = script } ≡ Ok job = rw (lt-ltb _ _ few) at is in (checked_is shape.cells script check, few, sym (cc)))
  | inr all ↦ (let bad : Err TooManyJobs ≡ Ok job = rw (le-ltb _ _ all) at is in absurd (cc))
]
checked_by shape begun lock script (Err refusal) job check is = absurd (cc)

-- A job of a shape, of this lock, with the script of these words.
pub record IsGiven (shape : Shape) (begun lock operations : ℕ) (words : List ℕ) (job : Job) : Type 0 where
  pub script : Program
  pub reads : script_from_words operations words ≡ Some script
  pub is : job ≡ record { lock = lock; script = script }
  pub fits : IsJob shape record { lock = lock; script = script }
  pub few : begun < shape.jobs

given_by : (shape : Shape) (begun lock operations : ℕ) (words : List ℕ) (script : Option Program) (job : Job) → script_from_words operations words ≡ script → lock < shape.locks
    → numbered_job shape begun lock (checked_script shape script) ≡ Ok job → IsGiven shape begun lock operations words job
given_by shape begun lock operations words None job reads within is = absurd (cc)
given_by shape begun lock operations words (Some script) job reads within is =
    let checked = checked_by shape begun lock script _ job refl is in
    let slate : IsSlate operations words script = script_slate operations words script reads in
    let fits : IsScript shape.cells script = record { few = slate.script.few; counted = slate.script.counted; within = all_within shape.cells script.ops checked.0 } in
    record { script = script; reads = reads; is = checked.2; fits = record { lock = within; script = fits }; few = checked.1 }

ready_given : (shape : Shape) (begun lock operations : ℕ) (words : List ℕ) (job : Job) → ready_job shape begun lock (script_from_words operations words) ≡ Ok job → IsGiven shape begun lock operations words job
ready_given shape begun lock operations words job is = elim (cases_lt lock shape.locks) [
  | inl within ↦ given_by shape begun lock operations words _ job refl within (rw (lt-ltb _ _ within) at is)
  | inr out ↦ (let bad : Err NoLock ≡ Ok job = rw (le-ltb _ _ out) at is in absurd (cc))
]

handed_given : (shape : Shape) (begun lock operations : ℕ) (words : List ℕ) (stage : Stage) (job : Job) → handed_job_at shape begun stage lock (script_from_words operations words) ≡ Ok job
    → (stage ≡ Resting) × IsGiven shape begun lock operations words job
handed_given shape begun lock operations words Resting job is = (refl, ready_given shape begun lock operations words job is)
handed_given shape begun lock operations words (Recovering recovery) job is = absurd (cc)
handed_given shape begun lock operations words (Posting slate) job is = absurd (cc)
handed_given shape begun lock operations words (Climbing ascent) job is = absurd (cc)
handed_given shape begun lock operations words (Logging log) job is = absurd (cc)
handed_given shape begun lock operations words (Copying redo) job is = absurd (cc)
handed_given shape begun lock operations words (Leaving departure) job is = absurd (cc)

module _ (old new : CoreWorker) (before after : ℕ) (slate : SubmittedSlate) (is_worker : IsCoreWorker old) where
  submitted_by : (handed : Result Job Refusal) (result : ℕ) → handed_job_at old.shape old.private.begun old.private.stage slate.lock (script_from_words slate.operations slate.words) ≡ handed
      → AbiSubmitJobCall (submit_state old before) handed result (submit_state new after) → result ≡ 0 → SubmitIsCall old slate new
  submitted_by (Ok job) result is call done =
      let given = handed_given old.shape old.private.begun slate.lock slate.operations slate.words old.private.stage job is in
      let knows : WorkerKnows new old.shape (submitted_private old.private job) old.told = call.1 in
      let made : Job = record { lock = slate.lock; script = given.1.script } in
      let here : new.private ≡ submitted_private old.private made = knows.private_is ∙ ap (submitted_private old.private) given.1.is in (
        is_worker.ready given.0,
        knows.told_is ∙ is_worker.ready given.0,
        given.1.script,
        given.1.reads,
        record {
          makes = (
            Some (submitted_private (private_after_values old.shape old.private []) made),
            (refl, rw (none_made old.shape old.private) given.0, rw (none_made old.shape old.private) given.1.few, given.1.fits, refl),
            known_same old new _ (here ∙ ap (λ (p : Private). submitted_private p made) (sym (none_made old.shape old.private))),
          );
          fresh = record { shape_is = knows.shape_is; none_found = refl; until = 0; foretells = tt };
        },
      )
  submitted_by (Err refusal) result is call done = absurd (omega (arith, call.0, done, coded refusal))

  pub submit_is_call : (result : ℕ) → AbiSubmitCall (submit_state old before) slate result (submit_state new after) → result ≡ 0 → SubmitIsCall old slate new
  submit_is_call result call done = submitted_by _ result refl call done

-- ---- a withdrawal, a restart, and a new process

waits : (stage : Stage) → stage_withdraw_refusal stage ≡ None → (ascent : Ascent) × (stage ≡ Climbing ascent)
waits Resting is = absurd (cc)
waits (Recovering recovery) is = absurd (cc)
waits (Posting slate) is = absurd (cc)
waits (Climbing ascent) is = (ascent, refl)
waits (Logging log) is = absurd (cc)
waits (Copying redo) is = absurd (cc)
waits (Leaving departure) is = absurd (cc)

pub withdraw_is_call : (old new : CoreWorker) (result : ℕ) → AbiWithdrawCall old result new → result ≡ 0 → WithdrawIsCall old new
withdraw_is_call old new result call done =
    let open_way = no_batch_out old.told _ (sym call.answer ∙ done) in
    let at : (ascent : Ascent) × (old.private.stage ≡ Climbing ascent) = waits old.private.stage open_way.1 in
    let knows : WorkerKnows new old.shape (withdrawing_private old.private) 0 = call.withdraws done in
    let same : private_after_values old.shape old.private [] ≡ old.private = none_made old.shape old.private in (
      open_way.0,
      knows.told_is,
      record {
        makes = (
          Some (withdrawing_private (private_after_values old.shape old.private [])),
          (refl, at.0, rw same at.1, refl),
          known_same old new _ (knows.private_is ∙ ap withdrawing_private (sym same)),
        );
        fresh = record { shape_is = knows.shape_is; none_found = refl; until = 0; foretells = tt };
      },
    )

pub restart_is_call : (old new : CoreWorker) → WorkerRestarted old.shape old.private.worker new → RestartIsCall old new
restart_is_call old new knows = (
  knows.told_is,
  λ left found. record {
    makes = (None, (refl, refl), (Some (restarted_private old.private.worker), (refl, refl), known_same old new _ knows.private_is));
    fresh = record { shape_is = knows.shape_is; none_found = refl; until = 0; foretells = tt };
  },
)

pub new_is_call : (shape : Shape) (worker : ℕ) (new : CoreWorker) → WorkerRestarted shape worker new → NewIsCall shape worker new
new_is_call shape worker new knows = (
  knows.told_is,
  record {
    makes = (Some (restarted_private worker), (refl, refl), known_same new new _ knows.private_is);
    fresh = record { shape_is = knows.shape_is; none_found = refl; until = 0; foretells = tt };
  },
)
