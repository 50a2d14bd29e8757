-- The events other than a step are steps of the abstract machine and preserve the world invariant.
use Rattle.std.proofs.Common.{◌≡◌, ℕ, ◌+◌, ◌<◌, ◌≤◌, length, refl, sym, ap, subst, inl, inr, arith}
use Rattle.std.specs.Prelude.{true, Option, Some, None, slice_get, if◌then◌else◌}
use Rattle.std.proofs.lemmas.Bool.{cases_Bool, cases_lt, lt-ltb, le-ltb}
use Rattle.std.proofs.lemmas.Option.{none-some, same_Some}
use Rattle.std.proofs.lemmas.List.FromFn.{length-map-range_with_len}
use Rattle.rme_machine.specs.AbstractState.{abstract_worker}
use Rattle.rme_words.specs.declared.shape.Shape.{Shape}
use Rattle.rme_words.specs.declared.refusal.Refusal.TheVariants.{Busy, Up, TooManyJobs, NotWaiting}
use Rattle.rme_script.specs.declared.job.Job.{Job}
use Rattle.rme_script.proofs.Weaker.{script_checks}
use Rattle.rme_program.specs.declared.kinds.Phase.{Phase}
use Rattle.rme_program.specs.declared.kinds.Phase.TheVariants as phase
use Rattle.rme_program.specs.declared.private.Private.{Private}
use Rattle.rme_program.specs.declared.stage.Ascent.{Ascent}
use Rattle.rme_program.specs.declared.stage.Stage.{Stage}
use Rattle.rme_program.specs.declared.stage.Stage.TheVariants.{Resting, Recovering, Posting, Climbing, Logging, Copying, Leaving}
use Rattle.rme_program.specs.Conditions.{IsPrivate}
use Rattle.rme_script.specs.Jobs.{IsJob}
use Rattle.rme_program.specs.Phases.{phase_of}
use Rattle.rme_program.specs.declared.stage.Departure.TheVariants.{WithdrawPlace}
use Rattle.rme_program.specs.Steps.{restarted_private, submitted_private, withdrawing_private, withdrawing_stage}
use Rattle.rme_machine.specs.declared.label.Act.TheVariants.{Hand, Crash, Restart, Wait}
use Rattle.rme_machine.proofs.Events.{crash, restart, submit, withdraw}
use Rattle.rme_machine.proofs.Further.{fitting}
use Rattle.rme_world.specs.declared.counts.Counts.{Counts}
use Rattle.rme_world.specs.Counting.{IsStayCount, phase_count, with_stay_begun, max_phase_steps, no_counts}
use Rattle.rme_world.specs.WorldViews.{WorldView, world_memory, world_privates, worker_counts, world_abstract_state}
use Rattle.rme_world.specs.WorldInvariants.{WorldInvariant}
use Rattle.rme_world.specs.Refusals.{refusal_unless_up, refusal_unless_down, is_resting_stage, is_climbing_stage, worker_job_refusal}
use Rattle.rme_world.specs.Events.{SubmitChange, CrashChange, RestartChange, WithdrawChange, world_with_private}
use Rattle.rme_world.proofs.Owing.{owed_step, owed_few}
use Rattle.rme_world.proofs.Stays.{within_limits, stay_begins}
use Rattle.rme_world.proofs.Worlds.{IsSound, GoesAs, kept_sound, is_worker, up_at, became, goes_as, changed, changed_kept}

-- ---- preconditions of an accepted event

ready_resting : (stage : Stage) → is_resting_stage stage ≡ true → stage ≡ Resting
ready_resting Resting e = refl
ready_resting (Recovering recovery) e = absurd (cc)
ready_resting (Posting slate) e = absurd (cc)
ready_resting (Climbing ascent) e = absurd (cc)
ready_resting (Logging log) e = absurd (cc)
ready_resting (Copying redo) e = absurd (cc)
ready_resting (Leaving departure) e = absurd (cc)

climbs : (stage : Stage) → is_climbing_stage stage ≡ true → (ascent : Ascent) × (stage ≡ Climbing ascent)
climbs Resting e = absurd (cc)
climbs (Recovering recovery) e = absurd (cc)
climbs (Posting slate) e = absurd (cc)
climbs (Climbing ascent) e = (ascent, refl)
climbs (Logging log) e = absurd (cc)
climbs (Copying redo) e = absurd (cc)
climbs (Leaving departure) e = absurd (cc)

-- A job is accepted only for a ready worker that has not begun all its jobs.
pub may_be_handed : (seen : WorldView) (job : Job) (private : Private) → IsJob seen.shape job → worker_job_refusal seen job private ≡ None
    → (private.stage ≡ Resting) × (private.begun < seen.shape.jobs)
may_be_handed seen job private is may = elim (cases_Bool (is_resting_stage private.stage)) [
  | inl ready ↦ elim (cases_lt private.begun seen.shape.jobs) [
    | inl few ↦ (ready_resting private.stage ready, few)
    | inr all ↦
        (let refused : Some TooManyJobs ≡ None = rw (ready, lt-ltb _ _ is.lock, script_checks seen.shape.cells job.script is.script, le-ltb _ _ all) at may in
        absurd (none-some TooManyJobs (sym refused)))
  ]
  | inr busy ↦ (let refused : Some Busy ≡ None = rw busy at may in absurd (none-some Busy (sym refused)))
]

-- A worker that may withdraw is climbing.
pub may_withdraw : (private : Private) → (if is_climbing_stage private.stage then None else Some NotWaiting) ≡ None → (ascent : Ascent) × (private.stage ≡ Climbing ascent)
may_withdraw private may = elim (cases_Bool (is_climbing_stage private.stage)) [
  | inl climbing ↦ climbs private.stage climbing
  | inr other ↦ (let refused : Some NotWaiting ≡ None = rw other at may in absurd (none-some NotWaiting (sym refused)))
]

-- A worker that may crash is up; a worker that may be restarted is down.
pub may_crash : (found : Option (Option Private)) → refusal_unless_up found (λ (private : Private). None) ≡ None → (private : Private) × (found ≡ Some (Some private))
may_crash None may = absurd (none-some _ (sym may))
may_crash (Some None) may = absurd (none-some _ (sym may))
may_crash (Some (Some private)) may = (private, refl)

pub may_restart : (found : Option (Option Private)) → refusal_unless_down found ≡ None → found ≡ Some None
may_restart None may = absurd (none-some _ (sym may))
may_restart (Some None) may = refl
may_restart (Some (Some private)) may = absurd (none-some Up (sym may))

-- ---- steps of the abstract machine

module _ (old : WorldView) (worker : ℕ) (sound : IsSound old) where
  -- Only the worker's private state and counts are changed, and perhaps the room.
  abbrev with : Option Private → Counts → ℕ → WorldView
  with private counts room = changed old worker private counts old.words old.history room

  pub hand_goes : (job : Job) (private : Private) (counts : Counts) (room : ℕ) → slice_get old.privates worker ≡ Some (Some private) → private.stage ≡ Resting
      → private.begun < old.shape.jobs → IsJob old.shape job → GoesAs old (with (Some (submitted_private private job)) counts room) worker (Hand (private.begun + 1) job)
  hand_goes job private counts room found ready few is =
      let within : worker < old.shape.workers = is_worker old worker (Some private) sound.all_privates found in
      goes_as old worker (Some (submitted_private private job)) counts old.words old.history room _ sound
      (submit old.shape (world_memory old) (world_privates old) (world_privates (with (Some (submitted_private private job)) counts room)) old.history worker private job sound.fact within
      (up_at old worker (Some private) found) ready few is (became old worker (Some (submitted_private private job)) counts old.words old.history room sound.all_privates within))

  pub crash_goes : (private : Private) (counts : Counts) → slice_get old.privates worker ≡ Some (Some private) → GoesAs old (with None counts old.room) worker Crash
  crash_goes private counts found =
      let within : worker < old.shape.workers = is_worker old worker (Some private) sound.all_privates found in
      goes_as old worker None counts old.words old.history old.room _ sound
      (crash old.shape (world_memory old) (world_privates old) (world_privates (with None counts old.room)) old.history worker private sound.fact within
      (up_at old worker (Some private) found) (became old worker None counts old.words old.history old.room sound.all_privates within))

  pub restart_goes : (counts : Counts) → slice_get old.privates worker ≡ Some None → GoesAs old (with (Some (restarted_private worker)) counts old.room) worker Restart
  restart_goes counts found =
      let within : worker < old.shape.workers = is_worker old worker None sound.all_privates found in
      goes_as old worker (Some (restarted_private worker)) counts old.words old.history old.room _ sound
      (restart old.shape (world_memory old) (world_privates old) (world_privates (with (Some (restarted_private worker)) counts old.room)) old.history worker sound.fact within
      (up_at old worker None found) (became old worker (Some (restarted_private worker)) counts old.words old.history old.room sound.all_privates within))

  pub withdraw_goes : (private : Private) (ascent : Ascent) (counts : Counts) → slice_get old.privates worker ≡ Some (Some private) → private.stage ≡ Climbing ascent
      → GoesAs old (with (Some (withdrawing_private private)) counts old.room) worker Wait
  withdraw_goes private ascent counts found climbing =
      let within : worker < old.shape.workers = is_worker old worker (Some private) sound.all_privates found in
      goes_as old worker (Some (withdrawing_private private)) counts old.words old.history old.room _ sound
      (withdraw old.shape (world_memory old) (world_privates old) (world_privates (with (Some (withdrawing_private private)) counts old.room)) old.history worker private ascent sound.fact within
      (up_at old worker (Some private) found) climbing (became old worker (Some (withdrawing_private private)) counts old.words old.history old.room sound.all_privates within))

-- ---- each event of a world

pub submits_goes : (old new : WorldView) (worker : ℕ) (job : Job) (number : ℕ) → IsSound old → SubmitChange old worker job number new → GoesAs old new worker (Hand number job)
submits_goes old new worker job number sound submits =
    let may : (submits.private.stage ≡ Resting) × (submits.private.begun < old.shape.jobs) = may_be_handed old job submits.private submits.is_job (rw submits.found at submits.may) in
    subst (λ (n : ℕ). GoesAs old new worker (Hand n job)) (sym submits.next_number)
    (subst (λ (s : WorldView). GoesAs old s worker (Hand (submits.private.begun + 1) job)) (sym submits.hands)
    (hand_goes old worker sound job submits.private (with_stay_begun (worker_counts old worker) phase.Post) new.room submits.found may.0 may.1 submits.is_job))

pub crashes_goes : (old new : WorldView) (worker : ℕ) → IsSound old → CrashChange old worker new → GoesAs old new worker Crash
crashes_goes old new worker sound crashes =
    let up : (private : Private) × (slice_get old.privates worker ≡ Some (Some private)) = may_crash (slice_get old.privates worker) crashes.may in
    subst (λ (s : WorldView). GoesAs old s worker Crash) (sym crashes.falls) (crash_goes old worker sound up.0 (worker_counts old worker) up.1)

pub restarts_goes : (old new : WorldView) (worker : ℕ) → IsSound old → RestartChange old worker new → GoesAs old new worker Restart
restarts_goes old new worker sound restarts =
    subst (λ (s : WorldView). GoesAs old s worker Restart) (sym restarts.rises) (restart_goes old worker sound no_counts (may_restart (slice_get old.privates worker) restarts.may))

pub withdraws_goes : (old new : WorldView) (worker : ℕ) → IsSound old → WithdrawChange old worker new → GoesAs old new worker Wait
withdraws_goes old new worker sound withdraws =
    let climbing : (ascent : Ascent) × (withdraws.private.stage ≡ Climbing ascent) = may_withdraw withdraws.private (rw withdraws.found at withdraws.may) in
    subst (λ (s : WorldView). GoesAs old s worker Wait) (sym withdraws.turns)
    (withdraw_goes old worker sound withdraws.private climbing.0 (with_stay_begun (worker_counts old worker) phase.Exit) withdraws.found climbing.1)

-- ---- the invariant

-- The counts at the start of a stay.
begins_short : (old : WorldView) (worker : ℕ) (p : Phase) → WorldInvariant old → worker < old.shape.workers → (other : Phase) → phase_count (with_stay_begun (worker_counts old worker) p) other ≤ max_phase_steps old.shape other
begins_short old worker p kept within other = within_limits (worker_counts old worker) (max_phase_steps old.shape) 0 p other (omega arith) (λ q. kept.short worker q within)

pub none_short : (shape : Shape) (p : Phase) → phase_count no_counts p ≤ max_phase_steps shape p
none_short shape phase.Recover = omega arith
none_short shape phase.Post = omega arith
none_short shape phase.Enter = omega arith
none_short shape phase.Section = omega arith
none_short shape phase.Exit = omega arith
none_short shape phase.Ready = omega arith

-- A worker that begins a stay at this stage.
begins_stay : (shape : Shape) (counts : Counts) (begun next : Private) → IsStayCount shape begun.stage (phase_count counts (phase_of begun.stage)) → Some begun ≡ Some next → IsStayCount shape next.stage (phase_count counts (phase_of next.stage))
begins_stay shape counts begun next stay e = subst (λ (q : Private). IsStayCount shape q.stage (phase_count counts (phase_of q.stage))) (same_Some begun next e) stay

pub shown_long : (seen : WorldView) → length (world_abstract_state seen).workers ≡ seen.shape.workers
shown_long seen = length-map-range_with_len (λ (worker : ℕ). abstract_worker seen.shape (world_memory seen) (world_privates seen) seen.history worker) 0 seen.shape.workers

module _ (old : WorldView) (worker : ℕ) (kept : WorldInvariant old) where
  -- The private state of a changed worker is one of the shape.
  is_next : (private : Private) (counts : Counts) (room : ℕ) → worker < old.shape.workers → IsSound (changed old worker (Some private) counts old.words old.history room) → IsPrivate old.shape private
  is_next private counts room within sound =
      (fitting old.shape _ _ _ worker private sound.fact within (became old worker (Some private) counts old.words old.history room kept.all_privates within).at).1

  pub hand_kept : (job : Job) (private : Private) → slice_get old.privates worker ≡ Some (Some private) → private.stage ≡ Resting → private.begun < old.shape.jobs → IsJob old.shape job
      → old.shape.workers ≤ old.room
      → WorldInvariant (world_with_private old worker (Some (submitted_private private job)) (with_stay_begun (worker_counts old worker) phase.Post))
  hand_kept job private found ready few is roomy =
      let within : worker < old.shape.workers = is_worker old worker (Some private) kept.all_privates found in
      let goes = hand_goes old worker (kept_sound old kept) job private (with_stay_begun (worker_counts old worker) phase.Post) old.room found ready few is in
      let next : IsPrivate old.shape (submitted_private private job) = is_next (submitted_private private job) (with_stay_begun (worker_counts old worker) phase.Post) old.room within goes.sound in
      let stay : IsStayCount old.shape (submitted_private private job).stage 0 = stay_begins old.shape (submitted_private private job) next tt (refl, refl, refl) in
      changed_kept old worker (Some (submitted_private private job)) (with_stay_begun (worker_counts old worker) phase.Post) old.words old.history old.room kept within goes.sound
      (omega (
        arith,
        roomy,
        owed_few (world_abstract_state (world_with_private old worker (Some (submitted_private private job)) (with_stay_begun (worker_counts old worker) phase.Post))).workers,
        shown_long (world_with_private old worker (Some (submitted_private private job)) (with_stay_begun (worker_counts old worker) phase.Post)),
      ))
      (λ p e. begins_stay old.shape (with_stay_begun (worker_counts old worker) phase.Post) (submitted_private private job) p stay e)
      (begins_short old worker phase.Post kept within)

  pub crash_kept : (private : Private) → slice_get old.privates worker ≡ Some (Some private) → WorldInvariant (world_with_private old worker None (worker_counts old worker))
  crash_kept private found =
      let within : worker < old.shape.workers = is_worker old worker (Some private) kept.all_privates found in
      let goes = crash_goes old worker (kept_sound old kept) private (worker_counts old worker) found in
      changed_kept old worker None (worker_counts old worker) old.words old.history old.room kept within goes.sound
      (omega (arith, kept.room, owed_step old.shape Crash (world_abstract_state old) worker _ goes.does))
      (λ p e. absurd (none-some p e)) (λ p. kept.short worker p within)

  pub restart_kept : slice_get old.privates worker ≡ Some None → WorldInvariant (world_with_private old worker (Some (restarted_private worker)) no_counts)
  restart_kept found =
      let within : worker < old.shape.workers = is_worker old worker None kept.all_privates found in
      let goes = restart_goes old worker (kept_sound old kept) no_counts found in
      let next : IsPrivate old.shape (restarted_private worker) = is_next (restarted_private worker) no_counts old.room within goes.sound in
      let stay : IsStayCount old.shape (restarted_private worker).stage 0 = stay_begins old.shape (restarted_private worker) next tt (tt, refl) in
      changed_kept old worker (Some (restarted_private worker)) no_counts old.words old.history old.room kept within goes.sound
      (omega (arith, kept.room, owed_step old.shape Restart (world_abstract_state old) worker _ goes.does))
      (λ p e. begins_stay old.shape no_counts (restarted_private worker) p stay e)
      (none_short old.shape)

  pub withdraw_kept : (private : Private) (ascent : Ascent) → slice_get old.privates worker ≡ Some (Some private) → private.stage ≡ Climbing ascent
      → WorldInvariant (world_with_private old worker (Some (withdrawing_private private)) (with_stay_begun (worker_counts old worker) phase.Exit))
  withdraw_kept private ascent found climbing =
      let within : worker < old.shape.workers = is_worker old worker (Some private) kept.all_privates found in
      let goes = withdraw_goes old worker (kept_sound old kept) private ascent (with_stay_begun (worker_counts old worker) phase.Exit) found climbing in
      let next : IsPrivate old.shape (withdrawing_private private) = is_next (withdrawing_private private) (with_stay_begun (worker_counts old worker) phase.Exit) old.room within goes.sound in
      let same : withdrawing_private private ≡ record { worker = private.worker; begun = private.begun; stage = Leaving (WithdrawPlace ascent.lock ascent.held) }
      = ap (λ (s : Stage). record { worker = private.worker; begun = private.begun; stage = withdrawing_stage s }) climbing in
      let Q : Private → Type 0 = λ (q : Private). IsPrivate old.shape q → IsStayCount old.shape q.stage (phase_count (with_stay_begun (worker_counts old worker) phase.Exit) (phase_of q.stage)) in
      let stay : IsStayCount old.shape (withdrawing_private private).stage (phase_count (with_stay_begun (worker_counts old worker) phase.Exit) (phase_of (withdrawing_private private).stage))
      = subst Q (sym same) (λ is. stay_begins old.shape _ is tt (refl, refl)) next in
      changed_kept old worker (Some (withdrawing_private private)) (with_stay_begun (worker_counts old worker) phase.Exit) old.words old.history old.room kept within goes.sound
      (omega (arith, kept.room, owed_step old.shape Wait (world_abstract_state old) worker _ goes.does))
      (λ p e. begins_stay old.shape (with_stay_begun (worker_counts old worker) phase.Exit) (withdrawing_private private) p stay e)
      (begins_short old worker phase.Exit kept within)
