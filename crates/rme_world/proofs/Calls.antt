-- Each single call meets the refinement theorem; and what each call establishes when it returns.
use Rattle.std.proofs.Common.{◌≡◌, ℕ, ◌+◌, ◌<◌, ◌≤◌, refl, sym, ◌∙◌, ap, subst, arith}
use Rattle.std.specs.Prelude.{Option, Some, None, slice_get, unwrap_or, if◌then◌else◌}
use Rattle.rme_words.specs.declared.refusal.Refusal.{Refusal}
use Rattle.rme_script.specs.declared.job.Job.{Job}
use Rattle.rme_program.specs.declared.event.Event.{Event}
use Rattle.rme_program.specs.declared.event.Event.TheVariants.{Submit, Step, Crash, Restart, Withdraw}
use Rattle.rme_program.specs.declared.event.Answer.TheVariants.{Handed, Stepped, Crashed, Restarted, Withdrawing, Refused}
use Rattle.rme_program.specs.declared.note.Note.{Note}
use Rattle.rme_program.specs.declared.kinds.Phase.TheVariants.{Post, Exit}
use Rattle.rme_program.specs.declared.private.Private.{Private}
use Rattle.rme_program.specs.declared.stage.Ascent.{Ascent}
use Rattle.rme_program.specs.declared.stage.Stage.{Stage}
use Rattle.rme_program.specs.declared.stage.Stage.TheVariants.{Resting, Recovering, Posting, Climbing, Logging, Copying, Leaving}
use Rattle.rme_program.specs.Phases.{phase_of, steps_left}
use Rattle.rme_words.specs.declared.refusal.Refusal.TheVariants.{NotWaiting}
use Rattle.rme_script.specs.Jobs.{IsJob}
use Rattle.rme_program.specs.Steps.{restarted_private, submitted_private, withdrawing_private, withdrawing_stage}
use Rattle.rme_world.specs.declared.counts.Counts.{Counts}
use Rattle.rme_world.specs.Counting.{with_stay_begun, phase_count, no_counts, max_row_steps}
use Rattle.rme_world.specs.WorldViews.{WorldView, worker_counts, world_memory, world_abstract_state}
use Rattle.rme_world.specs.WorldInvariants.{WorldInvariant, total_entries_due}
use Rattle.rme_world.specs.Refusals.{submit_refusal, withdraw_refusal, is_climbing_stage}
use Rattle.rme_world.specs.Events.{SubmitChange, StepChange, CrashChange, RestartChange, WithdrawChange, world_with_private}
use Rattle.rme_world.specs.Queries.{WorkerStartsStay, HasStartedStay, WorkerIsWithdrawing}
use Rattle.rme_world.specs.Refinement.{IsEventRefinement}
use Rattle.rme_world.proofs.Worlds.{is_worker, kept_sound, step_goes, up_at}
use Rattle.rme_world.proofs.Happening.{hand_kept, may_restart, may_withdraw, submits_goes, crashes_goes, restarts_goes, withdraws_goes}
use Rattle.rme_world.proofs.Headline.{act_run, nothing_run}
use Rattle.rme_world.proofs.Stays.{begun_here}
use Rattle.rme_machine.proofs.Lists.{get_set}
use Rattle.rme_machine.specs.Knowledge.{IsPendingAt}
use Rattle.rme_machine.specs.Views.{worker_words}
use Rattle.rme_tree.specs.Nodes.{held_levels_in}
use Rattle.std.proofs.lemmas.Option.{same_Some}
use Rattle.rme_program.specs.declared.stage.Departure.TheVariants.{WithdrawPlace}

-- A refused event is a run with no step.
pub refused_run : (seen : WorldView) (event : Event) (refusal : Refusal) → WorldInvariant seen → IsEventRefinement seen event (Refused refusal) seen
refused_run seen event refusal kept = nothing_run seen event refusal (kept_sound seen kept)

-- Each accepted event is a run of its step.
pub submit_run : (old new : WorldView) (worker : ℕ) (job : Job) (number : ℕ) → WorldInvariant old → SubmitChange old worker job number new → IsEventRefinement old (Submit worker job) (Handed number) new
submit_run old new worker job number kept submits = act_run old new _ _ worker _ refl (kept_sound old kept) (submits_goes old new worker job number (kept_sound old kept) submits)

pub step_run : (old new : WorldView) (worker : ℕ) (note : Note) → WorldInvariant old → StepChange old worker note new → IsEventRefinement old (Step worker) (Stepped note) new
step_run old new worker note kept steps = act_run old new _ _ worker _ refl (kept_sound old kept) (step_goes old new worker note steps (kept_sound old kept))

pub crash_run : (old new : WorldView) (worker : ℕ) → WorldInvariant old → CrashChange old worker new → IsEventRefinement old (Crash worker) Crashed new
crash_run old new worker kept crashes = act_run old new _ _ worker _ refl (kept_sound old kept) (crashes_goes old new worker (kept_sound old kept) crashes)

pub restart_run : (old new : WorldView) (worker : ℕ) → WorldInvariant old → RestartChange old worker new → IsEventRefinement old (Restart worker) Restarted new
restart_run old new worker kept restarts = act_run old new _ _ worker _ refl (kept_sound old kept) (restarts_goes old new worker (kept_sound old kept) restarts)

pub withdraw_run : (old new : WorldView) (worker : ℕ) → WorldInvariant old → WithdrawChange old worker new → IsEventRefinement old (Withdraw worker) Withdrawing new
withdraw_run old new worker kept withdraws = act_run old new _ _ worker _ refl (kept_sound old kept) (withdraws_goes old new worker (kept_sound old kept) withdraws)

-- ---- the change that each call made

pub crashes_by : (old new : WorldView) (worker : ℕ) (private : Private) (counts : Counts) → slice_get old.privates worker ≡ Some (Some private) → counts ≡ worker_counts old worker
    → new ≡ world_with_private old worker None counts → CrashChange old worker new
crashes_by old new worker private counts found e falls = record { may = rw found refl; falls = rw e at falls }

pub restarts_by : (old new : WorldView) (worker : ℕ) → slice_get old.privates worker ≡ Some None → new ≡ world_with_private old worker (Some (restarted_private worker)) no_counts → RestartChange old worker new
restarts_by old new worker found rises = record { may = rw found refl; rises = rises }

pub withdraws_by : (old new : WorldView) (worker : ℕ) (private : Private) (ascent : Ascent) → slice_get old.privates worker ≡ Some (Some private) → private.stage ≡ Climbing ascent
    → new ≡ world_with_private old worker (Some (withdrawing_private private)) (with_stay_begun (worker_counts old worker) Exit) → WithdrawChange old worker new
withdraws_by old new worker private ascent found climbing turns = record { may = rw (found, climbing) refl; private = private; found = found; turns = turns }

-- ---- a stay that an event begins

-- A worker whose private state and counts were replaced begins a stay, if its count for that phase is 0.
begins_put : (old new : WorldView) (worker : ℕ) (private : Private) (counts : Counts) (room : ℕ) → WorldInvariant old → worker < old.shape.workers
    → new ≡ record (world_with_private old worker (Some private) counts) { room = room } → phase_count counts (phase_of private.stage) ≡ 0 → steps_left old.shape private.stage ≤ max_row_steps old.shape private.stage
    → HasStartedStay new worker
begins_put old new worker private counts room kept within put none row =
    let P : WorldView → Type 0 = λ (s : WorldView). HasStartedStay s worker in
    subst P (sym put) (λ q found.
    let same : private ≡ q = same_Some _ _ (same_Some _ _ (sym (get_set old.privates worker (Some private) (omega (arith, kept.all_privates, within))) ∙ found)) in
    let mine : worker_counts (record (world_with_private old worker (Some private) counts) { room = room }) worker ≡ counts
    = ap (λ (c : Option Counts). unwrap_or c no_counts) (get_set old.counts worker counts (omega (arith, kept.all_counts, within))) in
    let B : Private → Type 0 = λ (p : Private). WorkerStartsStay (record (world_with_private old worker (Some private) counts) { room = room }) worker p in
    subst B same record { none = ap (λ (c : Counts). phase_count c (phase_of private.stage)) mine ∙ none; left = row })

pub submit_begins : (old new : WorldView) (worker : ℕ) (job : Job) (number : ℕ) → WorldInvariant old → SubmitChange old worker job number new → HasStartedStay new worker
submit_begins old new worker job number kept submits =
    begins_put old new worker (submitted_private submits.private job) (with_stay_begun (worker_counts old worker) Post) new.room kept
    (is_worker old worker (Some submits.private) kept.all_privates submits.found) submits.hands (begun_here (worker_counts old worker) Post) (omega arith)

pub restart_begins : (old new : WorldView) (worker : ℕ) → WorldInvariant old → RestartChange old worker new → HasStartedStay new worker
restart_begins old new worker kept restarts =
    begins_put old new worker (restarted_private worker) no_counts old.room kept
    (is_worker old worker None kept.all_privates (may_restart (slice_get old.privates worker) restarts.may)) restarts.rises refl (omega arith)

module _ (old new : WorldView) (worker : ℕ) (kept : WorldInvariant old) (withdraws : WithdrawChange old worker new) where
  climbing : (ascent : Ascent) × (withdraws.private.stage ≡ Climbing ascent)
  climbing = may_withdraw withdraws.private (rw withdraws.found at withdraws.may)

  here : worker < old.shape.workers
  here = is_worker old worker (Some withdraws.private) kept.all_privates withdraws.found

  -- The stage of a worker that begins to withdraw its job.
  gives_up_at : withdrawing_stage withdraws.private.stage ≡ Leaving (WithdrawPlace climbing.0.lock climbing.0.held)
  gives_up_at = ap withdrawing_stage climbing.1

  pub withdraw_begins : HasStartedStay new worker
  withdraw_begins =
      let L : Stage → Type 0 = λ (s : Stage). (phase_count (with_stay_begun (worker_counts old worker) Exit) (phase_of s) ≡ 0) × (steps_left old.shape s ≤ max_row_steps old.shape s) in
      let both : (phase_count (with_stay_begun (worker_counts old worker) Exit) (phase_of (withdrawing_stage withdraws.private.stage)) ≡ 0) × (steps_left old.shape (withdrawing_stage withdraws.private.stage) ≤ max_row_steps old.shape (withdrawing_stage withdraws.private.stage))
      = subst L (sym gives_up_at) (begun_here (worker_counts old worker) Exit, omega arith) in
      begins_put old new worker (withdrawing_private withdraws.private) (with_stay_begun (worker_counts old worker) Exit) old.room kept here withdraws.turns both.0 both.1

  pub withdraw_bounds : (q : Private) → slice_get new.privates worker ≡ Some (Some q) → WorkerIsWithdrawing new worker q
  withdraw_bounds =
      let fits = kept.fact.fits worker withdraws.private here (up_at old worker (Some withdraws.private) withdraws.found) in
      let knows : IsPendingAt (worker_words (world_memory old) worker) (held_levels_in old.shape (world_memory old) worker) withdraws.private.begun climbing.0.lock climbing.0.held = rw climbing.1 at fits.knows in
      let shaped = rw climbing.1 at fits.shaped.stage in
      let after : WorldView = world_with_private old worker (Some (withdrawing_private withdraws.private)) (with_stay_begun (worker_counts old worker) Exit) in
      let G : WorldView → Type 0 = λ (s : WorldView). (q : Private) → slice_get s.privates worker ≡ Some (Some q) → WorkerIsWithdrawing s worker q in
      subst G (sym withdraws.turns) (λ q found.
      let same : withdrawing_private withdraws.private ≡ q
      = same_Some _ _ (same_Some _ _ (sym (get_set old.privates worker (Some (withdrawing_private withdraws.private)) (omega (arith, kept.all_privates, here))) ∙ found)) in
      let left : steps_left old.shape (withdrawing_stage withdraws.private.stage) ≡ 4 + climbing.0.held = ap (steps_left old.shape) gives_up_at in
      let holds = knows.holds in
      let B : Private → Type 0 = λ (p : Private). WorkerIsWithdrawing after worker p in
      subst B same record { lock = climbing.0.lock; waits = knows.slate; left = omega (arith, left, holds); below = omega (arith, holds, shaped.1) })

-- ---- a submitted job, after room was reserved

module _ (old roomy : WorldView) (worker : ℕ) (job : Job) (private : Private) (same : roomy ≡ record old { room = roomy.room })
    (found : slice_get old.privates worker ≡ Some (Some private)) (is : IsJob old.shape job) where
  pub roomy_kept : WorldInvariant roomy → private.stage ≡ Resting → private.begun < old.shape.jobs
      → old.shape.workers ≤ roomy.room
      → WorldInvariant (world_with_private roomy worker (Some (submitted_private private job)) (with_stay_begun (worker_counts roomy worker) Post))
  roomy_kept kept ready few room =
      let P : WorldView → Type 0 = λ (s : WorldView). WorldInvariant s → WorldInvariant (world_with_private s worker (Some (submitted_private private job)) (with_stay_begun (worker_counts s worker) Post)) in
      subst P (sym same) (λ k. hand_kept record old { room = roomy.room } worker k job private found ready few is room) kept

  pub roomy_submits : (new : WorldView) (number : ℕ) → old.room ≤ roomy.room → submit_refusal old worker job ≡ None → number ≡ private.begun + 1
      → new ≡ world_with_private roomy worker (Some (submitted_private private job)) (with_stay_begun (worker_counts roomy worker) Post) → SubmitChange old worker job number new
  roomy_submits new number roomier may next hands =
      let P : WorldView → Type 0 = λ (s : WorldView). new ≡ world_with_private s worker (Some (submitted_private private job)) (with_stay_begun (worker_counts s worker) Post) in
      let from : new ≡ world_with_private (record old { room = roomy.room }) worker (Some (submitted_private private job)) (with_stay_begun (worker_counts old worker) Post) = subst P same hands in
      let room : roomy.room ≡ new.room = sym (ap (λ (s : WorldView). s.room) from) in
      record {
        may = may;
        is_job = is;
        private = private;
        found = found;
        next_number = next;
        room = omega (arith, roomier, room);
        hands = from ∙ ap (λ (r : ℕ). record (world_with_private old worker (Some (submitted_private private job)) (with_stay_begun (worker_counts old worker) Post)) { room = r }) room;
      }

-- An unchanged world still has room for its entries.
pub kept_room : (old new : WorldView) → WorldInvariant old → new ≡ old → total_entries_due (world_abstract_state new).workers ≤ new.room
kept_room old new kept same = subst (λ (s : WorldView). total_entries_due (world_abstract_state s).workers ≤ s.room) (sym same) kept.room

-- A worker at another stage is refused.
pub not_climbing : (seen : WorldView) (worker : ℕ) (private : Private) → slice_get seen.privates worker ≡ Some (Some private)
    → ((ascent : Ascent) → private.stage ≡ Climbing ascent → ⊥) → withdraw_refusal seen worker ≡ Some NotWaiting
not_climbing seen worker private found other = rw found (by_stage private.stage other)
  where
    by_stage : (stage : Stage) → ((ascent : Ascent) → stage ≡ Climbing ascent → ⊥) → (if is_climbing_stage stage then None else Some NotWaiting) ≡ Some NotWaiting
    by_stage Resting other = refl
    by_stage (Recovering recovery) other = refl
    by_stage (Posting slate) other = refl
    by_stage (Climbing ascent) other = absurd (other ascent refl)
    by_stage (Logging log) other = refl
    by_stage (Copying redo) other = refl
    by_stage (Leaving departure) other = refl
