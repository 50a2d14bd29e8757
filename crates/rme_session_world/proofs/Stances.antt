-- The stance of a worker in the abstract machine, from its private state.
use Rattle.std.proofs.Common.{◌≡◌, ℕ, ◌<◌, refl, ◌∙◌, subst, inl, inr, arith}
use Rattle.std.specs.Prelude.{◌⊎◌, Bool, true, false, Option, Some, None, slice_get}
use Rattle.std.proofs.lemmas.Bool.{cases_eq}
use Rattle.rme_tree.specs.Nodes.{held_levels_in}
use Rattle.rme_script.specs.declared.job.Job.{Job}
use Rattle.rme_program.specs.declared.kinds.Phase.{Phase}
use Rattle.rme_program.specs.declared.kinds.Phase.TheVariants as phase
use Rattle.rme_program.specs.declared.private.Private.{Private}
use Rattle.rme_program.specs.declared.stage.Slate.{Slate}
use Rattle.rme_program.specs.declared.stage.Stage.{Stage}
use Rattle.rme_program.specs.declared.stage.Stage.TheVariants.{Resting, Recovering, Posting, Climbing, Logging, Copying, Leaving}
use Rattle.rme_program.specs.declared.stage.Departure.{Departure}
use Rattle.rme_program.specs.declared.stage.Departure.TheVariants.{LoadExitTurn, StoreExitTurn, Clear, WithdrawPlace, WithdrawAt, WithdrawReply, WithdrawDone}
use Rattle.rme_program.specs.Phases.{phase_of}
use Rattle.rme_machine.specs.declared.stance.JobStance.{JobStance}
use Rattle.rme_machine.specs.declared.stance.JobStance.TheVariants.{Idle, Handed, Waiting, Inside, Finished}
use Rattle.rme_machine.specs.Knowledge.{PrivateInvariant, IsPendingAt, IsDoneAt, IsIdleWorker, log_lock, redo_lock}
use Rattle.rme_machine.specs.FurtherLaws.{stage_owned_lock}
use Rattle.rme_machine.proofs.Tables.{owning}
use Rattle.rme_machine.specs.Histories.{last_entry_of_worker}
use Rattle.rme_machine.specs.AbstractState.{last_entry_job, lock_owned_by_worker, abstract_stance, stance_outside}
use Rattle.rme_machine.specs.Views.{is_pending, lock_words, current_lock, slate_job}
use Rattle.rme_machine.proofs.Shows.{owned_at, owned_none, owned_site}
use Rattle.rme_world.specs.WorldViews.{WorldView, world_memory, world_privates}
use Rattle.rme_world.specs.WorldInvariants.{WorldInvariant}
use Rattle.rme_world.specs.Queries.{world_worker_words}
use Rattle.rme_world.proofs.Worlds.{is_worker, up_at}
use Rattle.rme_session_world.specs.WorkerSessions.{is_resting_phase, worker_state_in}

-- A possible stance of a worker in this phase. A recovering worker may have any.
abbrev pub Suits : Phase → JobStance → Type 0
Suits phase.Recover stance = Unit {0}
Suits phase.Ready Idle = Unit {0}
Suits phase.Ready stance = ⊥
Suits phase.Post (Handed job) = Unit {0}
Suits phase.Post stance = ⊥
Suits phase.Enter (Waiting number job) = Unit {0}
Suits phase.Enter stance = ⊥
Suits phase.Section (Inside number job) = Unit {0}
Suits phase.Section stance = ⊥
Suits phase.Exit (Handed job) = ⊥
Suits phase.Exit (Inside number job) = ⊥
Suits phase.Exit stance = Unit {0}

-- Its number, and its job.
abbrev pub IsNumbered : JobStance → ℕ → Job → Type 0
IsNumbered (Waiting number job) asked slate = (number ≡ asked) × (job ≡ slate)
IsNumbered (Inside number job) asked slate = (number ≡ asked) × (job ≡ slate)
IsNumbered (Finished number job) asked slate = number ≡ asked
IsNumbered stance asked slate = Unit {0}

outside_numbered : (private : Option Private) (asked : ℕ) (slate : Job) → IsNumbered (stance_outside private) asked slate
outside_numbered None asked slate = tt
outside_numbered (Some private) asked slate = by_stage private.stage refl
  where
    by_stage : (stage : Stage) → private.stage ≡ stage → IsNumbered (stance_outside (Some private)) asked slate
    by_stage Resting e = rw e tt
    by_stage (Recovering recovery) e = rw e tt
    by_stage (Posting its) e = rw e tt
    by_stage (Climbing ascent) e = rw e tt
    by_stage (Logging log) e = rw e tt
    by_stage (Copying redo) e = rw e tt
    by_stage (Leaving departure) e = rw e tt

numbered_by : (owned : Option ℕ) (pending : Bool) (asked : ℕ) (slate last : Job) (private : Option Private) → IsNumbered (abstract_stance owned pending asked slate last private) asked slate
numbered_by (Some lock) true asked slate last private = (refl, refl)
numbered_by (Some lock) false asked slate last private = refl
numbered_by None true asked slate last private = (refl, refl)
numbered_by None false asked slate last private = outside_numbered private asked slate

-- A stance determines the number under which the worker last asked, and the job of its slate.
pub numbered : (seen : WorldView) (worker : ℕ) → IsNumbered (worker_state_in seen worker).stance (worker_state_in seen worker).asked (slate_job (world_worker_words seen worker))
numbered seen worker =
    numbered_by (lock_owned_by_worker seen.shape (world_memory seen) worker) (is_pending (world_worker_words seen worker)) (world_worker_words seen worker).begun (slate_job (world_worker_words seen worker))
    (last_entry_job (last_entry_of_worker seen.history worker)) (world_privates seen worker)

module _ (seen : WorldView) (worker : ℕ) (private : Private) (kept : WorldInvariant seen) (found : slice_get seen.privates worker ≡ Some (Some private)) where
  within : worker < seen.shape.workers
  within = is_worker seen worker (Some private) kept.all_privates found

  pub fits : PrivateInvariant seen.shape (world_worker_words seen worker) (held_levels_in seen.shape (world_memory seen) worker) (lock_words seen.shape (world_memory seen)) worker private
  fits = kept.fact.fits worker private within (up_at seen worker (Some private) found)

  own : Option ℕ → Bool → JobStance
  own owned pending = abstract_stance owned pending (world_worker_words seen worker).begun (slate_job (world_worker_words seen worker)) (last_entry_job (last_entry_of_worker seen.history worker)) (Some private)

  -- The stance, from the lock that the worker owns and whether its job is pending.
  stands_as : (owned : Option ℕ) (pending : Bool) → lock_owned_by_worker seen.shape (world_memory seen) worker ≡ owned → is_pending (world_worker_words seen worker) ≡ pending
      → (worker_state_in seen worker).stance ≡ own owned pending
  unfolding own
  stands_as owned pending owns at = rw owns (rw at (rw (up_at seen worker (Some private) found) refl))

  none_owned : (lock : ℕ) → current_lock (world_worker_words seen worker) ≡ lock → held_levels_in seen.shape (world_memory seen) worker lock < seen.shape.height → lock_owned_by_worker seen.shape (world_memory seen) worker ≡ None
  none_owned lock site less = owned_site seen.shape (world_memory seen) (world_privates seen) seen.history worker lock kept.fact within site less

  idle_owns : IsIdleWorker seen.shape (world_worker_words seen worker) (held_levels_in seen.shape (world_memory seen) worker) private.begun → lock_owned_by_worker seen.shape (world_memory seen) worker ≡ None
  idle_owns idle = owned_none seen.shape (world_memory seen) worker (λ lock below all. omega (arith, idle.holds lock below, all, seen.shape.counted.tree.some_level))

  pending_site : (lock levels : ℕ) → IsPendingAt (world_worker_words seen worker) (held_levels_in seen.shape (world_memory seen) worker) private.begun lock levels → current_lock (world_worker_words seen worker) ≡ lock
  pending_site lock levels at = rw at.pending at.slate

  past_site : (lock levels : ℕ) → IsDoneAt (world_worker_words seen worker) (held_levels_in seen.shape (world_memory seen) worker) private.begun lock levels → current_lock (world_worker_words seen worker) ≡ lock
  past_site lock levels past = rw past.past past.site

  -- A waiting worker, and one that owns its lock.
  waits : (lock levels : ℕ) → levels < seen.shape.height → IsPendingAt (world_worker_words seen worker) (held_levels_in seen.shape (world_memory seen) worker) private.begun lock levels
      → (worker_state_in seen worker).stance ≡ Waiting (world_worker_words seen worker).begun (slate_job (world_worker_words seen worker))
  unfolding own
  waits lock levels less at = stands_as None true (none_owned lock (pending_site lock levels at) (omega (arith, at.holds, less))) at.pending

  is_in : (lock : ℕ) → lock < seen.shape.locks → IsPendingAt (world_worker_words seen worker) (held_levels_in seen.shape (world_memory seen) worker) private.begun lock seen.shape.height
      → (worker_state_in seen worker).stance ≡ Inside (world_worker_words seen worker).begun (slate_job (world_worker_words seen worker))
  unfolding own
  is_in lock below at =
      stands_as (Some lock) true (owned_at seen.shape (world_memory seen) (world_privates seen) seen.history worker lock kept.fact within below at.holds) at.pending

  idle_stance : private.stage ≡ Resting → (worker_state_in seen worker).stance ≡ Idle
  unfolding own
  idle_stance e =
      let idle : IsIdleWorker seen.shape (world_worker_words seen worker) (held_levels_in seen.shape (world_memory seen) worker) private.begun = rw e at fits.knows in
      stands_as None false (idle_owns idle) idle.past ∙ outside_idle private e
    where
      outside_idle : (p : Private) → p.stage ≡ Resting → stance_outside (Some p) ≡ Idle
      outside_idle p at = rw at refl

  -- A worker that posts its job was given that job, and knows the number of jobs that it has begun.
  pub post_stance : (slate : Slate) → private.stage ≡ Posting slate → (worker_state_in seen worker).stance ≡ Handed slate.job
  unfolding own
  post_stance slate e =
      let knows = rw e at fits.knows in
      stands_as None false (idle_owns knows.0) knows.0.past ∙ outside_post private e
    where
      outside_post : (p : Private) → p.stage ≡ Posting slate → stance_outside (Some p) ≡ Handed slate.job
      outside_post p at = rw at refl

  below : (lock : ℕ) → stage_owned_lock seen.shape private.stage ≡ Some lock → lock < seen.shape.locks
  below lock owned = (owning seen.shape (world_memory seen) (world_privates seen) seen.history worker lock private kept.fact within (up_at seen worker (Some private) found) owned).0

  past_owns : (lock : ℕ) → lock < seen.shape.locks → IsDoneAt (world_worker_words seen worker) (held_levels_in seen.shape (world_memory seen) worker) private.begun lock seen.shape.height
      → (worker_state_in seen worker).stance ≡ Finished (world_worker_words seen worker).begun (last_entry_job (last_entry_of_worker seen.history worker))
  unfolding own
  past_owns lock is past =
      stands_as (Some lock) false (owned_at seen.shape (world_memory seen) (world_privates seen) seen.history worker lock kept.fact within is past.holds) past.past

  past_out : (departure : Departure) (lock level : ℕ) → private.stage ≡ Leaving departure → level < seen.shape.height
      → IsDoneAt (world_worker_words seen worker) (held_levels_in seen.shape (world_memory seen) worker) private.begun lock level → (worker_state_in seen worker).stance ≡ Idle
  unfolding own
  past_out departure lock level e less past =
      stands_as None false (none_owned lock (past_site lock level past) (omega (arith, past.holds, less))) past.past ∙ outside_left private e
    where
      outside_left : (p : Private) → p.stage ≡ Leaving departure → stance_outside (Some p) ≡ Idle
      outside_left p at = rw at refl

  exit_suits : (departure : Departure) → private.stage ≡ Leaving departure → Suits phase.Exit (worker_state_in seen worker).stance
  exit_suits (LoadExitTurn lock) e =
      let knows : IsDoneAt (world_worker_words seen worker) (held_levels_in seen.shape (world_memory seen) worker) private.begun lock seen.shape.height = rw e at fits.knows in
      rw (past_owns lock (below lock (rw e refl)) knows) tt
  exit_suits (StoreExitTurn lock turn) e =
      let knows = rw e at fits.knows in
      rw (past_owns lock (below lock (rw e refl)) knows.0) tt
  exit_suits (Clear lock level) e =
      let knows = rw e at fits.knows in
      let is = rw e at fits.shaped.stage in
      elim (cases_eq level seen.shape.height) [
        | inl all ↦ (let P : ℕ → Type 0 = λ (l : ℕ). IsDoneAt (world_worker_words seen worker) (held_levels_in seen.shape (world_memory seen) worker) private.begun lock l in rw (past_owns lock is.0 (subst P all knows.0)) tt)
        | inr less ↦ (rw (past_out (Clear lock level) lock level e (omega (arith, less, is.2)) knows.0) tt)
      ]
  exit_suits (WithdrawPlace lock held) e =
      let knows : IsPendingAt (world_worker_words seen worker) (held_levels_in seen.shape (world_memory seen) worker) private.begun lock held = rw e at fits.knows in
      let is = rw e at fits.shaped.stage in rw (waits lock held is.1 knows) tt
  exit_suits (WithdrawAt lock held) e =
      let knows = rw e at fits.knows in
      let is = rw e at fits.shaped.stage in rw (waits lock held is.1 knows.0) tt
  exit_suits (WithdrawReply lock held) e =
      let knows = rw e at fits.knows in
      let is = rw e at fits.shaped.stage in rw (waits lock held is.1 knows.0) tt
  exit_suits (WithdrawDone lock held) e =
      let knows = rw e at fits.knows in
      let is = rw e at fits.shaped.stage in rw (waits lock held is.1 knows.0) tt

  suits_at : (stage : Stage) → private.stage ≡ stage → Suits (phase_of stage) (worker_state_in seen worker).stance
  suits_at Resting e = rw (idle_stance e) tt
  suits_at (Recovering recovery) e = tt
  suits_at (Posting slate) e = rw (post_stance slate e) tt
  suits_at (Climbing ascent) e =
      let knows : IsPendingAt (world_worker_words seen worker) (held_levels_in seen.shape (world_memory seen) worker) private.begun ascent.lock ascent.held = rw e at fits.knows in
      let is = rw e at fits.shaped.stage in rw (waits ascent.lock ascent.held is.1 knows) tt
  suits_at (Logging log) e =
      let knows = rw e at fits.knows in rw (is_in (log_lock log) (below (log_lock log) (rw e refl)) knows.0) tt
  suits_at (Copying redo) e =
      let knows = rw e at fits.knows in rw (is_in (redo_lock redo) (below (redo_lock redo) (rw e refl)) knows.0) tt
  suits_at (Leaving departure) e = exit_suits departure e

  -- The stance of a worker is possible in its phase.
  pub suits : Suits (phase_of private.stage) (worker_state_in seen worker).stance
  suits = suits_at private.stage refl

  begun_at : (stage : Stage) → private.stage ≡ stage → is_resting_phase (phase_of stage) ≡ true → (world_worker_words seen worker).begun ≡ private.begun
  begun_at Resting e rests = let knows : IsIdleWorker seen.shape (world_worker_words seen worker) (held_levels_in seen.shape (world_memory seen) worker) private.begun = rw e at fits.knows in knows.known
  begun_at (Recovering recovery) e rests = absurd (cc)
  begun_at (Posting slate) e rests = absurd (cc)
  begun_at (Climbing ascent) e rests = let knows : IsPendingAt (world_worker_words seen worker) (held_levels_in seen.shape (world_memory seen) worker) private.begun ascent.lock ascent.held = rw e at fits.knows in knows.known
  begun_at (Logging log) e rests = let knows = rw e at fits.knows in knows.0.known
  begun_at (Copying redo) e rests = let knows = rw e at fits.knows in knows.0.known
  begun_at (Leaving departure) e rests = absurd (cc)

  -- At rest it knows the number of jobs that it has begun.
  pub begun_known : is_resting_phase (phase_of private.stage) ≡ true → (worker_state_in seen worker).asked ≡ private.begun
  begun_known rests = begun_at private.stage refl rests

  past_at : (stage : Stage) → private.stage ≡ stage → phase_of stage ≡ phase.Ready → is_pending (world_worker_words seen worker) ≡ false
  past_at Resting e ready = let knows : IsIdleWorker seen.shape (world_worker_words seen worker) (held_levels_in seen.shape (world_memory seen) worker) private.begun = rw e at fits.knows in knows.past
  past_at (Recovering recovery) e ready = absurd (cc)
  past_at (Posting slate) e ready = absurd (cc)
  past_at (Climbing ascent) e ready = absurd (cc)
  past_at (Logging log) e ready = absurd (cc)
  past_at (Copying redo) e ready = absurd (cc)
  past_at (Leaving departure) e ready = absurd (cc)

  -- A ready worker has no pending job.
  pub ready_past : phase_of private.stage ≡ phase.Ready → is_pending (world_worker_words seen worker) ≡ false
  ready_past ready = past_at private.stage refl ready

  pending_at : (stage : Stage) → private.stage ≡ stage → (phase_of stage ≡ phase.Enter) ⊎ (phase_of stage ≡ phase.Section) → is_pending (world_worker_words seen worker) ≡ true
  pending_at Resting e at = absurd (elim at [ inl q ↦ (cc) | inr q ↦ (cc) ])
  pending_at (Recovering recovery) e at = absurd (elim at [ inl q ↦ (cc) | inr q ↦ (cc) ])
  pending_at (Posting slate) e at = absurd (elim at [ inl q ↦ (cc) | inr q ↦ (cc) ])
  pending_at (Climbing ascent) e at = let knows : IsPendingAt (world_worker_words seen worker) (held_levels_in seen.shape (world_memory seen) worker) private.begun ascent.lock ascent.held = rw e at fits.knows in knows.pending
  pending_at (Logging log) e at = let knows = rw e at fits.knows in knows.0.pending
  pending_at (Copying redo) e at = let knows = rw e at fits.knows in knows.0.pending
  pending_at (Leaving departure) e at = absurd (elim at [ inl q ↦ (cc) | inr q ↦ (cc) ])

  -- A waiting worker and one inside have one.
  pub pending_known : (phase_of private.stage ≡ phase.Enter) ⊎ (phase_of private.stage ≡ phase.Section) → is_pending (world_worker_words seen worker) ≡ true
  pending_known at = pending_at private.stage refl at

  pub post_begun : (slate : Slate) → private.stage ≡ Posting slate → (worker_state_in seen worker).asked ≡ private.begun
  post_begun slate e = let knows = rw e at fits.knows in knows.0.known
