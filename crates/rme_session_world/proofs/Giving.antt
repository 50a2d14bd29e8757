-- A worker that withdraws its job.
use Rattle.std.proofs.Common.{◌≡◌, ℕ, zero, suc, ◌<◌, List, [], ◌∷◌, ◌++◌, refl, sym, ◌∙◌, ap, subst, inl, arith}
use Rattle.std.specs.Prelude.{Bool, true, false, Option, Some, None, slice_get, if◌then◌else◌}
use Rattle.std.proofs.lemmas.Option.{same_Some}
use Rattle.rme_program.specs.NoteLaws.{phase_may_follow}
use Rattle.rme_program.specs.Phases.{phase_of}
use Rattle.rme_program.specs.Steps.{private_after, withdrawing_private}
use Rattle.rme_program.specs.declared.kinds.Phase.{Phase}
use Rattle.rme_program.specs.declared.kinds.Phase.TheVariants as phase
use Rattle.rme_program.specs.declared.note.Entry.{Entry}
use Rattle.rme_program.specs.declared.note.Note.{Note}
use Rattle.rme_program.specs.declared.note.Note.TheVariants as note
use Rattle.rme_program.specs.declared.note.Receipt.{Receipt}
use Rattle.rme_program.specs.declared.private.Private.{Private}
use Rattle.rme_program.specs.declared.stage.Ascent.{Ascent}
use Rattle.rme_program.specs.declared.stage.Stage.{Stage}
use Rattle.rme_program.specs.declared.stage.Stage.TheVariants.{Climbing}
use Rattle.rme_words.specs.declared.refusal.Refusal.TheVariants.{NotWaiting}
use Rattle.rme_world.specs.Refusals.{is_climbing_stage}
use Rattle.rme_machine.specs.declared.stance.JobStance.{JobStance}
use Rattle.rme_machine.specs.declared.stance.JobStance.TheVariants.{Idle, Handed, Waiting, Inside, Finished}
use Rattle.rme_machine.specs.Machine.{MachineState, IsInSectionOf, ActEffect, WorkerState}
use Rattle.rme_machine.specs.AbstractState.{act_of_note}
use Rattle.rme_session_protocol.specs.SessionViews.{withdrawn_worker}
use Rattle.rme_session_protocol.specs.declared.view.PendingWorker.{PendingWorker}
use Rattle.rme_session_protocol.specs.declared.view.Session.TheVariants.{Ready, Climb}
use Rattle.rme_world.specs.WorldViews.{WorldView, world_abstract_state}
use Rattle.rme_world.specs.WorldInvariants.{WorldInvariant}
use Rattle.rme_world.specs.Events.{StepChange, WithdrawChange}
use Rattle.rme_world.proofs.Happening.{may_withdraw, withdraws_goes}
use Rattle.rme_world.proofs.Telling.{after_step, tells}
use Rattle.rme_world.proofs.Worlds.{is_worker, kept_sound, step_kept}
use Rattle.rme_session_world.specs.declared.running.RunGoal.{RunGoal}
use Rattle.rme_session_world.specs.WorkerSessions.{IsAtRest, last_receipt_under, worker_state_in, worker_session}
use Rattle.rme_session_world.specs.WorkerRuns.{RunStepSequence}
use Rattle.rme_session_world.proofs.Beginning.{climb_parts, climb_phase}
use Rattle.rme_session_world.proofs.Lasts.{none_pending}
use Rattle.rme_session_world.proofs.Posting.{withdrawing_found}
use Rattle.rme_session_world.proofs.Viewing.{ready_shown}
use Rattle.rme_session_world.proofs.Stances.{pending_known}
use Rattle.rme_session_world.proofs.Ways.{machine_step, me_kept, me_put, new_within, phases, step_of}

-- It still waits, or it has withdrawn the job.
abbrev pub GivesUp : JobStance → Type 0
GivesUp Idle = Unit {0}
GivesUp (Handed job) = ⊥
GivesUp (Waiting number job) = Unit {0}
GivesUp (Inside number job) = ⊥
GivesUp (Finished number job) = ⊥

abbrev pub is_leaving : Phase → Bool
is_leaving phase.Exit = true
is_leaving phase.Ready = true
is_leaving p = false

pub record Giving (number : ℕ) (seen : WorldView) (worker : ℕ) : Type 0 where
  pub kept : WorldInvariant seen
  pub private : Private
  pub found : slice_get seen.privates worker ≡ Some (Some private)
  pub leaves : is_leaving (phase_of private.stage) ≡ true
  pub asked : (worker_state_in seen worker).asked ≡ number
  pub none : last_receipt_under seen.history worker number ≡ None
  pub on : GivesUp (worker_state_in seen worker).stance

leaves_on : (p q : Phase) → is_leaving p ≡ true → phase_may_follow p q ≡ true → is_leaving q ≡ true
leaves_on phase.Recover q leaves goes = absurd (cc)
leaves_on phase.Post q leaves goes = absurd (cc)
leaves_on phase.Enter q leaves goes = absurd (cc)
leaves_on phase.Section q leaves goes = absurd (cc)
leaves_on phase.Exit phase.Exit leaves goes = refl
leaves_on phase.Exit phase.Ready leaves goes = refl
leaves_on phase.Exit phase.Recover leaves goes = absurd (cc)
leaves_on phase.Exit phase.Post leaves goes = absurd (cc)
leaves_on phase.Exit phase.Enter leaves goes = absurd (cc)
leaves_on phase.Exit phase.Section leaves goes = absurd (cc)
leaves_on phase.Ready phase.Exit leaves goes = refl
leaves_on phase.Ready phase.Ready leaves goes = refl
leaves_on phase.Ready phase.Recover leaves goes = absurd (cc)
leaves_on phase.Ready phase.Post leaves goes = absurd (cc)
leaves_on phase.Ready phase.Enter leaves goes = absurd (cc)
leaves_on phase.Ready phase.Section leaves goes = absurd (cc)

never_stays : (stance : JobStance) (lock : ℕ) → GivesUp stance → IsInSectionOf stance lock → ⊥
never_stays Idle lock gives stays = stays
never_stays (Handed job) lock gives stays = gives
never_stays (Waiting number job) lock gives stays = stays
never_stays (Inside number job) lock gives stays = gives
never_stays (Finished number job) lock gives stays = gives

-- The worker's view afterwards.
abbrev pub Shows : ℕ → ℕ → List Entry → WorkerState → Type 0
Shows number worker history me = (me.asked ≡ number) × (last_receipt_under history worker number ≡ None) × GivesUp me.stance

module _ (number : ℕ) (old new : WorldView) (worker : ℕ) (was : worker < old.shape.workers) (is : worker < new.shape.workers) where
  same_shows : world_abstract_state new ≡ world_abstract_state old → Shows number worker old.history (worker_state_in old worker) → Shows number worker new.history (worker_state_in new worker)
  same_shows same shows =
      let history : new.history ≡ old.history = ap (λ (s : MachineState). s.history) same in
      let P : WorkerState → Type 0 = λ (w : WorkerState). Shows number worker new.history w in
      let Q : List Entry → Type 0 = λ (es : List Entry). Shows number worker es (worker_state_in old worker) in
      subst P (sym (me_kept old new worker was is same)) (subst Q (sym history) shows)

  shows_note : (n : Note) → ActEffect old.shape (act_of_note n) (world_abstract_state old) worker (worker_state_in old worker) (world_abstract_state new) → ((lock : ℕ) → n ≡ note.Entered lock → ⊥) → Shows number worker old.history (worker_state_in old worker)
      → Shows number worker new.history (worker_state_in new worker)
  shows_note note.Quiet goes not_in shows = same_shows goes.1 shows
  shows_note (note.Asked k) goes not_in shows = absurd (subst GivesUp goes.2 shows.2)
  shows_note note.Blocked goes not_in shows = same_shows goes.4 shows
  shows_note (note.Entered lock) goes not_in shows = absurd (not_in lock refl)
  shows_note (note.Reentered lock) goes not_in shows = absurd (never_stays (worker_state_in old worker).stance lock shows.2 goes.2)
  shows_note (note.Finished receipt) goes not_in shows = absurd (subst GivesUp goes.4 shows.2)
  shows_note (note.Left lock) goes not_in shows = absurd (subst GivesUp goes.4 shows.2)
  shows_note note.Ready goes not_in shows = same_shows goes.1 shows
  shows_note (note.Withdrew k) goes not_in shows =
      let me : WorkerState = record { up = true; entered = (worker_state_in old worker).entered; asked = (worker_state_in old worker).asked; withdrawn = (worker_state_in old worker).withdrawn ++ k ∷ []; stance = Idle } in
      let history : new.history ≡ old.history = ap (λ (s : MachineState). s.history) goes.3 in
      let P : WorkerState → Type 0 = λ (w : WorkerState). Shows number worker new.history w in
      let Q : List Entry → Type 0 = λ (es : List Entry). Shows number worker es me in
      subst P (sym (me_put old new worker me was is (ap (λ (s : MachineState). s.workers) goes.3))) (subst Q (sym history) (shows.0, shows.1, tt))

giving_step : (number : ℕ) (old new : WorldView) (worker : ℕ) (n : Note) → Giving number old worker → StepChange old worker n new → Giving number new worker
giving_step number old new worker n giving steps =
    let was : worker < old.shape.workers = is_worker old worker (Some giving.private) giving.kept.all_privates giving.found in
    let is : worker < new.shape.workers = new_within old new worker n giving.kept steps in
    let same : steps.private ≡ giving.private = same_Some _ _ (same_Some _ _ (sym steps.found ∙ giving.found)) in
    let leaves : is_leaving (phase_of steps.private.stage) ≡ true = ap (λ (p : Private). is_leaving (phase_of p.stage)) same ∙ giving.leaves in
    let not_in : (lock : ℕ) → n ≡ note.Entered lock → ⊥ = λ lock e.
    (let tale = tells old new worker n giving.kept steps (note.Entered lock) e in
    let no_ : is_leaving phase.Enter ≡ true = subst (λ (s : Stage). is_leaving (phase_of s) ≡ true) tale.1 leaves in
    let no : false ≡ true = no_ in cc) in
    let shows = shows_note number old new worker was is n (machine_step old new worker n giving.kept steps) not_in (giving.asked, giving.none, giving.on) in
    record {
      kept = step_kept old new worker n steps giving.kept;
      private = private_after old.shape steps.private steps.value;
      found = after_step old new worker n giving.kept steps;
      leaves = leaves_on (phase_of steps.private.stage) _ leaves (phases old new worker n giving.kept steps);
      asked = shows.0;
      none = shows.1;
      on = shows.2;
    }

pub giving_walks : (number : ℕ) (goal : RunGoal) (worker : ℕ) (steps : ℕ) (old new : WorldView) → RunStepSequence goal worker old steps new → Giving number old worker → Giving number new worker
unfolding RunStepSequence
giving_walks number goal worker zero old new walks giving = subst (λ (s : WorldView). Giving number s worker) (sym walks) giving
giving_walks number goal worker (suc steps) old new walks giving =
    giving_walks number goal worker steps walks.0 new walks.2 (giving_step number old walks.0 worker walks.1.note giving walks.1.stepped.accepted)

-- A worker that has begun to withdraw its job.
module _ (old mid : WorldView) (worker : ℕ) (pending : PendingWorker) (kept : WorldInvariant old) (after : WorldInvariant mid) (rests : IsAtRest old worker) (is : Climb pending ≡ worker_session old worker) (its : WithdrawChange old worker mid) where
  was : worker < old.shape.workers
  was = is_worker old worker (Some rests.0) kept.all_privates rests.1

  now : worker < mid.shape.workers
  now = omega (arith, was, ap (λ (s : WorldView). s.shape.workers) its.turns)

  leaving : (private : Private) → (ascent : Ascent) × (private.stage ≡ Climbing ascent) → is_leaving (phase_of (withdrawing_private private).stage) ≡ true
  leaving private climbs = rw climbs.1 refl

  pub gives : Giving pending.number mid worker
  gives =
      let goes = step_of old mid worker note.Blocked was (withdraws_goes old mid worker (kept_sound old kept) its) in
      let parts = climb_parts old worker kept rests pending is in
      let number : (worker_state_in old worker).asked ≡ pending.number = sym (ap (λ (p : PendingWorker). p.number) parts) in
      let none : last_receipt_under old.history worker pending.number ≡ None
      = ap (last_receipt_under old.history worker) (sym number) ∙ none_pending old worker kept was (pending_known old worker rests.0 kept rests.1 (inl (climb_phase old worker kept rests pending is))) in
      let shows = same_shows pending.number old mid worker was now goes.4 (number, none, subst GivesUp (sym goes.3) tt) in
      record {
        kept = after;
        private = withdrawing_private its.private;
        found = withdrawing_found old mid worker its;
        leaves = leaving its.private (may_withdraw its.private (may_at its.private its.found));
        asked = shows.0;
        none = shows.1;
        on = shows.2;
      }
    where
      may_at : (private : Private) → slice_get old.privates worker ≡ Some (Some private) → (if is_climbing_stage private.stage then None else Some NotWaiting) ≡ None
      may_at private found = rw found at its.may

-- A worker that is ready afterwards has withdrawn it.
pub ends_given : (number : ℕ) (seen : WorldView) (worker : ℕ) (pending : PendingWorker) → Giving number seen worker → pending.worker ≡ worker → pending.number ≡ number
    → (private : Private) → slice_get seen.privates worker ≡ Some (Some private) → phase_of private.stage ≡ phase.Ready → worker_session seen worker ≡ Ready (withdrawn_worker pending)
ends_given number seen worker pending giving by under private found e =
    ready_shown seen worker private giving.kept found e
    ∙ ap (λ (n : ℕ). Ready record { worker = worker; number = n; last = last_receipt_under seen.history worker n }) giving.asked
    ∙ ap (λ (l : Option Receipt). Ready record { worker = worker; number = number; last = l }) giving.none
    ∙ ap (λ (w : ℕ). Ready record { worker = w; number = number; last = None }) (sym by)
    ∙ ap (λ (n : ℕ). Ready record { worker = pending.worker; number = n; last = None }) (sym under)
