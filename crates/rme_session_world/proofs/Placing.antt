-- The place of the section of a worker that is inside.
use Rattle.std.proofs.Common.{◌≡◌, ℕ, zero, suc, ◌<◌, List, [], ◌∷◌, ◌++◌, refl, sym, ◌∙◌, ap, subst, inl, inr}
use Rattle.std.specs.Prelude.{true, false, Option, Some, slice_set, ◌==◌}
use Rattle.std.proofs.lemmas.Bool.{cases_Bool}
use Rattle.rme_program.specs.Phases.{phase_of}
use Rattle.rme_program.specs.declared.kinds.Phase.{Phase}
use Rattle.rme_program.specs.declared.kinds.Phase.TheVariants as phase
use Rattle.rme_program.specs.declared.note.Entry.{Entry}
use Rattle.rme_program.specs.declared.note.Note.{Note}
use Rattle.rme_program.specs.declared.note.Note.TheVariants as note
use Rattle.rme_program.specs.declared.note.Receipt.{Receipt}
use Rattle.rme_machine.specs.declared.stance.JobStance.{JobStance}
use Rattle.rme_machine.specs.declared.stance.JobStance.TheVariants.{Idle, Handed, Waiting, Inside, Finished}
use Rattle.rme_machine.specs.AbstractState.{act_of_note}
use Rattle.rme_machine.specs.Histories.{place_of}
use Rattle.rme_machine.specs.Machine.{MachineState, WorkerState, ActEffect}
use Rattle.rme_machine.proofs.Historical.{last_by_same}
use Rattle.rme_machine.proofs.Sections.{place_count}
use Rattle.rme_session_protocol.specs.SessionSteps.{TellsPlace, last_outcome}
use Rattle.rme_session_protocol.specs.declared.planned_crash.PlannedCrash.{PlannedCrash}
use Rattle.rme_session_protocol.specs.declared.view.PendingWorker.{PendingWorker}
use Rattle.rme_session_protocol.specs.declared.view.Session.{Session}
use Rattle.rme_session_protocol.specs.declared.view.Session.TheVariants.{Held}
use Rattle.rme_session_protocol.specs.declared.reply.JobOutcome.{JobOutcome}
use Rattle.rme_session_protocol.specs.declared.reply.SessionReply.TheVariants as reply
use Rattle.rme_world.specs.WorldViews.{WorldView, world_abstract_state}
use Rattle.rme_world.specs.WorldInvariants.{WorldInvariant}
use Rattle.rme_world.proofs.Worlds.{is_worker, step_kept}
use Rattle.rme_session_world.specs.declared.running.RunEnd.{RunEnd}
use Rattle.rme_session_world.specs.declared.running.RunEnd.TheVariants.{There, Stopped, Fallen}
use Rattle.rme_session_world.specs.declared.running.RunGoal.{RunGoal}
use Rattle.rme_session_world.specs.declared.running.RunGoal.TheVariants as goals
use Rattle.rme_session_world.specs.declared.work.WorkedJob.{WorkedJob}
use Rattle.rme_session_world.specs.FencingTokens.{HasFinished}
use Rattle.rme_session_world.specs.Outcomes.{session_outcome}
use Rattle.rme_session_world.specs.WorkerSessions.{IsAtRest, last_receipt_under, receipt_of_number, worker_session, worker_state_in}
use Rattle.rme_session_world.specs.WorkerRuns.{IsRunEnd, RunStepSequence}
use Rattle.rme_session_world.specs.JobRuns.{JobRunEnd, JobContinuation}
use Rattle.rme_session_world.proofs.Beginning.{held_phase}
use Rattle.rme_session_world.proofs.Stances.{Suits, suits}
use Rattle.rme_session_world.proofs.Viewing.{climb_shown, idle, inside_of, ready_shown}
use Rattle.rme_session_world.proofs.Ways.{machine_step, me_kept, me_put, new_within}
use Rattle.rme_session_world.proofs.Working.{ready_only, stopped_enter}

-- The history has one more entry, of this worker, with the next place of its lock.
pub record HasOneMore (earlier history : List Entry) (worker : ℕ) : Type 0 where
  pub entry : Entry
  pub more : history ≡ earlier ++ entry ∷ []
  pub by : entry.receipt.worker ≡ worker
  pub place : entry.receipt.place ≡ place_of earlier entry.receipt.lock

-- While a worker is inside the history stays; when its section is finished, the history has one more entry.
abbrev pub IsPlaced : List Entry → List Entry → ℕ → JobStance → Type 0
IsPlaced earlier history worker Idle = HasOneMore earlier history worker
IsPlaced earlier history worker (Handed job) = ⊥
IsPlaced earlier history worker (Waiting number job) = ⊥
IsPlaced earlier history worker (Inside number job) = history ≡ earlier
IsPlaced earlier history worker (Finished number job) = HasOneMore earlier history worker

abbrev is_placed : List Entry → WorldView → ℕ → Type 0
is_placed earlier seen worker = IsPlaced earlier seen.history worker (worker_state_in seen worker).stance

module _ (earlier : List Entry) (old new : WorldView) (worker : ℕ) (was : worker < old.shape.workers) (is : worker < new.shape.workers) where
  -- The worker's stance is unchanged.
  still : world_abstract_state new ≡ world_abstract_state old → is_placed earlier old worker → is_placed earlier new worker
  still same placed =
      let P : WorkerState → List Entry → Type 0 = λ (w : WorkerState) (es : List Entry). IsPlaced earlier es worker w.stance in
      subst (λ (w : WorkerState). P w new.history) (sym (me_kept old new worker was is same))
      (subst (λ (es : List Entry). P (worker_state_in old worker) es) (sym (ap (λ (s : MachineState). s.history) same)) placed)

  -- It has this state now.
  now_at : (me : WorkerState) (history : List Entry) → (world_abstract_state new).workers ≡ slice_set (world_abstract_state old).workers worker me → new.history ≡ history → IsPlaced earlier history worker me.stance → is_placed earlier new worker
  now_at me history put entries placed =
      subst (λ (w : WorkerState). IsPlaced earlier new.history worker w.stance) (sym (me_put old new worker me was is put))
      (subst (λ (es : List Entry). IsPlaced earlier es worker me.stance) (sym entries) placed)

  at_stance : (stance : JobStance) → (worker_state_in old worker).stance ≡ stance → is_placed earlier old worker → IsPlaced earlier old.history worker stance
  at_stance stance e placed = subst (λ (s : JobStance). IsPlaced earlier old.history worker s) e placed

  placed_note : (n : Note) → ActEffect old.shape (act_of_note n) (world_abstract_state old) worker (worker_state_in old worker) (world_abstract_state new) → is_placed earlier old worker → is_placed earlier new worker
  placed_note note.Quiet goes placed = still goes.1 placed
  placed_note (note.Asked k) goes placed = absurd (at_stance (Handed goes.0) goes.2 placed)
  placed_note note.Blocked goes placed = still goes.4 placed
  placed_note (note.Entered lock) goes placed = absurd (at_stance (Waiting goes.0 goes.1) goes.3 placed)
  placed_note (note.Reentered lock) goes placed =
      now_at record { up = true; entered = true; asked = (worker_state_in old worker).asked; withdrawn = (worker_state_in old worker).withdrawn; stance = (worker_state_in old worker).stance } old.history
      (ap (λ (s : MachineState). s.workers) goes.3) (ap (λ (s : MachineState). s.history) goes.3) placed
  placed_note (note.Finished receipt) goes placed =
      let before : old.history ≡ earlier = at_stance (Inside goes.0 goes.1) goes.4 placed in
      let entry : Entry = record { receipt = receipt; script = goes.1.script } in
      let place : receipt.place ≡ place_of old.history goes.1.lock = ap (λ (r : Receipt). r.place) goes.5 in
      let lock : receipt.lock ≡ goes.1.lock = ap (λ (r : Receipt). r.lock) goes.5 in
      now_at record { up = true; entered = true; asked = (worker_state_in old worker).asked; withdrawn = (worker_state_in old worker).withdrawn; stance = Finished goes.0 goes.1 } (old.history ++ entry ∷ [])
      (ap (λ (s : MachineState). s.workers) goes.6) (ap (λ (s : MachineState). s.history) goes.6)
      record {
        entry = entry;
        more = ap (λ (es : List Entry). es ++ entry ∷ []) before;
        by = ap (λ (r : Receipt). r.worker) goes.5;
        place = place ∙ ap (λ (es : List Entry). place_of es goes.1.lock) before ∙ ap (place_of earlier) (sym lock);
      }
  placed_note (note.Left lock) goes placed =
      now_at record { up = true; entered = false; asked = (worker_state_in old worker).asked; withdrawn = (worker_state_in old worker).withdrawn; stance = Idle } old.history
      (ap (λ (s : MachineState). s.workers) goes.6) (ap (λ (s : MachineState). s.history) goes.6) (at_stance (Finished goes.0 goes.1) goes.4 placed)
  placed_note note.Ready goes placed = still goes.1 placed
  placed_note (note.Withdrew k) goes placed = absurd (at_stance (Waiting k goes.0) goes.2 placed)

placed_walks : (earlier : List Entry) (goal : RunGoal) (worker steps : ℕ) (old new : WorldView) → WorldInvariant old → RunStepSequence goal worker old steps new → is_placed earlier old worker → is_placed earlier new worker
unfolding RunStepSequence
placed_walks earlier goal worker zero old new kept walks placed = subst (λ (s : WorldView). is_placed earlier s worker) (sym walks) placed
placed_walks earlier goal worker (suc steps) old new kept walks placed =
    let change = walks.1.stepped.accepted in
    let was : worker < old.shape.workers = is_worker old worker (Some change.private) kept.all_privates change.found in
    placed_walks earlier goal worker steps walks.0 new (step_kept old walks.0 worker walks.1.note change kept) walks.2
    (placed_note earlier old walks.0 worker was (new_within old walks.0 worker walks.1.note kept change) walks.1.note (machine_step old walks.0 worker walks.1.note kept change) placed)

-- The receipt of a number, if it is that of the entry, has its place.
tells_place : (earlier : WorldView) (history : List Entry) (worker number : ℕ) → HasOneMore earlier.history history worker → TellsPlace (HasFinished earlier) (reply.Committed (last_outcome (last_receipt_under history worker number)))
tells_place earlier history worker number more =
    let T : Option Receipt → Type 0 = λ (last : Option Receipt). TellsPlace (HasFinished earlier) (reply.Committed (last_outcome last)) in
    let last = ap (λ (es : List Entry). last_receipt_under es worker number) more.more ∙ ap (receipt_of_number number) (last_by_same earlier.history more.entry worker more.by) in
    subst T (sym last) (elim (cases_Bool (more.entry.receipt.number == number)) [
      | inl its ↦ rw its (sym (more.place ∙ place_count earlier.history more.entry.receipt.lock))
      | inr other ↦ rw other tt
    ])

-- The receipt of a commit has the place that was next.
module _ (old new : WorldView) (worker : ℕ) (planned : PlannedCrash) (pending : PendingWorker) (worked : WorkedJob) (rests : IsAtRest old worker) (is : Held pending ≡ worker_session old worker)
    (went : JobContinuation goals.Ready worker planned old worked new) where
  placed : is_placed old.history went.mid worker
  placed =
      let section : phase_of rests.0.stage ≡ phase.Section = held_phase old worker went.begun rests pending is in
      let in_it = inside_of (worker_state_in old worker).stance (subst (λ (q : Phase). Suits q (worker_state_in old worker).stance) section (suits old worker rests.0 went.begun rests.1)) in
      placed_walks old.history goals.Ready worker worked.steps old went.mid went.begun went.walks (subst (λ (s : JobStance). IsPlaced old.history old.history worker s) (sym in_it.2) refl)

  -- It is ready, or still waits, and its session view gives the outcome.
  shown : (session : Session) → worker_session went.mid worker ≡ session → worked.outcome ≡ session_outcome went.mid (worker_session went.mid worker) → TellsPlace (HasFinished old) (reply.Committed (session_outcome went.mid session))
      → TellsPlace (HasFinished old) (reply.Committed worked.outcome)
  shown session sees is_outcome tells =
      subst (λ (o : JobOutcome). TellsPlace (HasFinished old) (reply.Committed o)) (sym (is_outcome ∙ ap (session_outcome went.mid) sees)) tells

  by_end : (end : RunEnd) → IsRunEnd goals.Ready worker went.mid end → JobRunEnd end worker went.mid worked new → TellsPlace (HasFinished old) (reply.Committed worked.outcome)
  by_end Fallen at ends = subst (λ (o : JobOutcome). TellsPlace (HasFinished old) (reply.Committed o)) (sym ends.1) tt
  by_end There at ends =
      let ready : phase_of at.0.stage ≡ phase.Ready = ready_only (phase_of at.0.stage) at.2 in
      let more : HasOneMore old.history went.mid.history worker = subst (λ (s : JobStance). IsPlaced old.history went.mid.history worker s) (idle went.mid worker at.0 went.kept at.1 ready) placed in
      shown _ (ready_shown went.mid worker at.0 went.kept at.1 ready) ends.1 (tells_place old went.mid.history worker (worker_state_in went.mid worker).asked more)
  by_end Stopped at ends = shown _ (climb_shown went.mid worker at.private went.kept at.found (stopped_enter worker went.mid at)) ends.1 tt

  pub commit_place : TellsPlace (HasFinished old) (reply.Committed worked.outcome)
  commit_place = by_end went.end went.is_end went.ends
