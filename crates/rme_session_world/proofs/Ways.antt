-- A worker on its way with a job: the effect of its own steps on its stance.
use Rattle.std.proofs.Common.{◌≡◌, ◌≢◌, ℕ, zero, suc, ◌+◌, ◌<◌, List, [], ◌∷◌, ◌++◌, length, refl, sym, ◌∙◌, ap, subst, inl, inr, arith}
use Rattle.std.specs.Prelude.{◌⊎◌, true, false, Some, slice_get, slice_set}
use Rattle.std.proofs.lemmas.Bool.{eq-eqb}
use Rattle.std.proofs.lemmas.Option.{same_Some}
use Rattle.rme_script.specs.declared.job.Job.{Job}
use Rattle.rme_program.specs.NoteLaws.{phase_may_follow}
use Rattle.rme_program.specs.Phases.{phase_of}
use Rattle.rme_program.specs.Steps.{private_after}
use Rattle.rme_program.specs.declared.kinds.Phase.{Phase}
use Rattle.rme_program.specs.declared.kinds.Phase.TheVariants as phase
use Rattle.rme_program.specs.declared.note.Entry.{Entry}
use Rattle.rme_program.specs.declared.note.Note.{Note}
use Rattle.rme_program.specs.declared.note.Note.TheVariants as note
use Rattle.rme_program.specs.declared.note.Receipt.{Receipt}
use Rattle.rme_program.specs.declared.private.Private.{Private}
use Rattle.rme_program.proofs.NoteLaws.{phase_law}
use Rattle.rme_machine.specs.declared.stance.JobStance.{JobStance}
use Rattle.rme_machine.specs.declared.stance.JobStance.TheVariants.{Idle, Handed, Waiting, Inside, Finished}
use Rattle.rme_machine.specs.Machine.{MachineState, WorkerState, ActEffect}
use Rattle.rme_machine.specs.AbstractState.{act_of_note, abstract_worker}
use Rattle.rme_machine.specs.Views.{slate_job}
use Rattle.rme_machine.proofs.Historical.{last_by_same}
use Rattle.rme_machine.proofs.Lists.{get_set, made_long}
use Rattle.rme_machine.proofs.Shows.{shown_me}
use Rattle.rme_machine.proofs.Taking.{taking}
use Rattle.rme_session_protocol.specs.SessionViews.{IsJobReceipt, WorkerJob}
use Rattle.rme_world.specs.WorldViews.{WorldView, world_memory, world_privates, world_abstract_state}
use Rattle.rme_world.specs.WorldInvariants.{WorldInvariant}
use Rattle.rme_world.specs.Events.{StepChange}
use Rattle.rme_world.specs.Queries.{world_worker_words}
use Rattle.rme_world.proofs.Telling.{after_step, busy, tells, up}
use Rattle.rme_world.proofs.Worlds.{GoesAs, is_worker, kept_sound, step_goes, step_kept}
use Rattle.rme_session_world.specs.declared.running.RunGoal.{RunGoal}
use Rattle.rme_session_world.specs.WorkerSessions.{last_receipt_under, worker_state_in, receipt_of_number}
use Rattle.rme_session_world.specs.WorkerRuns.{RunStepSequence}
use Rattle.rme_session_world.proofs.Stances.{IsNumbered, Suits, numbered, suits}

-- ---- the machine's state of one worker after a step

workers_long : (seen : WorldView) → length (world_abstract_state seen).workers ≡ seen.shape.workers
workers_long seen = made_long (λ (worker : ℕ). abstract_worker seen.shape (world_memory seen) (world_privates seen) seen.history worker) seen.shape.workers

me_there : (seen : WorldView) (worker : ℕ) → worker < seen.shape.workers → slice_get (world_abstract_state seen).workers worker ≡ Some (worker_state_in seen worker)
me_there seen worker within = shown_me seen.shape (world_memory seen) (world_privates seen) seen.history worker within

-- Its state is the new one.
pub me_put : (old new : WorldView) (worker : ℕ) (me : WorkerState) → worker < old.shape.workers → worker < new.shape.workers → (world_abstract_state new).workers ≡ slice_set (world_abstract_state old).workers worker me → worker_state_in new worker ≡ me
me_put old new worker me was is put =
    same_Some _ _ (sym (me_there new worker is) ∙ ap (λ (ws : List WorkerState). slice_get ws worker) put ∙ get_set (world_abstract_state old).workers worker me (omega (arith, was, workers_long old)))

pub me_kept : (old new : WorldView) (worker : ℕ) → worker < old.shape.workers → worker < new.shape.workers → world_abstract_state new ≡ world_abstract_state old → worker_state_in new worker ≡ worker_state_in old worker
me_kept old new worker was is same = same_Some _ _ (sym (me_there new worker is) ∙ ap (λ (s : MachineState). slice_get s.workers worker) same ∙ me_there old worker was)

pub step_of : (old new : WorldView) (worker : ℕ) (n : Note) → worker < old.shape.workers → GoesAs old new worker (act_of_note n) → ActEffect old.shape (act_of_note n) (world_abstract_state old) worker (worker_state_in old worker) (world_abstract_state new)
step_of old new worker n within goes =
    let same : goes.does.me ≡ worker_state_in old worker = same_Some _ _ (sym goes.does.is_me ∙ me_there old worker within) in
    subst (λ (me : WorkerState). ActEffect old.shape (act_of_note n) (world_abstract_state old) worker me (world_abstract_state new)) same goes.does.goes

-- ---- on its way

-- The part of its task that a worker has done is the one that its stance gives.
abbrev pub OnWay : WorkerJob → List Entry → WorkerState → JobStance → Type 0
OnWay task history me Idle = (me.asked ≡ task.number) × ((receipt : Receipt) × IsJobReceipt task receipt × (last_receipt_under history task.worker task.number ≡ Some receipt))
OnWay task history me (Handed job) = (me.asked + 1 ≡ task.number) × (job ≡ task.job)
OnWay task history me (Waiting number job) = (me.asked ≡ task.number) × (job ≡ task.job)
OnWay task history me (Inside number job) = (me.asked ≡ task.number) × (job ≡ task.job)
OnWay task history me (Finished number job) = (me.asked ≡ task.number) × ((receipt : Receipt) × IsJobReceipt task receipt × (last_receipt_under history task.worker task.number ≡ Some receipt))

-- It has entered its lock.
abbrev pub HasEntered : JobStance → Type 0
HasEntered (Handed job) = ⊥
HasEntered (Waiting number job) = ⊥
HasEntered stance = Unit {0}

abbrev on_way : WorkerJob → WorldView → ℕ → Type 0
on_way task seen worker = OnWay task seen.history (worker_state_in seen worker) (worker_state_in seen worker).stance

module _ (task : WorkerJob) (old new : WorldView) (worker : ℕ) (is_its : task.worker ≡ worker) (was : worker < old.shape.workers) (is : worker < new.shape.workers) where
  -- The worker's stance is unchanged.
  still : world_abstract_state new ≡ world_abstract_state old → on_way task old worker → on_way task new worker
  still same on =
      let me : worker_state_in new worker ≡ worker_state_in old worker = me_kept old new worker was is same in
      let history : new.history ≡ old.history = ap (λ (s : MachineState). s.history) same in
      let P : WorkerState → Type 0 = λ (w : WorkerState). OnWay task new.history w w.stance in
      let Q : List Entry → Type 0 = λ (es : List Entry). OnWay task es (worker_state_in old worker) (worker_state_in old worker).stance in
      subst P (sym me) (subst Q (sym history) on)

  -- It has this state now.
  now_at : (me : WorkerState) (history : List Entry) → (world_abstract_state new).workers ≡ slice_set (world_abstract_state old).workers worker me → new.history ≡ history → OnWay task history me me.stance → on_way task new worker
  now_at me history put entries on =
      let P : WorkerState → Type 0 = λ (w : WorkerState). OnWay task new.history w w.stance in
      let Q : List Entry → Type 0 = λ (es : List Entry). OnWay task es me me.stance in
      subst P (sym (me_put old new worker me was is put)) (subst Q (sym entries) on)

  at_stance : (stance : JobStance) → (worker_state_in old worker).stance ≡ stance → on_way task old worker → OnWay task old.history (worker_state_in old worker) stance
  at_stance stance e on = subst (λ (s : JobStance). OnWay task old.history (worker_state_in old worker) s) e on

  numbered_at : (stance : JobStance) → (worker_state_in old worker).stance ≡ stance → IsNumbered stance (worker_state_in old worker).asked (slate_job (world_worker_words old worker))
  numbered_at stance e = subst (λ (s : JobStance). IsNumbered s (worker_state_in old worker).asked (slate_job (world_worker_words old worker))) e (numbered old worker)

  way_note : (n : Note) → ActEffect old.shape (act_of_note n) (world_abstract_state old) worker (worker_state_in old worker) (world_abstract_state new) → ((k : ℕ) → n ≡ note.Withdrew k → ⊥) → on_way task old worker → on_way task new worker
  way_note note.Quiet goes not_up on = still goes.1 on
  way_note (note.Asked k) goes not_up on =
      let before = at_stance (Handed goes.0) goes.2 on in
      now_at record { up = true; entered = (worker_state_in old worker).entered; asked = k; withdrawn = (worker_state_in old worker).withdrawn; stance = Waiting k goes.0 } old.history
      (ap (λ (s : MachineState). s.workers) goes.4) (ap (λ (s : MachineState). s.history) goes.4) (goes.3 ∙ before.0, before.1)
  way_note note.Blocked goes not_up on = still goes.4 on
  way_note (note.Entered lock) goes not_up on =
      let before = at_stance (Waiting goes.0 goes.1) goes.3 on in
      now_at record { up = true; entered = true; asked = (worker_state_in old worker).asked; withdrawn = (worker_state_in old worker).withdrawn; stance = Inside goes.0 goes.1 } old.history
      (ap (λ (s : MachineState). s.workers) goes.6) (ap (λ (s : MachineState). s.history) goes.6) (before.0, before.1)
  way_note (note.Reentered lock) goes not_up on =
      now_at record { up = true; entered = true; asked = (worker_state_in old worker).asked; withdrawn = (worker_state_in old worker).withdrawn; stance = (worker_state_in old worker).stance } old.history
      (ap (λ (s : MachineState). s.workers) goes.3) (ap (λ (s : MachineState). s.history) goes.3) (as_before (worker_state_in old worker).stance on)
    where
      as_before : (stance : JobStance) → OnWay task old.history (worker_state_in old worker) stance
          → OnWay task old.history record { up = true; entered = true; asked = (worker_state_in old worker).asked; withdrawn = (worker_state_in old worker).withdrawn; stance = (worker_state_in old worker).stance } stance
      as_before Idle before = before
      as_before (Handed job) before = before
      as_before (Waiting number job) before = before
      as_before (Inside number job) before = before
      as_before (Finished number job) before = before
  way_note (note.Finished receipt) goes not_up on =
      let before = at_stance (Inside goes.0 goes.1) goes.4 on in
      let number = (numbered_at (Inside goes.0 goes.1) goes.4).0 in
      let entry : Entry = record { receipt = receipt; script = goes.1.script } in
      let by : receipt.worker ≡ task.worker = ap (λ (r : Receipt). r.worker) goes.5 ∙ sym is_its in
      let under : receipt.number ≡ task.number = ap (λ (r : Receipt). r.number) goes.5 ∙ number ∙ before.0 in
      let lock : receipt.lock ≡ task.job.lock = ap (λ (r : Receipt). r.lock) goes.5 ∙ ap (λ (j : Job). j.lock) before.1 in
      let whole : receipt_of_number task.number (Some entry) ≡ Some receipt = rw (eq-eqb receipt.number task.number under) refl in
      now_at record { up = true; entered = true; asked = (worker_state_in old worker).asked; withdrawn = (worker_state_in old worker).withdrawn; stance = Finished goes.0 goes.1 } (old.history ++ entry ∷ [])
      (ap (λ (s : MachineState). s.workers) goes.6) (ap (λ (s : MachineState). s.history) goes.6)
      (before.0, (receipt, record { by = by; number = under; lock = lock }, ap (receipt_of_number task.number) (last_by_same old.history entry task.worker by) ∙ whole))
  way_note (note.Left lock) goes not_up on =
      let before = at_stance (Finished goes.0 goes.1) goes.4 on in
      now_at record { up = true; entered = false; asked = (worker_state_in old worker).asked; withdrawn = (worker_state_in old worker).withdrawn; stance = Idle } old.history
      (ap (λ (s : MachineState). s.workers) goes.6) (ap (λ (s : MachineState). s.history) goes.6) (before.0, before.1)
  way_note note.Ready goes not_up on = still goes.1 on
  way_note (note.Withdrew k) goes not_up on = absurd (not_up k refl)

  -- A worker that has entered does not wait again.
  entered_note : (n : Note) → ActEffect old.shape (act_of_note n) (world_abstract_state old) worker (worker_state_in old worker) (world_abstract_state new) → HasEntered (worker_state_in old worker).stance → HasEntered (worker_state_in new worker).stance
  entered_note note.Quiet goes has = subst (λ (w : WorkerState). HasEntered w.stance) (sym (me_kept old new worker was is goes.1)) has
  entered_note (note.Asked k) goes has = absurd (subst HasEntered goes.2 has)
  entered_note note.Blocked goes has = subst (λ (w : WorkerState). HasEntered w.stance) (sym (me_kept old new worker was is goes.4)) has
  entered_note (note.Entered lock) goes has = absurd (subst HasEntered goes.3 has)
  entered_note (note.Reentered lock) goes has =
      subst (λ (w : WorkerState). HasEntered w.stance)
      (sym (me_put old new worker record { up = true; entered = true; asked = (worker_state_in old worker).asked; withdrawn = (worker_state_in old worker).withdrawn; stance = (worker_state_in old worker).stance } was is (ap (λ (s : MachineState). s.workers) goes.3))) has
  entered_note (note.Finished receipt) goes has =
      subst (λ (w : WorkerState). HasEntered w.stance)
      (sym (me_put old new worker record { up = true; entered = true; asked = (worker_state_in old worker).asked; withdrawn = (worker_state_in old worker).withdrawn; stance = Finished goes.0 goes.1 } was is (ap (λ (s : MachineState). s.workers) goes.6))) tt
  entered_note (note.Left lock) goes has =
      subst (λ (w : WorkerState). HasEntered w.stance)
      (sym (me_put old new worker record { up = true; entered = false; asked = (worker_state_in old worker).asked; withdrawn = (worker_state_in old worker).withdrawn; stance = Idle } was is (ap (λ (s : MachineState). s.workers) goes.6))) tt
  entered_note note.Ready goes has = subst (λ (w : WorkerState). HasEntered w.stance) (sym (me_kept old new worker was is goes.1)) has
  entered_note (note.Withdrew k) goes has = absurd (subst HasEntered goes.2 has)

-- ---- one step, and a whole walk

-- A worker is up and past its recovery, on its way with the task; if it is leaving, it has entered.
pub record Way (task : WorkerJob) (seen : WorldView) (worker : ℕ) : Type 0 where
  pub kept : WorldInvariant seen
  pub its : task.worker ≡ worker
  pub private : Private
  pub found : slice_get seen.privates worker ≡ Some (Some private)
  pub early : phase_of private.stage ≢ phase.Recover
  pub out : phase_of private.stage ≡ phase.Exit → HasEntered (worker_state_in seen worker).stance
  pub on : OnWay task seen.history (worker_state_in seen worker) (worker_state_in seen worker).stance

no_return : (p : Phase) → p ≢ phase.Recover → phase_may_follow p phase.Recover ≡ true → ⊥
no_return phase.Recover some goes = some refl
no_return phase.Post some goes = cc
no_return phase.Enter some goes = cc
no_return phase.Section some goes = cc
no_return phase.Exit some goes = cc
no_return phase.Ready some goes = cc

-- Before a step into Exit the worker was in Exit, or in its section.
before_exit : (p : Phase) → p ≢ phase.Recover → phase_may_follow p phase.Exit ≡ true → (p ≡ phase.Section) ⊎ (p ≡ phase.Exit)
before_exit phase.Recover some goes = absurd (some refl)
before_exit phase.Post some goes = absurd (cc)
before_exit phase.Enter some goes = absurd (cc)
before_exit phase.Section some goes = inl refl
before_exit phase.Exit some goes = inr refl
before_exit phase.Ready some goes = absurd (cc)

section_entered : (stance : JobStance) → Suits phase.Section stance → HasEntered stance
section_entered Idle its = tt
section_entered (Handed job) its = its
section_entered (Waiting number job) its = its
section_entered (Inside number job) its = tt
section_entered (Finished number job) its = tt

module _ (old new : WorldView) (worker : ℕ) (n : Note) (kept : WorldInvariant old) (steps : StepChange old worker n new) where
  -- The phases before and after the step.
  pub phases : phase_may_follow (phase_of steps.private.stage) (phase_of (private_after old.shape steps.private steps.value).stage) ≡ true
  phases =
      phase_law old.shape steps.private.worker steps.private.begun steps.private.stage steps.value
      (taking old.shape (world_memory old) (world_memory new) (world_privates old) old.history worker steps.private steps.value kept.fact (is_worker old worker (Some steps.private) kept.all_privates steps.found)
      (up old new worker n kept steps) (busy old new worker n kept steps) steps.did)

  pub new_within : worker < new.shape.workers
  new_within = omega (arith, is_worker old worker (Some steps.private) kept.all_privates steps.found, ap (λ (s : WorldView). s.shape.workers) steps.goes)

  pub machine_step : ActEffect old.shape (act_of_note n) (world_abstract_state old) worker (worker_state_in old worker) (world_abstract_state new)
  machine_step = step_of old new worker n (is_worker old worker (Some steps.private) kept.all_privates steps.found) (step_goes old new worker n steps (kept_sound old kept))

way_step : (task : WorkerJob) (old new : WorldView) (worker : ℕ) (n : Note) → Way task old worker → StepChange old worker n new → Way task new worker
way_step task old new worker n way steps =
    let was : worker < old.shape.workers = is_worker old worker (Some way.private) way.kept.all_privates way.found in
    let is : worker < new.shape.workers = new_within old new worker n way.kept steps in
    let same : steps.private ≡ way.private = same_Some _ _ (same_Some _ _ (sym steps.found ∙ way.found)) in
    let Q : Private → Type 0 = λ (p : Private). (phase_of p.stage ≢ phase.Recover) × (phase_of p.stage ≡ phase.Exit → HasEntered (worker_state_in old worker).stance) in
    let its = subst Q (sym same) (way.early, way.out) in
    let goes = machine_step old new worker n way.kept steps in
    let led = phases old new worker n way.kept steps in
    let not_up : (k : ℕ) → n ≡ note.Withdrew k → ⊥ = λ k e.
    (let tale = tells old new worker n way.kept steps (note.Withdrew k) e in
    let left : HasEntered (worker_state_in old worker).stance = its.1 (ap phase_of tale.2) in
    let gone = subst (λ (m : Note). ActEffect old.shape (act_of_note m) (world_abstract_state old) worker (worker_state_in old worker) (world_abstract_state new)) e goes in
    subst HasEntered gone.2 left) in
    record {
      kept = step_kept old new worker n steps way.kept;
      its = way.its;
      private = private_after old.shape steps.private steps.value;
      found = after_step old new worker n way.kept steps;
      early = λ e. no_return (phase_of steps.private.stage) its.0 (subst (λ (p : Phase). phase_may_follow (phase_of steps.private.stage) p ≡ true) e led);
      out = λ e. entered_note task old new worker way.its was is n goes
          (elim (before_exit (phase_of steps.private.stage) its.0 (subst (λ (p : Phase). phase_may_follow (phase_of steps.private.stage) p ≡ true) e led)) [
            | inl section ↦ section_entered (worker_state_in old worker).stance (subst (λ (p : Phase). Suits p (worker_state_in old worker).stance) section (suits old worker steps.private way.kept steps.found))
            | inr exit ↦ its.1 exit
          ]);
      on = way_note task old new worker way.its was is n goes not_up way.on;
    }

-- A worker that continues stays on its way.
pub way_walks : (task : WorkerJob) (goal : RunGoal) (worker : ℕ) (steps : ℕ) (old new : WorldView) → RunStepSequence goal worker old steps new → Way task old worker → Way task new worker
unfolding RunStepSequence
way_walks task goal worker zero old new walks way = subst (λ (s : WorldView). Way task s worker) (sym walks) way
way_walks task goal worker (suc steps) old new walks way =
    way_walks task goal worker steps walks.0 new walks.2 (way_step task old walks.0 worker walks.1.note way walks.1.stepped.accepted)
