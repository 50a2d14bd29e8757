-- A worker that is inside a lock and only recovers remains its only owner.
use Rattle.std.proofs.Common.{◌≡◌, ℕ, List, [], ◌∷◌, ◌++◌, inr, refl, sym, ap, ◌∙◌}
use Rattle.rme_words.specs.declared.shape.Shape.{Shape}
use Rattle.rme_program.specs.declared.kinds.Phase.TheVariants.{Recover, Exit}
use Rattle.rme_program.specs.declared.note.Note.{Note}
use Rattle.rme_program.specs.declared.note.Note.TheVariants.{Quiet, Asked, Blocked, Entered, Reentered, Finished, Left, Ready, Withdrew}
use Rattle.rme_program.specs.declared.stage.Stage.{Stage}
use Rattle.rme_program.specs.Phases.{phase_of}
use Rattle.rme_program.specs.NoteLaws.{NoteMeaning}
use Rattle.rme_program.proofs.NoteLaws.{note_law}
use Rattle.rme_machine.specs.declared.label.Act.{Act}
use Rattle.rme_machine.specs.declared.label.Act.TheVariants.{Leave, Still}
use Rattle.rme_machine.specs.declared.label.Label.{Label}
use Rattle.rme_machine.specs.declared.label.Label.TheVariants.{Nothing, Of}
use Rattle.rme_machine.specs.AbstractState.{act_of_note}
use Rattle.rme_machine.specs.Theorems.{HasNoLeave, IsReachable}
use Rattle.rme_machine.proofs.Reached.{reentry}
use Rattle.rme_service_steps.specs.declared.operation.Operation.{Operation}
use Rattle.rme_service_steps.specs.declared.operation.Operation.TheVariants as operation
use Rattle.rme_service_steps.specs.Inside.{InsideLaw, OperationsOnlyRecover, OperationOnlyRecovers}
use Rattle.rme_service_steps.specs.Rule.{ServiceState, ServiceStateInvariant, service_abstract_state, table_memory, privates_of_parts}
use Rattle.rme_service_steps.specs.Running.{state_after_operation, labels_of_operations, labels_of_operation, next_note, next_value}
use Rattle.rme_service_steps.proofs.Running.{running}
use Rattle.rme_service_steps.proofs.Worlds.{reached_state}

-- A step of Recover is no leave.
exit_recover : Exit ≡ Recover → ⊥
exit_recover is = cc

not_leaving : (shape : Shape) (worker begun : ℕ) (stage : Stage) (value : ℕ) (next : Stage) (note : Note) (lock : ℕ) → NoteMeaning shape record { worker = worker; begun = begun; stage = stage } value next note → phase_of stage ≡ Recover
    → act_of_note note ≡ Leave lock → ⊥
not_leaving shape worker begun stage value next Quiet lock tells recovers is = cc
not_leaving shape worker begun stage value next (Asked number) lock tells recovers is = cc
not_leaving shape worker begun stage value next Blocked lock tells recovers is = cc
not_leaving shape worker begun stage value next (Entered here) lock tells recovers is = cc
not_leaving shape worker begun stage value next (Reentered here) lock tells recovers is = cc
not_leaving shape worker begun stage value next (Finished receipt) lock tells recovers is = cc
not_leaving shape worker begun stage value next (Left here) lock tells recovers is = exit_recover (sym (ap (λ (s : Stage). phase_of s) tells) ∙ recovers)
not_leaving shape worker begun stage value next Ready lock tells recovers is = cc
not_leaving shape worker begun stage value next (Withdrew number) lock tells recovers is = cc

who_of : Label → ℕ
who_of Nothing = 0
who_of (Of who act) = who

did_of : Label → Act
did_of Nothing = Still
did_of (Of who act) = act

same_who : (who worker : ℕ) (one other : Act) → Of who one ≡ Of worker other → who ≡ worker
unfolding who_of
same_who who worker one other is = ap who_of is

same_act : (who worker : ℕ) (one other : Act) → Of who one ≡ Of worker other → one ≡ other
unfolding did_of
same_act who worker one other is = ap did_of is

module _ (shape : Shape) (worker lock : ℕ) where
  no_leave_by : (one : Operation) (old : ServiceState) → OperationOnlyRecovers shape worker one old → HasNoLeave worker lock (labels_of_operation shape one old)
  no_leave_by operation.Look old recovers = tt
  no_leave_by (operation.ReadSection who lock_read) old recovers = tt
  no_leave_by (operation.Restart who) old recovers = (λ is. let a = same_act _ _ _ _ is in cc, (λ is. let a = same_act _ _ _ _ is in cc, tt))
  no_leave_by (operation.Submit who job) old recovers = (λ is. let a = same_act _ _ _ _ is in cc, tt)
  no_leave_by (operation.Withdraw who) old recovers = (λ is. let a = same_act _ _ _ _ is in cc, tt)
  no_leave_by (operation.Step who) old recovers =
      let its = (old.parts who).private in (
        λ is. not_leaving shape its.worker its.begun its.stage (next_value shape old who) _ (next_note shape old who) lock
            (note_law shape its.worker its.begun its.stage (next_value shape old who)) (recovers (same_who _ _ _ _ is)) (same_act _ _ _ _ is),
        tt,
      )

  both : (front rest : List Label) → HasNoLeave worker lock front → HasNoLeave worker lock rest → HasNoLeave worker lock (front ++ rest)
  both [] rest none others = others
  both (label ∷ front) rest (one, none) others = (one, both front rest none others)

  no_leave : (operations : List Operation) (old : ServiceState) → OperationsOnlyRecover shape worker operations old → HasNoLeave worker lock (labels_of_operations shape operations old)
  no_leave [] old recovers = tt
  no_leave (one ∷ others) old (recovers, more) = both (labels_of_operation shape one old) (labels_of_operations shape others (state_after_operation shape one old)) (no_leave_by one old recovers) (no_leave others (state_after_operation shape one old) more)

pub inside : InsideLaw
inside shape old operations worker lock world may owns recovers =
    let runs = running shape old operations world may in
    reentry.owned shape (service_abstract_state shape old) _ worker lock (labels_of_operations shape operations old) (reached_state shape (table_memory shape old.words) (privates_of_parts old.parts) old.history world.fact) owns runs.run (no_leave shape worker lock operations old recovers)
