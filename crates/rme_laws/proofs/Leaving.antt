-- A worker that is inside a lock leaves it by no event of a call, and by no step of Recover.
use Rattle.std.proofs.Common.{◌≡◌, ◌≢◌, ℕ, List, [], ◌∷◌, sym, ap, ◌∙◌}
use Rattle.std.specs.Prelude.{Some, slice_get}
use Rattle.std.proofs.lemmas.Option.{same_Some}
use Rattle.rme_words.specs.declared.shape.Shape.{Shape}
use Rattle.rme_program.specs.declared.event.Answer.{Answer}
use Rattle.rme_program.specs.declared.event.Event.{Event}
use Rattle.rme_program.specs.declared.event.Event.TheVariants as event
use Rattle.rme_program.specs.declared.kinds.Phase.TheVariants as phase
use Rattle.rme_program.specs.declared.note.Note.{Note}
use Rattle.rme_program.specs.declared.note.Note.TheVariants.{Quiet, Asked, Blocked, Entered, Reentered, Finished, Left, Ready, Withdrew}
use Rattle.rme_program.specs.declared.private.Private.{Private}
use Rattle.rme_program.specs.declared.stage.Stage.{Stage}
use Rattle.rme_program.specs.NoteLaws.{NoteMeaning}
use Rattle.rme_program.specs.Phases.{phase_of}
use Rattle.rme_machine.specs.declared.label.Act.{Act}
use Rattle.rme_machine.specs.declared.label.Act.TheVariants as act
use Rattle.rme_machine.specs.declared.label.Label.{Label}
use Rattle.rme_machine.specs.declared.label.Label.TheVariants.{Nothing, Of}
use Rattle.rme_machine.specs.AbstractState.{act_of_note}
use Rattle.rme_machine.specs.Labels.{event_label}
use Rattle.rme_machine.specs.Theorems.{HasNoLeave}
use Rattle.rme_world.specs.Refinement.{EventsHaveLabels}
use Rattle.rme_world.specs.WorldViews.{WorldView}

-- The label of this event and answer is not the worker's leave of the lock.
abbrev pub IsNoLeave : ℕ → ℕ → Event → Answer → Type 0
IsNoLeave who lock its given = (label : Label) → event_label its given ≡ Some label → label ≢ Of who (act.Leave lock)

-- If the event is an own step of the worker, it is a step of Recover.
abbrev pub OnlyRecovers : WorldView → ℕ → Event → Type 0
OnlyRecovers seen who (event.Step worker) = worker ≡ who → (private : Private) → slice_get seen.privates worker ≡ Some (Some private) → phase_of private.stage ≡ phase.Recover
OnlyRecovers seen who its = Unit {0}

-- The acts of labels.
act_of : Label → Act
act_of Nothing = act.Still
act_of (Of who its) = its

who_of : Label → ℕ
who_of Nothing = 0
who_of (Of who its) = who

pub same_act : (who other : ℕ) (one two : Act) → Of who one ≡ Of other two → one ≡ two
unfolding act_of
same_act who other one two is = ap act_of is

pub same_who : (who other : ℕ) (one two : Act) → Of who one ≡ Of other two → who ≡ other
unfolding who_of
same_who who other one two is = ap who_of is

-- An event with another act is no leave.
pub other_act : (who other lock : ℕ) (its : Act) (label : Label) → (its ≡ act.Leave lock → ⊥) → Some (Of who its) ≡ Some label → label ≢ Of other (act.Leave lock)
other_act who other lock its label differs is leaves = differs (same_act who other its (act.Leave lock) (same_Some _ _ is ∙ leaves))

-- A step of Recover is no leave.
pub no_leave_by : (shape : Shape) (worker begun : ℕ) (stage : Stage) (value : ℕ) (next : Stage) (note : Note) (lock : ℕ) → NoteMeaning shape record { worker = worker; begun = begun; stage = stage } value next note
    → phase_of stage ≡ phase.Recover → act_of_note note ≡ act.Leave lock → ⊥
no_leave_by shape worker begun stage value next Quiet lock tells recovers is = cc
no_leave_by shape worker begun stage value next (Asked number) lock tells recovers is = cc
no_leave_by shape worker begun stage value next Blocked lock tells recovers is = cc
no_leave_by shape worker begun stage value next (Entered here) lock tells recovers is = cc
no_leave_by shape worker begun stage value next (Reentered here) lock tells recovers is = cc
no_leave_by shape worker begun stage value next (Finished receipt) lock tells recovers is = cc
no_leave_by shape worker begun stage value next (Left here) lock tells recovers is =
    (let apart : phase.Exit ≡ phase.Recover = sym (ap (λ (s : Stage). phase_of s) tells) ∙ recovers in cc)
no_leave_by shape worker begun stage value next Ready lock tells recovers is = cc
no_leave_by shape worker begun stage value next (Withdrew number) lock tells recovers is = cc

-- None of the events is a leave, and so none of their labels.
abbrev pub NoneLeaves : ℕ → ℕ → List Event → List Answer → Type 0
NoneLeaves who lock [] [] = Unit {0}
NoneLeaves who lock (its ∷ events) (given ∷ answers) = IsNoLeave who lock its given × NoneLeaves who lock events answers
NoneLeaves who lock _ _ = ⊥

pub no_label_leaves : (who lock : ℕ) (events : List Event) (answers : List Answer) (labels : List Label) → EventsHaveLabels events answers labels → NoneLeaves who lock events answers → HasNoLeave who lock labels
no_label_leaves who lock [] [] [] are none = tt
no_label_leaves who lock (its ∷ events) (given ∷ answers) (label ∷ labels) are none = (none.0 label are.0, no_label_leaves who lock events answers labels are.1 none.1)
no_label_leaves who lock [] [] (label ∷ labels) are none = absurd are
no_label_leaves who lock [] (given ∷ answers) labels are none = absurd none
no_label_leaves who lock (its ∷ events) [] labels are none = absurd none
no_label_leaves who lock (its ∷ events) (given ∷ answers) [] are none = absurd are
