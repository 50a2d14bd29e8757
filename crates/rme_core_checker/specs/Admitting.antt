-- The answer of `admits`, by the labels of rme_machine and its steps.
use Rattle.std.specs.Prelude.{◌≡◌, Bool, true, false, Option, Some, None}
use Rattle.rme_words.specs.declared.shape.Shape.{Shape}
use Rattle.rme_machine.specs.declared.label.Act.{Act}
use Rattle.rme_machine.specs.declared.label.Act.TheVariants.{Hand, Ask, Take, Finish, Leave, Withdraw, Crash, Restart, Reenter, Still, Wait}
use Rattle.rme_machine.specs.declared.label.Label.{Label}
use Rattle.rme_machine.specs.declared.label.Label.TheVariants.{Nothing, Of}
use Rattle.rme_machine.specs.Machine.{MachineState, LabelStep}

-- True: the machine has the step, and made it. False: it has no such step, and is unchanged.
abbrev pub LabelDecision : Shape → Label → Bool → MachineState → MachineState → Type 0
LabelDecision shape label true old new = LabelStep shape label old new
LabelDecision shape label false old new = (new ≡ old) × ((any : MachineState) → ¬ LabelStep shape label old any)

-- A pair of an event and an answer that has no label is no step.
abbrev pub AdmitDecision : Shape → Option Label → Bool → MachineState → MachineState → Type 0
AdmitDecision shape (Some label) admitted old new = LabelDecision shape label admitted old new
AdmitDecision shape None admitted old new = (admitted ≡ false) × (new ≡ old)

-- The steps that make a list longer, and so need memory: a finished section, and a withdrawn number.
abbrev pub act_grows_list : Act → Bool
act_grows_list (Hand k job) = false
act_grows_list (Ask k) = false
act_grows_list (Take lock) = false
act_grows_list (Finish receipt) = true
act_grows_list (Leave lock) = false
act_grows_list (Withdraw k) = true
act_grows_list Crash = false
act_grows_list Restart = false
act_grows_list (Reenter lock) = false
act_grows_list Still = false
act_grows_list Wait = false

abbrev pub LabelGrowsList : Option Label → Type 0
LabelGrowsList (Some (Of worker act)) = act_grows_list act ≡ true
LabelGrowsList (Some Nothing) = ⊥
LabelGrowsList None = ⊥
