-- The own steps of one call, in order, with one question to the Chance before each.
use Rattle.std.specs.Prelude.{◌≡◌, ℕ, ◌+◌, ◌<◌, Bool, true, false, List, [], ◌∷◌, length}
use Rattle.rme_words.specs.declared.shape.Shape.{Shape}
use Rattle.rme_words.specs.declared.address.Address.{Address}
use Rattle.rme_words.specs.declared.address.Address.TheVariants.{Turn}
use Rattle.rme_words.specs.Words.{IsShapeAddress}
use Rattle.rme_program.specs.declared.action.Action.{Action}
use Rattle.rme_program.specs.declared.action.Action.TheVariants.{Load, Store, Swap}
use Rattle.rme_program.specs.ActionEffects.{action_address}
use Rattle.rme_program.specs.declared.stage.Stage.{Stage}
use Rattle.rme_program.specs.declared.stage.Stage.TheVariants.{Resting, Logging, Copying}
use Rattle.rme_program.specs.declared.stage.Log.TheVariants.{LoadTurn}
use Rattle.rme_program.specs.declared.stage.Redo.{Redo}
use Rattle.rme_program.specs.declared.stage.Redo.TheVariants.{StoreDone}
use Rattle.rme_program.specs.declared.note.Receipt.{Receipt}
use Rattle.rme_program.specs.declared.note.Note.TheVariants.{Finished}
use Rattle.rme_program.specs.Steps.{private_action, note_after}
use Rattle.rme_service_steps.specs.declared.seat_record.Part.{Part}
use Rattle.rme_service_steps.specs.Layout.{position_of_address}
use Rattle.rme_service_steps.specs.Parts.{part_after_change, part_after_step, unchanged_part}
use Rattle.rme_service_steps.specs.Steps.{ChangeIsAllowed, PartWasInWorld, PartMadeStep}
use Rattle.rme_service_steps.specs.Chances.{ChanceCounts, ChanceWasAsked}
use Rattle.rme_service_steps.specs.SeatViews.{SeatView}

-- Each value was found by an own step in some world. In that world the invariant held of the words and parts, the
-- worker had this part, and the step's word had this value.
abbrev pub StepsWereMade : Shape → Part → List ℕ → Type 0
StepsWereMade shape part [] = Unit {0}
StepsWereMade shape part (value ∷ values) =
    PartMadeStep shape part value × StepsWereMade shape (part_after_step shape part value) values

abbrev pub ValuesWereFound : Shape → (Part → Part) → Part → List ℕ → Type 0
ValuesWereFound shape lead part [] = Unit {0}
ValuesWereFound shape lead part (value ∷ values) =
    PartMadeStep shape (lead part) value × StepsWereMade shape (part_after_step shape (lead part) value) values

-- A call of a worker: the service's shape, the change of the worker's part before its first own step, and the worker's
-- seat and the counts of its Chance, before and after the call.
pub record SeatCall : Type 0 where
  pub shape : Shape
  pub lead : Part → Part
  pub start : SeatView
  pub end : SeatView
  pub start_counts : ChanceCounts
  pub end_counts : ChanceCounts

abbrev pub seat_call : Shape → (Part → Part) → SeatView → SeatView → ChanceCounts → ChanceCounts → SeatCall
seat_call shape lead start end start_counts end_counts = record {
  shape = shape;
  lead = lead;
  start = start;
  end = end;
  start_counts = start_counts;
  end_counts = end_counts;
}

-- The part after the call follows from own steps, each with the value that it found in a world, and one question before
-- each. If the worker crashed, there was one more question, answered yes.
pub record SeatStepSequence (call : SeatCall) (falls : ℕ) : Type 0 where
  pub values : List ℕ
  pub walk : call.end.part ≡ part_after_change call.shape call.lead call.start.part values
  pub found : ValuesWereFound call.shape call.lead call.start.part values
  pub steps : call.end.part.steps ≡ call.start.part.steps + length values
  pub asks : ChanceWasAsked call.start_counts call.end_counts (length values + falls) falls

-- What a call within one job leaves unchanged.
pub record JobIsUnchanged (call : SeatCall) : Type 0 where
  pub ident : call.end.ident ≡ call.start.ident
  pub own : call.end.part.worker ≡ call.start.part.worker
  pub draft : call.end.part.draft ≡ (call.lead call.start.part).draft
  pub entries : call.end.part.entries ≡ call.start.part.entries
  pub section : call.end.part.section ≡ call.start.part.section

-- The worker's next step is that of this stage.
pub record PartIsAtStage (shape : Shape) (part : Part) (begun : ℕ) (stage : Stage) : Type 0 where
  pub private : part.private ≡ record { worker = part.worker; begun = begun; stage = stage }
  pub stood : PartWasInWorld shape part

-- The same, with the `begun` that its private state has.
abbrev pub PartIsBeforeStage : Shape → Part → Stage → Type 0
PartIsBeforeStage shape part stage = PartIsAtStage shape part part.private.begun stage

-- The call made this number of own steps without a crash, and is at this stage.
pub record CallProgress (call : SeatCall) (count begun : ℕ) (stage : Stage) : Type 0 where
  pub walks : SeatStepSequence call 0
  pub counted : call.end.part.steps ≡ call.start.part.steps + count
  pub stays : JobIsUnchanged call
  pub at : PartIsAtStage call.shape call.end.part begun stage

-- The call made fewer own steps, and then the worker crashed.
pub record CallFell (call : SeatCall) (most : ℕ) : Type 0 where
  pub walks : SeatStepSequence call 1
  pub fewer : call.end.part.steps < call.start.part.steps + most
  pub ident : call.end.ident ≡ call.start.ident
  pub own : call.end.part.worker ≡ call.start.part.worker
  pub entries : call.end.part.entries ≡ call.start.part.entries
  pub section : call.end.part.section ≡ call.start.part.section

-- The step of a stage adds no entry to the history.
abbrev pub redo_adds_no_entry : Redo → Bool
redo_adds_no_entry (StoreDone visit mask reply) = false
redo_adds_no_entry _ = true

abbrev pub stage_adds_no_entry : Stage → Bool
stage_adds_no_entry Resting = false
stage_adds_no_entry (Copying redo) = redo_adds_no_entry redo
stage_adds_no_entry _ = true

-- The change before the step is allowed, the step has this action and adds no entry, and the action's word is at this
-- position.
pub record StepIsAllowed (shape : Shape) (lead : Part → Part) (part : Part) (action : Action) (at : ℕ) : Type 0 where
  pub leads : ChangeIsAllowed shape lead part
  pub entries : (lead part).entries ≡ part.entries
  pub count : (lead part).steps ≡ part.steps
  pub section : (lead part).section ≡ part.section
  pub here : private_action shape (lead part).private ≡ action
  pub within : IsShapeAddress shape (action_address action)
  pub lies : at ≡ position_of_address shape (action_address action)

-- The step adds no entry, and the change before it submits no job.
pub record PlainStepIsAllowed (shape : Shape) (lead : Part → Part) (part : Part) (action : Action) (at : ℕ) : Type 0
  where
    pub may : StepIsAllowed shape lead part action at
    pub plain : stage_adds_no_entry (lead part).private.stage ≡ true
    pub draft : (lead part).draft ≡ part.draft

abbrev pub LoadIsAllowed : Shape → (Part → Part) → Part → ℕ → Type 0
LoadIsAllowed shape lead part at = (address : Address) × PlainStepIsAllowed shape lead part (Load address) at

abbrev pub StoreIsAllowed : Shape → (Part → Part) → Part → ℕ → ℕ → Type 0
StoreIsAllowed shape lead part at value =
    (address : Address) × PlainStepIsAllowed shape lead part (Store address value) at

abbrev pub SwapIsAllowed : Shape → (Part → Part) → Part → ℕ → ℕ → ℕ → Type 0
SwapIsAllowed shape lead part at from to =
    (address : Address) × PlainStepIsAllowed shape lead part (Swap address from to) at

-- The worker is inside a lock and before its first own step there, the load of the turn, which lies there.
abbrev pub TurnIsNext : Shape → Part → ℕ → Type 0
TurnIsNext shape part at =
    (lock : ℕ) × (lock < shape.locks) × (at ≡ position_of_address shape (Turn lock))
    × PartIsBeforeStage shape part (Logging (LoadTurn lock))

-- The step finishes the section, with this receipt.
pub record FinishIsAllowed (shape : Shape) (part : Part) (at : ℕ) (receipt : Receipt) : Type 0 where
  pub address : Address
  pub may : StepIsAllowed shape unchanged_part part (Store address receipt.number) at
  pub note : note_after shape part.private receipt.number ≡ Finished receipt

-- One own step, which found this value: a step of the core in a world.
pub record OwnStepWasMade (call : SeatCall) (value : ℕ) : Type 0 where
  pub took : call.end.part ≡ part_after_step call.shape (call.lead call.start.part) value
  pub told : PartMadeStep call.shape (call.lead call.start.part) value
  pub ident : call.end.ident ≡ call.start.ident
  pub asks : ChanceWasAsked call.start_counts call.end_counts 1 0

-- The worker crashed before its step, and nothing changed.
pub record FellBeforeStep (call : SeatCall) : Type 0 where
  pub same : call.end ≡ call.start
  pub asks : ChanceWasAsked call.start_counts call.end_counts 1 1
