-- The requirement and the effect of an own step, in the world in which it is made.
use Rattle.std.specs.Prelude.{◌≡◌, ◌≢◌, ℕ, ◌/◌, ◌^◌, ◌<◌, ◌==◌, List, map, slice_index, slice_set}
use prog.Atomic.{either}
use Rattle.atomic_table.specs.Table.{Step, Me}
use Rattle.rme_words.specs.declared.shape.Shape.{Shape}
use Rattle.rme_words.specs.declared.address.Address.{Address}
use Rattle.rme_words.specs.Words.{IsShapeAddress}
use Rattle.rme_program.specs.declared.action.Action.{Action}
use Rattle.rme_program.specs.declared.action.Action.TheVariants.{Load, Store, Swap}
use Rattle.rme_program.specs.declared.note.Entry.{Entry}
use Rattle.rme_program.specs.declared.stage.Stage.TheVariants.{Resting}
use Rattle.rme_program.specs.Conditions.{IsValidLoad}
use Rattle.rme_program.specs.ActionEffects.{ActionEffect, action_address}
use Rattle.rme_program.specs.Steps.{private_action, note_after}
use Rattle.rme_machine.specs.Changes.{history_after}
use Rattle.rme_machine.specs.Machine.{MachineStep}
use Rattle.rme_machine.specs.AbstractState.{act_of_note}
use Rattle.rme_service_steps.specs.declared.seat_record.Part.{Part}
use Rattle.rme_service_steps.specs.declared.seat_record.SeatRecord.{SeatRecord}
use Rattle.rme_service_steps.specs.Parts.{part_after_step, part_with_section}
use Rattle.rme_service_steps.specs.Layout.{position_of_address}
use Rattle.rme_service_steps.specs.Rule.{ServiceInvariant, ServiceState, ServiceStateInvariant, service_abstract_state, table_memory, parts_with_update, one_part_record, only_part}

-- The position of an action's word, and that word after the action.
abbrev pub position_of_action : Shape → Action → ℕ
position_of_action shape action = position_of_address shape (action_address action)

abbrev pub word_after_action : Action → ℕ → ℕ
word_after_action (Load address) found = found
word_after_action (Store address value) found = value
word_after_action (Swap address old new) found = either (found == old) new found

-- The value with which the worker continues: what was loaded or found; of a store, what was stored.
abbrev pub value_of_action : Action → ℕ → ℕ
value_of_action (Load address) found = found
value_of_action (Store address value) found = value
value_of_action (Swap address old new) found = found

-- Between two operations there was a world in which the worker had this part.
pub record PartWasInWorld (shape : Shape) (part : Part) : Type 0 where
  pub words : List ℕ
  pub parts : ℕ → Part
  pub history : List Entry
  pub world : ServiceInvariant shape words parts history
  pub worker : part.worker < shape.workers
  pub here : parts part.worker ≡ part

-- The part made its step in some world, with this value, and the step leads to the next world.
pub record PartMadeStep (shape : Shape) (part : Part) (value : ℕ) : Type 0 where
  pub before : PartWasInWorld shape part
  pub words : List ℕ
  pub did : ActionEffect (table_memory shape before.words) (table_memory shape words)
      (private_action shape part.private) value
  pub after : ServiceInvariant shape words
      (parts_with_update before.parts part.worker (part_after_step shape part value))
      (history_after before.history (table_memory shape before.words) part.worker (note_after shape part.private value))

-- A change before a step is allowed: it leaves the worker, its entries and its count, and preserves the invariant.
pub record ChangeIsAllowed (shape : Shape) (lead : Part → Part) (part : Part) : Type 0 where
  pub worker : (lead part).worker ≡ part.worker
  pub busy : (lead part).private.stage ≢ Resting
  pub world : (words : List ℕ) (parts : ℕ → Part) (history : List Entry) → ServiceInvariant shape words parts history
      → part.worker < shape.workers
      → parts part.worker ≡ part
      → ServiceInvariant shape words (parts_with_update parts part.worker (lead part)) history

-- A record after the step of each of its parts.
abbrev pub record_after_step : (Part → Part) → SeatRecord → ℕ → SeatRecord
record_after_step lead its value =
    record { shape = its.shape; parts = map (λ (part : Part). part_after_step its.shape (lead part) value) its.parts }

-- The effect of an own step, as its caller learns it.
abbrev pub OwnStepEffect : (Part → Part) → Step ℕ → Me ℕ SeatRecord → ℕ → Me ℕ SeatRecord → Type 0
OwnStepEffect lead step before value after =
    (after ≡ (record_after_step lead before.0 value, before.1))
    × PartMadeStep before.0.shape (lead (only_part before.0)) value

-- The worker had this part in a world in which the word was read, with this value.
pub record PartReadsWord (shape : Shape) (part : Part) (address : Address) (value : ℕ) : Type 0 where
  pub at : PartWasInWorld shape part
  pub read : value ≡ table_memory shape at.words address

-- The effect of a reader's load, as its caller learns it.
abbrev pub ReaderLoadEffect : Step ℕ → Me ℕ SeatRecord → ℕ → Me ℕ SeatRecord → Type 0
ReaderLoadEffect step before value after =
    (after ≡ before)
    × ((address : Address) → IsShapeAddress before.0.shape address
    → step.word ≡ position_of_address before.0.shape address
    → PartReadsWord before.0.shape (only_part before.0) address value)

-- The effect of the load by which a worker that is inside, before its first own step there, reads the number of
-- finished sections of its lock: half of the turn. Its part then knows the number.
abbrev pub SectionLoadEffect : Step ℕ → Me ℕ SeatRecord → ℕ → Me ℕ SeatRecord → Type 0
SectionLoadEffect step before value after =
    let known = part_with_section (only_part before.0) (value / 2) in
    (after ≡ (one_part_record before.0.shape known, before.1)) × PartWasInWorld before.0.shape known × (value < 2 ^ 32)

-- The value that a worker's step finds, and the words after it.
abbrev pub value_found_in : Shape → List ℕ → Action → ℕ
value_found_in shape words action = slice_index words (position_of_action shape action)

abbrev pub words_after : Shape → List ℕ → Action → List ℕ
words_after shape words action =
    slice_set words (position_of_action shape action) (word_after_action action (value_found_in shape words action))

-- The value with which a worker of this part continues after its next own step, and the state after that step.
abbrev pub value_of_step : Shape → ServiceState → Part → ℕ
value_of_step shape old part =
    let action = private_action shape part.private in value_of_action action (value_found_in shape old.words action)

abbrev pub state_after_step : Shape → ServiceState → Part → ServiceState
state_after_step shape old part =
    let value = value_of_step shape old part in
    record {
      words = words_after shape old.words (private_action shape part.private);
      parts = parts_with_update old.parts part.worker (part_after_step shape part value);
      history = history_after old.history (table_memory shape old.words) part.worker
          (note_after shape part.private value);
    }

-- An own step preserves the invariant, and is the machine's step of its note.
pub record StepPreservesService (shape : Shape) (old new : ServiceState) (part : Part) (value : ℕ) : Type 0 where
  pub takes : IsValidLoad shape part.private.stage value
  pub did : ActionEffect (table_memory shape old.words) (table_memory shape new.words)
      (private_action shape part.private) value
  pub world : ServiceStateInvariant shape new
  pub does : MachineStep shape (act_of_note (note_after shape part.private value)) (service_abstract_state shape old)
      part.worker (service_abstract_state shape new)

-- The law of a step: each own step of a worker of any world is one operation on one word, and preserves the invariant.
abbrev pub StepPreservesServiceLaw : Type 0
StepPreservesServiceLaw =
    (shape : Shape) (old : ServiceState) (part : Part) → ServiceStateInvariant shape old
    → part.worker < shape.workers → old.parts part.worker ≡ part → part.private.stage ≢ Resting
    → IsShapeAddress shape (action_address (private_action shape part.private))
    → StepPreservesService shape old (state_after_step shape old part) part (value_of_step shape old part)
