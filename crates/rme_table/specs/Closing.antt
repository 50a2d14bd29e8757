-- The answer of a close: there is a world with the parts of the workers that were given back.
use Rattle.std.specs.Prelude.{◌≡◌, ℕ, Bool, true, false, List, length, slice_get, Some}
use Rattle.rme_words.specs.declared.shape.Shape.{Shape}
use Rattle.rme_words.specs.declared.refusal.Refusal.{Refusal}
use Rattle.rme_words.specs.declared.refusal.Refusal.TheVariants.{NoWorker, NoMemory}
use Rattle.rme_program.specs.declared.note.Entry.{Entry}
use Rattle.rme_machine.specs.Histories.{history_of_lock, HistoryIsLegal}
use Rattle.rme_machine.specs.Machine.{MachineState}
use Rattle.rme_machine.specs.AbstractState.{abstract_state}
use Rattle.rme_machine.specs.AbstractCells.{AbstractCells, state_owner, is_lock_settled}
use Rattle.rme_machine.specs.Views.{lock_words}
use Rattle.rme_service_steps.specs.declared.seat_record.Part.{Part}
use Rattle.rme_service_steps.specs.Rule.{ServiceInvariant, table_memory, privates_of_parts}
use Rattle.rme_service_steps.specs.SeatViews.{ServiceId, SeatView}
use Rattle.rme_service_steps.specs.Closing.{SeatHasWorkersPart}
use Rattle.rme_table.specs.declared.closed.ClosedLock.{ClosedLock}
use Rattle.rme_table.specs.declared.closed.Unclosed.{Unclosed}
use Rattle.rme_table.specs.Downs.{all_given}

-- The abstract state of words, parts and a history.
abbrev pub abstract_state_of_parts : Shape → List ℕ → (ℕ → Part) → List Entry → MachineState
abstract_state_of_parts shape words parts history =
    abstract_state shape (table_memory shape words) (privates_of_parts parts) history

-- A lock's cells are those of the words, and of the abstract state; its owner, and whether it is settled, are those of
-- the abstract state; and its entries are the history's of that lock, in order.
pub record IsClosedLock (shape : Shape) (words : List ℕ) (state : MachineState) (lock : ℕ) (closed : ClosedLock) : Type
    0 where
  pub cells : closed.cells.items ≡ (lock_words shape (table_memory shape words) lock).cells
  pub as_shown : AbstractCells shape state lock closed.cells.items
  pub owner : closed.owner ≡ state_owner state lock
  pub settled : closed.settled ≡ is_lock_settled state lock
  pub entries : closed.entries.items ≡ history_of_lock state.history lock

-- All workers were given. There is a world in which each part is its worker's, with a legal history; and each lock is
-- as in that world.
pub record IsClosedService (shape : Shape) (downs : List SeatView) (locks : List ClosedLock) : Type 0 where
  pub words : List ℕ
  pub parts : ℕ → Part
  pub history : List Entry
  pub world : ServiceInvariant shape words parts history
  pub given : (k : ℕ) (down : SeatView) → slice_get downs k ≡ Some down → SeatHasWorkersPart shape parts down
  pub all : all_given shape downs ≡ true
  pub legal : HistoryIsLegal shape history
  pub count : length locks ≡ shape.locks
  pub each : (lock : ℕ) (closed : ClosedLock) → slice_get locks lock ≡ Some closed
      → IsClosedLock shape words (abstract_state_of_parts shape words parts history) lock closed

-- Why a service is not closed: a worker is missing, otherwise memory was refused.
abbrev pub unclosed_why : Bool → Refusal
unclosed_why true = NoMemory
unclosed_why false = NoWorker

-- The service and all given Downs come back unchanged.
pub record IsUnclosed (ident : ServiceId) (downs : List SeatView) (unclosed : Unclosed) : Type 0 where
  pub service : unclosed.service ≡ ident
  pub downs_back : unclosed.downs.items ≡ downs
  pub why : unclosed.why ≡ unclosed_why (all_given ident.shape downs)
