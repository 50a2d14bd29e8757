-- The invariant of the words and the records of all seats, between any two operations.
use Rattle.std.specs.Prelude.{◌≡◌, ℕ, ◌+◌, ◌<◌, true, ◌==◌, if◌then◌else◌, List, [], ◌∷◌, ◌++◌, map, length, Some}
use Rattle.std.specs.List.{range_with_len}
use mathlib.Core.Option.{some}
use lib.ListN.{get_elem?}
use Rattle.atomic_table.specs.Table.{State}
use Rattle.rme_words.specs.declared.shape.Shape.{Shape}
use Rattle.rme_words.specs.declared.address.Address.{Address}
use Rattle.rme_words.specs.Words.{read_word_at}
use Rattle.rme_program.specs.declared.note.Entry.{Entry}
use Rattle.rme_machine.specs.Histories.{history_of_worker}
use Rattle.rme_machine.specs.Views.{worker_words, is_pending, slate_job}
use Rattle.rme_machine.specs.Machine.{MachineState}
use Rattle.rme_machine.specs.AbstractState.{Privates, abstract_state}
use Rattle.rme_machine.specs.Invariant.{Invariant}
use Rattle.rme_machine.specs.FurtherLaws.{StateHasDrafts}
use Rattle.rme_machine.specs.KnownSections.{StateKnowsSections}
use Rattle.rme_service_steps.specs.declared.seat_record.Part.{Part}
use Rattle.rme_service_steps.specs.declared.seat_record.SeatRecord.{SeatRecord}
use Rattle.rme_service_steps.specs.Layout.{words_of_table, table_size}
use Rattle.rme_service_steps.specs.Placeholders.{no_shape, no_part}
use Rattle.rme_service_steps.specs.Parts.{fresh_part}

abbrev pub table_memory : Shape → List ℕ → Address → ℕ
table_memory shape words = read_word_at shape (words_of_table shape words)

-- Every worker counts as up. The private state of a crashed worker is stale until its recovery begins; it satisfies the
-- invariant all the same.
abbrev pub privates_of_parts : (ℕ → Part) → Privates
privates_of_parts parts = λ (worker : ℕ). Some (parts worker).private

-- The part is this worker's, and has its entries of the history, in order.
pub record PartMatchesHistory (history : List Entry) (worker : ℕ) (part : Part) : Type 0 where
  pub own : part.worker ≡ worker
  pub entries : history_of_worker history worker ≡ part.entries

-- The words, a part for each worker, and the history are a world.
pub record ServiceInvariant (shape : Shape) (words : List ℕ) (parts : ℕ → Part) (history : List Entry) : Type 0 where
  pub long : length words ≡ table_size shape
  pub fact : Invariant shape (table_memory shape words) (privates_of_parts parts) history
  pub books : (worker : ℕ) → worker < shape.workers → PartMatchesHistory history worker (parts worker)
  pub drafts : StateHasDrafts (abstract_state shape (table_memory shape words) (privates_of_parts parts) history)
      (λ (worker : ℕ). (parts worker).draft)
  pub sections : StateKnowsSections (abstract_state shape (table_memory shape words) (privates_of_parts parts) history)
      (λ (worker : ℕ). (parts worker).section)
  pub slates : (worker : ℕ) → worker < shape.workers
      → is_pending (worker_words (table_memory shape words) worker) ≡ true
      → (parts worker).draft ≡ Some (slate_job (worker_words (table_memory shape words) worker))

-- The words and the workers' parts at some moment, and a history with which they are a world.
pub record ServiceState : Type 0 where
  pub words : List ℕ
  pub parts : ℕ → Part
  pub history : List Entry

abbrev pub ServiceStateInvariant : Shape → ServiceState → Type 0
ServiceStateInvariant shape moment = ServiceInvariant shape moment.words moment.parts moment.history

-- The state of the abstract machine that a state of the service shows.
abbrev pub service_abstract_state : Shape → ServiceState → MachineState
service_abstract_state shape moment =
    abstract_state shape (table_memory shape moment.words) (privates_of_parts moment.parts) moment.history

-- The sum of a number of each member of a list.
abbrev pub total_of : {A : Type 0} → (A → ℕ) → List A → ℕ
total_of count [] = 0
total_of count (x ∷ xs) = count x + total_of count xs

-- The number of parts of a worker in a record.
abbrev pub part_is_of_worker : ℕ → Part → ℕ
part_is_of_worker worker part = if part.worker == worker then 1 else 0

abbrev pub part_count_of_worker : ℕ → SeatRecord → ℕ
part_count_of_worker worker its = total_of (part_is_of_worker worker) its.parts

-- The record has the same part of each of its workers as `parts`.
pub record RecordAgrees (shape : Shape) (parts : ℕ → Part) (its : SeatRecord) : Type 0 where
  pub shaped : 0 < length its.parts → its.shape ≡ shape
  pub own : (k : ℕ) (part : Part) → get_elem? its.parts k ≡ some part
      → (part.worker < shape.workers) × (parts part.worker ≡ part)

-- Each worker has exactly one part in all records together, and the words and the parts are a world with some history.
pub record RecordsInvariant (shape : Shape) (words : List ℕ) (records : List SeatRecord) : Type 0 where
  pub parts : ℕ → Part
  pub history : List Entry
  pub once : (worker : ℕ) → worker < shape.workers → total_of (part_count_of_worker worker) records ≡ 1
  pub agrees : (seat : ℕ) (its : SeatRecord) → get_elem? records seat ≡ some its → RecordAgrees shape parts its
  pub world : ServiceInvariant shape words parts history

abbrev pub TableInvariant : Shape → State ℕ SeatRecord → Type 0
TableInvariant shape table = RecordsInvariant shape table.words table.views

-- The record of a seat with one part.
abbrev pub one_part_record : Shape → Part → SeatRecord
one_part_record shape part = record { shape = shape; parts = part ∷ [] }

abbrev pub head_part : List Part → Part
head_part [] = no_part
head_part (part ∷ parts) = part

abbrev pub only_part : SeatRecord → Part
only_part its = head_part its.parts

-- The record of the first seat: a part for each worker.
abbrev pub opening_record : Shape → SeatRecord
opening_record shape = record { shape = shape; parts = map fresh_part (range_with_len 0 shape.workers) }

-- A record split in two, two records joined, and the record that remains of one whose parts were given away.
abbrev pub tail_parts : List Part → List Part
tail_parts [] = []
tail_parts (part ∷ parts) = parts

abbrev pub other_parts : SeatRecord → SeatRecord
other_parts its = record { shape = its.shape; parts = tail_parts its.parts }

abbrev pub first_part : SeatRecord → SeatRecord
first_part its = one_part_record its.shape (only_part its)

abbrev pub all_parts : SeatRecord → SeatRecord → SeatRecord
all_parts its other = record { shape = its.shape; parts = its.parts ++ other.parts }

abbrev pub empty_record : SeatRecord
empty_record = record { shape = no_shape; parts = [] }

-- The parts, with another part for one worker.
abbrev pub parts_with_update : (ℕ → Part) → ℕ → Part → ℕ → Part
parts_with_update parts worker part = λ (other : ℕ). if other == worker then part else parts other
