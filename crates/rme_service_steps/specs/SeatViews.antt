-- The identity of a service, and a worker's seat as contracts see it.
use Rattle.std.specs.Prelude.{◌≡◌, ℕ, ◌^◌, ◌<◌, ◌≤◌, Bool, is_some, List, []}
use Rattle.atomic_table.specs.Seated.{TableId}
use Rattle.atomic_table.specs.Table.{Me}
use Rattle.rme_words.specs.declared.shape.Shape.{Shape}
use Rattle.rme_program.specs.declared.note.Entry.{Entry}
use Rattle.rme_service_steps.specs.declared.seat_record.Part.{Part}
use Rattle.rme_service_steps.specs.declared.seat_record.SeatRecord.{SeatRecord}
use Rattle.rme_service_steps.specs.Layout.{table_size}
use Rattle.rme_service_steps.specs.Rule.{one_part_record, only_part}
use Rattle.rme_service_steps.specs.Steps.{PartWasInWorld}

-- One service: its table, which no other service has, and its shape.
pub record ServiceId : Type 0 where
  pub table : TableId
  pub shape : Shape

-- A worker's seat: its service, and the part in its record.
pub record SeatView : Type 0 where
  pub ident : ServiceId
  pub part : Part

-- The invariant of a service's words.
pub record WordTableInvariant (table : TableId) (told shape : Shape) : Type 0 where
  pub key : told ≡ shape
  pub words : table.words ≡ table_size shape
  pub slots : table.slots ≡ 0
  pub few : table_size shape < 2 ^ 64

-- The invariant of a worker's seat. Its record has one part, which is the worker's, and which it had in some world. The
-- seat knows whether it has a draft. Its list has the part's entries, and room for those of all jobs.
pub record SeatInvariant (me : Me ℕ SeatRecord) (worker : ℕ) (drafted : Bool) (entries : List Entry) (room : ℕ) : Type 0
  where
    pub one : me ≡ (one_part_record me.0.shape (only_part me.0), [])
    pub own : (only_part me.0).worker ≡ worker
    pub drafts : is_some (only_part me.0).draft ≡ drafted
    pub all : (only_part me.0).entries ≡ entries
    pub jobs : me.0.shape.jobs ≤ room
    pub stood : PartWasInWorld me.0.shape (only_part me.0)
