-- The views of a machine and of its checker state in contracts.
use Rattle.std.specs.Prelude.{List}
use Rattle.rme_words.specs.declared.shape.Shape.{Shape}
use Rattle.rme_program.specs.declared.note.Entry.{Entry}
use Rattle.rme_machine.specs.Machine.{MachineState, WorkerState}

-- A machine: its shape and its state.
pub record MachineView : Type 0 where
  pub shape : Shape
  pub state : MachineState

-- A checker state: the shape, and a machine state without the owners.
pub record CheckerStateView : Type 0 where
  pub shape : Shape
  pub workers : List WorkerState
  pub history : List Entry
