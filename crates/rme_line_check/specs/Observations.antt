-- One observation of a check.
use Rattle.std.specs.Prelude.{ℕ, List}
use Rattle.rme_line_text.specs.declared.event.EventLine.{EventLine}
use Rattle.rme_core_checker.specs.Views.{MachineView}

-- The first line opened this machine, with these names of its locks; or the machine made the step of a line, and is now
-- in this state.
pub data CheckObservation : Type 0 where
  begins : List (List ℕ) → MachineView → CheckObservation
  takes : EventLine → MachineView → CheckObservation
