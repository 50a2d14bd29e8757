-- The laws of the step table's rows. Each is the contract of a function of the module `laws`.
use Rattle.std.specs.Prelude.{◌≡◌, ℕ, ◌+◌, ◌-◌, ◌*◌, ◌%◌, ◌<◌, length, Bool, nat_lt, Some}
use Rattle.std.specs.List.{slice_get}
use Rattle.rme_words.specs.declared.shape.Shape.{Shape}
use Rattle.rme_script.specs.declared.job.Job.{Job}
use Rattle.rme_script.specs.Cells.{cells_of_ops, mask_cells}
use Rattle.rme_program.specs.declared.action.Action.TheVariants.{Load}
use Rattle.rme_program.specs.declared.note.Note.TheVariants.{Reentered}
use Rattle.rme_program.specs.declared.stage.Stage.{Stage}
use Rattle.rme_program.specs.Masks.{mask_of}
use Rattle.rme_program.specs.Progress.{IsOnTrack, StepsTaken}
use Rattle.rme_program.specs.Stays.{Stay, IsReading, StageIsInStay, first_stage, steps_made_in_row, recover_outcome, recovery_reading, InSection, InPartialExit, InWithdrawal}
use Rattle.rme_program.specs.Table.{Reading, path_node, recover_row, post_row, enter_row, even_row, odd_row, exit_row, clear_row, withdraw_row}

-- The length of each row: n operations, t named cells, m cells of the mask, h levels.
pub record RowLengths (shape : Shape) : Type 0 where
  pub recover : (worker : ℕ) (pending : Bool) (lock : ℕ)
      → length (recover_row shape worker pending lock) ≡ shape.height + 3
  pub post : (worker begun : ℕ) (job : Job) → length (post_row worker begun job) ≡ 3 + 3 * job.script.n
  pub enter : (worker lock from : ℕ) → length (enter_row shape worker lock from) ≡ shape.height - from
  pub even : (worker begun lock : ℕ) (reading : Reading)
      → length (even_row shape worker begun lock reading)
      ≡ 11 + 3 * reading.script.n + 2 * length (cells_of_ops reading.script.ops shape.cells) + 2 * length
      (mask_cells reading.mask shape.cells)
  pub odd : (worker begun lock : ℕ) (reading : Reading)
      → length (odd_row shape worker begun lock reading) ≡ 7 + 2 * length (mask_cells reading.mask shape.cells)
  pub exit : (worker lock turn : ℕ) → length (exit_row shape worker lock turn) ≡ 1 + turn % 2 + shape.height
  pub partial_exit : (worker lock levels : ℕ) → length (clear_row shape worker lock levels) ≡ levels
  pub withdrawal : (worker begun lock levels : ℕ) → length (withdraw_row shape worker begun lock levels) ≡ 4 + levels

-- If the loaded mask is the script's own, its cells are the named ones, and so an even section has 11 + 3n + 4t steps.
pub record NamedMask (shape : Shape) (worker begun lock : ℕ) (reading : Reading) : Type 0 where
  pub cells : mask_cells reading.mask shape.cells ≡ cells_of_ops reading.script.ops shape.cells
  pub steps : length (even_row shape worker begun lock reading) ≡ 11 + 3 * reading.script.n + 4 * length
      (cells_of_ops reading.script.ops shape.cells)

abbrev pub NamedMaskLaw : Type 0
NamedMaskLaw =
    (shape : Shape) (worker begun lock : ℕ) (reading : Reading) → reading.mask ≡ mask_of reading.script.ops
    → NamedMask shape worker begun lock reading

-- The load of v_h is step h + 3 of Recover, and no other step of Recover re-enters.
pub record ReentryStep (shape : Shape) (worker begun done lock : ℕ) : Type 0 where
  pub there : slice_get (recover_row shape worker (nat_lt done begun) lock) (shape.height + 2) ≡ Some
      (Load (path_node shape worker lock shape.height))
  pub alone : (place value here : ℕ)
      → (recover_outcome shape worker (recovery_reading begun done lock) place value).1 ≡ Reentered here
      → place ≡ shape.height + 2

-- The values with which a stay begins: levels below the root for a partial or withdrawing Exit; a script of the shape
-- and its lock's cells for a section.
abbrev pub MayStartStay : Shape → Stay → Type 0
MayStartStay shape (InSection lock reading) = IsReading shape reading
MayStartStay shape (InPartialExit lock levels) = levels < shape.height
MayStartStay shape (InWithdrawal lock levels) = levels < shape.height
MayStartStay shape _ = Unit {0}

-- A stay begins at its first stage, with no step made.
pub record StayStart (shape : Shape) (known : ℕ) (stay : Stay) : Type 0 where
  pub fits : StageIsInStay shape known stay (first_stage stay)
  pub none : steps_made_in_row shape stay (first_stage stay) ≡ 0
  pub taken : StepsTaken shape (first_stage stay) (first_stage stay) 0

abbrev pub StayStartLaw : Type 0
StayStartLaw = (shape : Shape) (known : ℕ) (stay : Stay) → MayStartStay shape stay → StayStart shape known stay

-- A stage in a stay is on track, and the number of steps made of the stay is its place.
pub record StepsMatchRow (shape : Shape) (stay : Stay) (stage : Stage) : Type 0 where
  pub track : IsOnTrack stage
  pub taken : StepsTaken shape (first_stage stay) stage (steps_made_in_row shape stay stage)

abbrev pub StepsMatchRowLaw : Type 0
StepsMatchRowLaw =
    (shape : Shape) (known : ℕ) (stay : Stay) (stage : Stage) → StageIsInStay shape known stay stage
    → StepsMatchRow shape stay stage
