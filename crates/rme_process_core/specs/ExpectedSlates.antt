-- The slate that a worker expects of its own job, and the values that its loads find if that is right.
use Rattle.std.specs.Prelude.{◌≡◌, ℕ, ◌+◌, ◌*◌, ◌%◌, ◌^◌, ◌<◌, ◌≤◌, List, length, take, drop, slice_index, Ok}
use Rattle.rme_words.specs.declared.shape.Shape.{Shape}
use Rattle.rme_script.specs.Scripts.{IsScript, script_check}
use Rattle.rme_script.specs.Slates.{IsSlate}
use Rattle.rme_program.specs.Masks.{mask_of}
use Rattle.rme_process_core.specs.declared.expected_slate.ExpectedSlate.{ExpectedSlate}

-- The words are the script's slate, the script is one on the shape's cells, and the mask has the cells that it names.
pub record IsExpectedSlate (shape : Shape) (guess : ExpectedSlate) : Type 0 where
  pub script : IsScript shape.cells guess.script
  pub checked : script_check shape.cells guess.script ≡ Ok tt
  pub slate : IsSlate guess.script.n guess.words guess.script
  pub named : guess.named ≡ mask_of guess.script.ops

-- The values begin with an even turn, the length of the expected slate, and its words.
pub record ValuesMatchSlate (guess : ExpectedSlate) (values : List ℕ) : Type 0 where
  pub enough : 2 + 3 * guess.script.n ≤ length values
  pub small : slice_index values 0 < 2 ^ 32
  pub even : slice_index values 0 % 2 ≡ 0
  pub count : slice_index values 1 ≡ guess.script.n
  pub words : take (3 * guess.script.n) (drop 2 values) ≡ take (3 * guess.script.n) guess.words

-- The values begin with the odd turn of a section of this place, and two more.
pub record ValuesFreeRoot (place : ℕ) (values : List ℕ) : Type 0 where
  pub enough : 3 ≤ length values
  pub small : place < 2147483648
  pub odd : slice_index values 0 ≡ 2 * place + 1
