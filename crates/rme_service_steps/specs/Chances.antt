-- A Chance as contracts see it: the number of its yeses, and the number of its questions, if it counts them.
use Rattle.std.specs.Prelude.{◌≡◌, ℕ, ◌+◌, Bool, true, false, Option, Some, None}

-- The questions are counted up to the greatest number of their type; beyond it the count is `None`.
pub record ChanceCounts : Type 0 where
  pub yeses : ℕ
  pub questions : Option ℕ

-- `count` more questions were counted, if both counts are known.
abbrev pub QuestionsAreCounted : Option ℕ → Option ℕ → ℕ → Type 0
QuestionsAreCounted before None count = Unit {0}
QuestionsAreCounted None (Some after) count = ⊥
QuestionsAreCounted (Some before) (Some after) count = after ≡ before + count

-- The Chance was asked `questions` times, and answered yes `yeses` times.
pub record ChanceWasAsked (old new : ChanceCounts) (questions yeses : ℕ) : Type 0 where
  pub yes : new.yeses ≡ old.yeses + yeses
  pub asked : QuestionsAreCounted old.questions new.questions questions

abbrev pub yes_count : Bool → ℕ
yes_count true = 1
yes_count false = 0
