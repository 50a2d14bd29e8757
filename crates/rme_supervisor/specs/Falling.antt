-- The falls of a plan, over consecutive lives.
use Rattle.std.specs.Prelude.{◌≡◌, ℕ, ◌+◌, ◌-◌, ◌<◌, ◌≤◌, List, length, slice_get, Some, None}
use Rattle.rme_service_steps.specs.Chances.{ChanceWasAsked, ChanceCounts}
use Rattle.rme_service_steps.specs.SeatViews.{SeatView}
use Rattle.rme_supervisor.specs.declared.fall_countdown.FallCountdown.{FallCountdown}
use Rattle.rme_supervisor.specs.declared.fall_countdown.FallCountdown.TheVariants.{Never, After, Fallen}

-- Each of `lives` lives ended at a fall, these being the first of the plan's, in order: the number of own steps of all
-- lives together is the count of the last of these falls, and 0 if there was no life.
pub record LivesFellAt (counts : List ℕ) (lives made : ℕ) : Type 0 where
  pub none : lives ≡ 0 → made ≡ 0
  pub last : 0 < lives → slice_get counts (lives - 1) ≡ Some made

-- The last of `lives` lives did not end at a fall, and those before it did: the worker made at least as many own steps
-- as the last of their falls has, and at most as many as the next one has.
pub record LastLifeStoodAt (counts : List ℕ) (lives made : ℕ) : Type 0 where
  pub before : ℕ
  pub fell : LivesFellAt counts (lives - 1) before
  pub past : before ≤ made
  pub next : (count : ℕ) → slice_get counts (lives - 1) ≡ Some count → made ≤ count

-- The fall of the life that follows this number of lives.
abbrev pub IsNextFall : List ℕ → ℕ → FallCountdown → Type 0
IsNextFall counts lives Never = length counts ≤ lives
IsNextFall counts lives (After left) =
    (left < 4294967296) × (lives < length counts)
    × ((made : ℕ) → LivesFellAt counts lives made → slice_get counts lives ≡ Some (made + left))
IsNextFall counts lives Fallen = ⊥

-- The view of it in contracts. Its yes is counted, and if it is asked again afterwards it answers yes once more;
-- without a further fall it has already done so. So one yes implies that it was the last answer. Its questions are
-- counted so that it has been asked 2^32 times when its yes is due; it counts with 32 bits.
abbrev pub counts_of_countdown : FallCountdown → ChanceCounts
counts_of_countdown Never = record { yeses = 2; questions = None }
counts_of_countdown (After left) = record { yeses = 0; questions = Some (4294967296 - left) }
counts_of_countdown Fallen = record { yeses = 1; questions = Some 4294967297 }

-- The worker made own steps, with a question before each; a fall asked once more, with the answer yes.
pub record CountdownWasAsked (old new : FallCountdown) (start now : SeatView) (falls : ℕ) : Type 0 where
  pub made : ℕ
  pub steps : now.part.steps ≡ start.part.steps + made
  pub asks : ChanceWasAsked (counts_of_countdown old) (counts_of_countdown new) (made + falls) falls
