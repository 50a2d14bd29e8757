-- The workers of a key: ranges of numbers, and the text that names them.
use Rattle.std.specs.Prelude.{◌≡◌, ◌⊎◌, ◌==◌, ℕ, ◌+◌, ◌-◌, ◌*◌, ◌<◌, ◌≤◌, List, [], ◌∷◌, MatchOption, codes, drop, length, position, slice_index, take}
use Rattle.std.specs.Char.{IsAsciiDigit}
use Rattle.std.specs.List.{Any, EachIndex, slice_split}
use Rattle.rme_keys.specs.Finding.{NameInTurn}
use Rattle.rme_keys.specs.declared.workers.WorkerRange.{WorkerRange}

-- A worker is in a range.
abbrev pub HasWorker : WorkerRange → ℕ → Type 0
HasWorker range worker = (range.first ≤ worker) × (worker ≤ range.last)

-- A worker is in one of some ranges.
abbrev pub HaveWorker : List WorkerRange → ℕ → Type 0
HaveWorker ranges worker = Any (λ range. HasWorker range worker) ranges

-- The number that decimal digits spell after the digits of another number.
abbrev pub number_after : ℕ → List ℕ → ℕ
number_after number [] = number
number_after number (digit ∷ digits) = number_after (10 * number + (digit - 48)) digits

-- A text names a worker: by one or more decimal digits, as a number from 0 to 255.
pub record IsWorkerText (text : List ℕ) (worker : ℕ) : Type 0 where
  pub some : 0 < length text
  pub digits : EachIndex text (λ i. IsAsciiDigit (slice_index text i))
  pub number : number_after 0 text ≡ worker
  pub small : worker ≤ 255

-- A text names a worker, and a range has that worker only.
abbrev pub IsSingleText : List ℕ → WorkerRange → Type 0
IsSingleText text range = IsWorkerText text range.first × (range.last ≡ range.first)

-- Two texts name the first and the last worker of a range.
abbrev pub AreEndTexts : List ℕ → List ℕ → WorkerRange → Type 0
AreEndTexts first last range =
    IsWorkerText first range.first × IsWorkerText last range.last × (range.first ≤ range.last)

-- A text names a range: by one worker, or by the first and the last with `-` between.
abbrev pub IsRangeText : List ℕ → WorkerRange → Type 0
IsRangeText text range =
    MatchOption (position (λ byte. byte == 45) text) (IsSingleText text range)
    (λ dash. AreEndTexts (take dash text) (drop (dash + 1) text) range)

-- THE WORKERS THAT A TEXT NAMES: `-` names none, `*` all, any other text ranges with commas between.
abbrev pub IsWorkersText : List ℕ → List WorkerRange → Type 0
IsWorkersText text ranges =
    ((text ≡ codes "-") × (ranges ≡ []))
    ⊎ (((text ≡ codes "*") × (ranges ≡ record { first = 0; last = 4294967295 } ∷ []))
    ⊎ NameInTurn IsRangeText (slice_split (λ byte. byte == 44) text) ranges)
