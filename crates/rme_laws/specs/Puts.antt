-- All that was ever put to one log, the oldest first, whoever put it.
use Rattle.std.specs.Prelude.{◌≡◌, ◌≢◌, ◌⊎◌, ℕ, Bool, true, false, List, [], ◌∷◌, ◌++◌}
use mathlib.Core.List.{IsPrefix}
use Rattle.rme_replica.specs.EngineLogs.{HeadValue}

-- A put: the head that it saw, the head that it put, and its bytes, which come behind all bytes or replace them. A claim
-- is a put by another writer.
pub record LogPut : Type 0 where
  pub saw : HeadValue
  pub head : HeadValue
  pub replaces : Bool
  pub bytes : List ℕ

abbrev pub bytes_put : Bool → List ℕ → List ℕ → List ℕ
bytes_put true before bytes = bytes
bytes_put false before bytes = before ++ bytes

-- The bytes of a log after some puts.
abbrev pub bytes_after : List ℕ → List LogPut → List ℕ
bytes_after before [] = before
bytes_after before (put ∷ puts) = bytes_after (bytes_put put.replaces before put.bytes) puts

-- THE COMPARISON: each put was made where the log had the head that it saw, so that is the head of the one before it.
abbrev pub SeeEachOther : HeadValue → List LogPut → Type 0
SeeEachOther head [] = Unit {0}
SeeEachOther head (put ∷ puts) = (put.saw ≡ head) × SeeEachOther put.head puts

-- No put has this head.
abbrev pub IsFreshHead : HeadValue → List LogPut → Type 0
IsFreshHead head [] = Unit {0}
IsFreshHead head (put ∷ puts) = (put.head ≢ head) × IsFreshHead head puts

-- THE PREMISE OF HEADS: none is put twice. Each has the mark of its writer's run, and the number of its record.
abbrev pub HaveOwnHeads : HeadValue → List LogPut → Type 0
HaveOwnHeads head [] = Unit {0}
HaveOwnHeads head (put ∷ puts) = IsFreshHead head (put ∷ puts) × HaveOwnHeads put.head puts

-- A log that began with this head, and to which these puts were made.
pub record IsLogOfPuts (first : HeadValue) (puts : List LogPut) : Type 0 where
  pub seen : SeeEachOther first puts
  pub own : HaveOwnHeads first puts

-- NOBODY COMES BETWEEN: what saw the head of one put was put directly behind it.
abbrev pub IsUnbroken : Type 0
IsUnbroken = (first : HeadValue) (puts before between after : List LogPut) (one other : LogPut) → IsLogOfPuts first puts
    → puts ≡ before ++ one ∷ (between ++ other ∷ after) → other.saw ≡ one.head → between ≡ []

-- A HEAD TELLS THE LOG: what was put up to a head is told by the head, and so are the bytes.
pub record IsSameLog (before one_before : List LogPut) (start : List ℕ) : Type 0 where
  pub puts : before ≡ one_before
  pub bytes : bytes_after start before ≡ bytes_after start one_before

abbrev pub IsOneLog : Type 0
IsOneLog = (first : HeadValue) (puts a b a_after b_after : List LogPut) (one other : LogPut) (start : List ℕ)
    → IsLogOfPuts first puts → puts ≡ a ++ one ∷ a_after → puts ≡ b ++ other ∷ b_after → one.head ≡ other.head
    → IsSameLog (a ++ one ∷ []) (b ++ other ∷ []) start

-- ONE RUN: of two moments of a log one continues the other.
abbrev pub IsOneRun : Type 0
IsOneRun = (puts a b : List LogPut) → IsPrefix a puts → IsPrefix b puts → IsPrefix a b ⊎ IsPrefix b a
