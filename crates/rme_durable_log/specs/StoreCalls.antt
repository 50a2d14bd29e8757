-- The state of a store, and the effect of one call on it.
use Rattle.std.specs.Prelude.{◌≡◌, ℕ, suc, Bool, true, false, List, ◌++◌, take, Option, option_map}

-- The bytes that recovery reads, if they are known; whether the store still takes lines: it does until it fails; and the
-- number of times that a shared store was asked whether its bytes are still those of this value, and they were.
pub record StoreState : Type 0 where
  pub bytes : Option (List ℕ)
  pub works : Bool
  pub barriers : ℕ

-- Each append to a shared store asks it.
abbrev pub barriers_after : Bool → ℕ → ℕ
barriers_after true count = suc count
barriers_after false count = count

-- These lines are appended to all earlier bytes, and the store takes more. Others may write to a shared store: at some
-- moment of the call its bytes were those before, and then these.
pub record AppendsLines (shared : Bool) (before : StoreState) (lines : List ℕ) (after : StoreState) : Type 0 where
  pub bytes : after.bytes ≡ option_map (λ bytes. bytes ++ lines) before.bytes
  pub works : after.works ≡ true
  pub barriers : after.barriers ≡ barriers_after shared before.barriers

-- The store has failed: all earlier bytes are still there, perhaps with a part of the lines after them, and it takes no
-- more.
pub record FailsToAppend (before : StoreState) (lines : List ℕ) (after : StoreState) : Type 0 where
  pub count : ℕ
  pub bytes : after.bytes ≡ option_map (λ bytes. bytes ++ take count lines) before.bytes
  pub works : after.works ≡ false

-- These bytes replace all earlier ones, and the store takes lines after them.
pub record ReplacesBytes (before : StoreState) (bytes : List ℕ) (after : StoreState) : Type 0 where
  pub replaced : after.bytes ≡ option_map (λ _. bytes) before.bytes
  pub works : after.works ≡ true
  pub barriers : after.barriers ≡ before.barriers

-- The store takes no more lines. Its bytes are as they were.
pub record StopsStore (before : StoreState) (after : StoreState) : Type 0 where
  pub bytes : after.bytes ≡ before.bytes
  pub works : after.works ≡ false
