-- The layout of a list of at most `room` items in an array of `room` places: the items, and then a filler. An array
-- with this layout is determined by the items.
use Rattle.std.specs.Prelude.{◌≡◌, ℕ, ◌-◌, ◌≤◌, List, ◌++◌, length, take, replicate}
use Rattle.std.proofs.Common.{ap, ◌∙◌}

-- The first `few` places have the items, and the others have the filler.
pub record IsPaddedList {A : Type 0} (filler : A) (room few : ℕ) (items : List A) : Type 0 where
  pub whole : length items ≡ room
  pub within : few ≤ room
  pub taken : length (take few items) ≡ few
  pub filled : take few items ++ replicate (room - few) filler ≡ items

-- A function of the array and the count is a function of the items.
pub padding_is_restored : {A B : Type 0} (make : List A → ℕ → B) (filler : A) (room few : ℕ) (items : List A)
    → IsPaddedList filler room few items
    → make (take few items ++ replicate (room - length (take few items)) filler) (length (take few items)) ≡ make items
    few
padding_is_restored make filler room few items k =
    ap (λ (n : ℕ). make (take few items ++ replicate (room - n) filler) n) k.taken
    ∙ ap (λ (xs : List _). make xs few) k.filled
