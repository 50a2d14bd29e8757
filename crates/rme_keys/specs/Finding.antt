-- What a search finds, and lists of texts that name values.
use Rattle.std.specs.Prelude.{ℕ, List, [], ◌∷◌, Option, Some, None}

-- What was found fits. Nothing was found only if nothing fits.
abbrev pub Finds : {A : Type 0} → (A → Type 0) → Option A → Type 0
Finds {A} Fits None = (a : A) → Fits a → ⊥
Finds Fits (Some a) = Fits a

-- The texts name the values, one for each, in order.
abbrev pub NameInTurn : {A : Type 0} → (List ℕ → A → Type 0) → List (List ℕ) → List A → Type 0
NameInTurn Names [] [] = Unit {0}
NameInTurn Names [] (a ∷ values) = ⊥
NameInTurn Names (text ∷ texts) [] = ⊥
NameInTurn Names (text ∷ texts) (a ∷ values) = Names text a × NameInTurn Names texts values
