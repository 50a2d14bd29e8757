-- Items of lists by index.
use Rattle.std.proofs.Common.{◌≡◌, ℕ, zero, suc, List, [], ◌∷◌, ◌++◌, length, refl, ap, inl, inr, ◌⊎◌}
use Rattle.std.specs.Prelude.{slice_get, Some}
use Rattle.std.proofs.lemmas.Option.{none-some, same_Some}

-- An item of a list with one item appended is one of the list, or the appended one.
pub in_snoc : {A : Type 0} (xs : List A) (x : A) (k : ℕ) (y : A) → slice_get (xs ++ x ∷ []) k ≡ Some y → (slice_get xs k ≡ Some y) ⊎ ((k ≡ length xs) × (x ≡ y))
in_snoc [] x zero y at = inr (refl, same_Some _ _ at)
in_snoc [] x (suc k) y at = absurd (none-some _ at)
in_snoc (z ∷ xs) x zero y at = inl at
in_snoc (z ∷ xs) x (suc k) y at = elim (in_snoc xs x k y at) [
  | inl h ↦ inl h
  | inr h ↦ inr (ap suc h.0, h.1)
]
