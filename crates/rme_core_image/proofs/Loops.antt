-- Parsing items one after another in a loop.
use Rattle.std.proofs.Common.{◌≡◌, ℕ, suc, ◌-◌, ◌+◌, ◌<◌, List, [], ◌∷◌, ◌++◌, Option, Some, None, refl, sym, ◌∙◌, arith}
use Rattle.rme_core_image.specs.Parsing.{parse_many}

module _ {A : Type 0} (read : List A → List ℕ → Option (A × List ℕ)) (n i : ℕ) (items : List A) (bytes : List ℕ) (total : Option (List A × List ℕ)) where
  pub many_more : (x : A) (after : List ℕ) → i < n → read items bytes ≡ Some (x, after) → parse_many read (n - i) items bytes ≡ total → parse_many read (n - (i + 1)) (items ++ x ∷ []) after ≡ total
  many_more x after lt h so_far =
      let k : n - i ≡ suc (n - (i + 1)) = omega arith in
      let one : parse_many read (n - i) items bytes ≡ parse_many read (n - (i + 1)) (items ++ x ∷ []) after = rw (k, h) refl in
      sym one ∙ so_far

  pub many_ends : i < n → read items bytes ≡ None → parse_many read (n - i) items bytes ≡ total → total ≡ None
  many_ends lt h so_far =
      let k : n - i ≡ suc (n - (i + 1)) = omega arith in
      let one : parse_many read (n - i) items bytes ≡ None = rw (k, h) refl in
      sym so_far ∙ one
