-- Sums over the records of all seats, and records read by their seats.
use Rattle.std.proofs.Common.{◌≡◌, ℕ, zero, suc, ◌+◌, ◌≤◌, List, [], ◌∷◌, ◌++◌, set, sym, ap, arith}
use mathlib.Core.Option.{some, some-injective, some-ne-none}
use lib.ListN.{get_elem?}
use Rattle.rme_service_steps.specs.Rule.{total_of}

module _ {A : Type 0} (f : A → ℕ) where
  pub total_set : (l : List A) (i : ℕ) (a b : A) → get_elem? l i ≡ some a → total_of f (set l i b) + f a ≡ total_of f l + f b
  total_set [] i a b at = absurd (some-ne-none a (sym at))
  total_set (x ∷ l) zero a b at = let e : f x ≡ f a = ap f (some-injective x a at) in omega (arith, e)
  total_set (x ∷ l) (suc i) a b at = omega (arith, total_set l i a b at)

  pub total_append : (l m : List A) → total_of f (l ++ m) ≡ total_of f l + total_of f m
  total_append [] m = omega arith
  total_append (x ∷ l) m = omega (arith, total_append l m)

  pub total_at : (l : List A) (i : ℕ) (a : A) → get_elem? l i ≡ some a → f a ≤ total_of f l
  total_at [] i a at = absurd (some-ne-none a (sym at))
  total_at (x ∷ l) zero a at = let e : f x ≡ f a = ap f (some-injective x a at) in omega (arith, e)
  total_at (x ∷ l) (suc i) a at = omega (arith, total_at l i a at)
