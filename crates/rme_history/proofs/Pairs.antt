-- The first item of a list and the later ones, and the items that a filter keeps.
use Rattle.std.proofs.Common.{◌≡◌, ℕ, zero, suc, ◌+◌, List, [], ◌∷◌, length, refl, sym, ◌∙◌, inl, inr, arith}
use Rattle.std.specs.Prelude.{Bool, true, filter, if◌then◌else◌}
use Rattle.std.specs.List.{All, AllPairs, sum_by}
use Rattle.std.specs.List.Sorted.{IsPermutation}
use Rattle.std.proofs.lemmas.Bool.{cases_Bool}
use Rattle.std.proofs.lemmas.List.Elements.{All-nil, All-cons, All-head, All-tail}
use Rattle.std.proofs.lemmas.List.Sorted.{sum_by-IsPermutation}
use Rattle.std.proofs.lemmas.List.Sums.{sum_by-cons}

module _ {X : Type 0} where
  -- If a relation holds between each item and all later ones, it holds for the first item and for the rest of the list.
  pub pairs_head : (R : X → X → Type 0) (x : X) (xs : List X) → AllPairs R (x ∷ xs) → All (R x) xs
  pairs_head R x xs pairs k d within = pairs zero (suc k) d (omega arith) (omega (arith, within))

  pub pairs_tail : (R : X → X → Type 0) (x : X) (xs : List X) → AllPairs R (x ∷ xs) → AllPairs R xs
  pairs_tail R x xs pairs i j d less within = pairs (suc i) (suc j) d (omega (arith, less)) (omega (arith, within))

  -- A property of all items that a filter keeps is one of all items that pass it, and conversely.
  pub kept_all : (p : X → Bool) (Q : X → Type 0) (xs : List X) → All Q (filter p xs) → All (λ x. p x ≡ true → Q x) xs
  kept_all p Q [] all = All-nil (λ x. p x ≡ true → Q x)
  kept_all p Q (x ∷ xs) all = elim (cases_Bool (p x)) [
    | inl t ↦
        let both : All Q (x ∷ filter p xs) = rw t at all in
        All-cons (λ y. p y ≡ true → Q y) x xs (λ passes. All-head Q x (filter p xs) both) (kept_all p Q xs (All-tail Q x (filter p xs) both))
    | inr f ↦
        let rest : All Q (filter p xs) = rw f at all in
        All-cons (λ y. p y ≡ true → Q y) x xs (λ passes. absurd (cc)) (kept_all p Q xs rest)
  ]

  pub all_kept : (p : X → Bool) (Q : X → Type 0) (xs : List X) → All (λ x. p x ≡ true → Q x) xs → All Q (filter p xs)
  all_kept p Q [] all = All-nil Q
  all_kept p Q (x ∷ xs) all =
      let rest : All Q (filter p xs) = all_kept p Q xs (All-tail (λ y. p y ≡ true → Q y) x xs all) in
      elim (cases_Bool (p x)) [
        | inl t ↦ rw t (All-cons Q x (filter p xs) (All-head (λ y. p y ≡ true → Q y) x xs all t) rest)
        | inr f ↦ rw f rest
      ]

  -- A sum over the items that a filter keeps does not depend on the order.
  sum_kept : (f : X → ℕ) (p : X → Bool) (xs : List X) → sum_by f (filter p xs) ≡ sum_by (λ x. if p x then f x else 0) xs
  sum_kept f p [] = refl
  sum_kept f p (x ∷ xs) =
      let rest = sum_kept f p xs in
      let all : sum_by (λ y. if p y then f y else 0) (x ∷ xs) ≡ (if p x then f x else 0) + sum_by (λ y. if p y then f y else 0) xs =
      sum_by-cons (λ y. if p y then f y else 0) x xs in
      elim (cases_Bool (p x)) [
        | inl t ↦
            let kept : sum_by f (filter p (x ∷ xs)) ≡ f x + sum_by f (filter p xs) = rw t (sum_by-cons f x (filter p xs)) in
            let this : (if p x then f x else 0) ≡ f x = rw t refl in
            omega (arith, kept, this, all, rest)
        | inr no_pass ↦
            let left : sum_by f (filter p (x ∷ xs)) ≡ sum_by f (filter p xs) = rw no_pass refl in
            let this : (if p x then f x else 0) ≡ 0 = rw no_pass refl in
            omega (arith, left, this, all, rest)
      ]

  pub sum_mixed : (f : X → ℕ) (p : X → Bool) (xs ys : List X) → IsPermutation xs ys → sum_by f (filter p ys) ≡ sum_by f (filter p xs)
  sum_mixed f p xs ys mixed =
      sum_kept f p ys ∙ sum_by-IsPermutation (λ x. if p x then f x else 0) xs ys mixed ∙ sym (sum_kept f p xs)

  -- A sum of ones is the length, and if a sum is 0 so are all its terms.
  pub sum_ones : (xs : List X) → sum_by (λ x. 1) xs ≡ length xs
  sum_ones [] = refl
  sum_ones (x ∷ xs) = sum_by-cons (λ y. 1) x xs ∙ (let rest = sum_ones xs in omega (arith, rest))

  pub sum_none : (f : X → ℕ) (xs : List X) → sum_by f xs ≡ 0 → All (λ x. f x ≡ 0) xs
  sum_none f [] none = All-nil (λ x. f x ≡ 0)
  sum_none f (x ∷ xs) none =
      let both = sum_by-cons f x xs in
      All-cons (λ y. f y ≡ 0) x xs (omega (arith, both, none)) (sum_none f xs (omega (arith, both, none)))
