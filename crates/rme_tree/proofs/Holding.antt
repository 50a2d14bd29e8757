-- `held_levels` is the only number with `IsHeldLevels`.
use Rattle.std.proofs.Common.{◌≡◌, ◌≢◌, ◌<◌, ℕ, zero, suc, ◌≤◌, Bool, true, false, cond, ◌&&◌, refl, sym, ◌∙◌, subst, inl, inr, arith, eqb}
use Rattle.std.proofs.lemmas.Bool.{cases_lt, and_parts, and_cases, eqb-true, eqb-false}
use Rattle.rme_tree.specs.Paths.{node, side, held_levels, OwnsUpTo, IsHeldLevels}
use Rattle.rme_tree.specs.Laws.{SameLevelsLaw}

-- One more level has the worker's side.
pub own_more : (f : ℕ → ℕ) (m w k : ℕ) → OwnsUpTo f m w k → f (node m w (suc k)) ≡ side m w (suc k) → OwnsUpTo f m w (suc k)
own_more f m w k own here i less =
    elim (cases_lt i k) [
      | inl below ↦ own i below
      | inr above ↦ (let e : i ≡ k = omega arith in let P : ℕ → Type 0 = λ n. f (node m w (suc n)) ≡ side m w (suc n) in subst P (sym e) here)
    ]

pub own_less : (f : ℕ → ℕ) (m w k j : ℕ) → j ≤ k → OwnsUpTo f m w k → OwnsUpTo f m w j
own_less f m w k j few own i less = own i (omega arith)

-- There is only one such number.
pub same_held : (f : ℕ → ℕ) (m w h j k : ℕ) → IsHeldLevels f m w h j → IsHeldLevels f m w h k → j ≡ k
same_held f m w h j k is_j is_k =
    elim (cases_lt j k) [
      | inl less ↦ absurd (is_j.ends (omega (arith, is_k.within)) (is_k.own j less))
      | inr more ↦ (elim (cases_lt k j) [
        | inl less ↦ absurd (is_k.ends (omega (arith, is_j.within)) (is_j.own k less))
        | inr less ↦ omega arith
      ])
    ]

grown : (f : ℕ → ℕ) (m w n k : ℕ) → IsHeldLevels f m w n k → (both : Bool) → (eqb k n && eqb (f (node m w (suc n))) (side m w (suc n))) ≡ both
    → IsHeldLevels f m w (suc n) (cond both (suc n) k)
grown f m w n k is true test =
    let parts : (eqb k n ≡ true) × (eqb (f (node m w (suc n))) (side m w (suc n)) ≡ true) = and_parts _ _ test in
    let e : k ≡ n = eqb-true k n parts.0 in
    record {
      within = omega arith;
      own = own_more f m w n (let P : ℕ → Type 0 = λ k. OwnsUpTo f m w k in subst P e is.own) (eqb-true _ _ parts.1);
      ends = λ less. absurd (omega arith);
    }
grown f m w n k is false test =
    record {
      within = omega (arith, is.within);
      own = is.own;
      ends = λ less. elim (cases_lt k n) [
        | inl below ↦ is.ends below
        | inr above ↦ (λ here. elim (and_cases _ _ test) [
          | inl other ↦ eqb-false k n other (omega (arith, is.within))
          | inr other ↦ eqb-false _ _ other
              (let e : k ≡ n = omega (arith, is.within) in let P : ℕ → Type 0 = λ k. f (node m w (suc k)) ≡ side m w (suc k) in subst P e here)
        ])
      ];
    }

pub held_is : (f : ℕ → ℕ) (m w h : ℕ) → IsHeldLevels f m w h (held_levels f m w h)
unfolding held_levels
held_is f m w zero = record { within = omega arith; own = λ i less. absurd (omega arith); ends = λ less. absurd (omega arith) }
held_is f m w (suc n) = grown f m w n (held_levels f m w n) (held_is f m w n) _ refl

pub held_from : (f : ℕ → ℕ) (m w h k : ℕ) → IsHeldLevels f m w h k → held_levels f m w h ≡ k
held_from f m w h k is = same_held f m w h _ k (held_is f m w h) is

-- The same from an equation.
pub held_at : (f : ℕ → ℕ) (m w h k : ℕ) → held_levels f m w h ≡ k → IsHeldLevels f m w h k
held_at f m w h k e = let P : ℕ → Type 0 = λ k. IsHeldLevels f m w h k in subst P e (held_is f m w h)

pub held_within : (f : ℕ → ℕ) (m w h : ℕ) → held_levels f m w h ≤ h
held_within f m w h = (held_is f m w h).within

-- It is the greatest.
pub greatest_held : (f : ℕ → ℕ) (m w h k : ℕ) → IsHeldLevels f m w h k → (j : ℕ) → j ≤ h → OwnsUpTo f m w j → j ≤ k
greatest_held f m w h k is j few own =
    elim (cases_lt k j) [
      | inl more ↦ absurd (is.ends (omega arith) (own k more))
      | inr less ↦ less
    ]

-- Levels that all have the worker's sides are held.
pub held_least : (f : ℕ → ℕ) (m w h k : ℕ) → k ≤ h → OwnsUpTo f m w k → k ≤ held_levels f m w h
held_least f m w h k few own = greatest_held f m w h _ (held_is f m w h) k few own

-- The count up the path stops at the first node without the worker's side.
pub held_stop : (f : ℕ → ℕ) (m w h k : ℕ) → k < h → OwnsUpTo f m w k → f (node m w (suc k)) ≢ side m w (suc k) → held_levels f m w h ≡ k
held_stop f m w h k less own stop = held_from f m w h k record { within = omega arith; own = own; ends = λ _. stop }

-- A worker holds the same levels if no word of its path changed.
pub held_same : SameLevelsLaw
held_same f g m w h same =
    let was : IsHeldLevels f m w h (held_levels f m w h) = held_is f m w h in
    held_from g m w h _ record {
      within = was.within;
      own = λ i less. same i (omega (arith, was.within)) ∙ was.own i less;
      ends = λ less here. was.ends less (sym (same _ less) ∙ here);
    }
