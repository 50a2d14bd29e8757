-- The first cell of a mask from a number on, and the number of cells below it.
use Rattle.std.proofs.Common.{◌≡◌, ℕ, zero, suc, ◌+◌, ◌-◌, ◌<◌, ◌≤◌, Bool, true, false, List, ◌∷◌, length, refl, sym, ap, ◌∙◌, inl, inr, arith}
use Rattle.std.specs.Prelude.{Some, None}
use Rattle.std.proofs.lemmas.Bool.{cases_Bool, cases_eq}
use Rattle.std.proofs.lemmas.Option.{none-some, same_Some}
use Rattle.rme_script.specs.Cells.{mask_has_cell, numbers_passing, mask_cells, mask_cells_from}
use Rattle.rme_script.proofs.Rising.{cells_from_hit}
use Rattle.rme_program.specs.Masks.{list_head, first_cell}
use Rattle.rme_program.specs.Phases.{mask_cells_below}
use Rattle.rme_program.proofs.Counts.{cells_below-split}

pub record First (test : ℕ → Bool) (from past c : ℕ) : Type 0 where
  pub set : test c ≡ true
  pub after : from ≤ c
  pub below : c < past
  pub none : (k : ℕ) → from ≤ k → k < c → test k ≡ false

first_passing : (test : ℕ → Bool) (from count c : ℕ) → list_head (numbers_passing test from count) ≡ Some c → First test from (from + count) c
first_passing test from zero c h = absurd (none-some c h)
first_passing test from (suc count) c h = elim (cases_Bool (test from)) [
  | inl t ↦
      let here : list_head (from ∷ numbers_passing test (suc from) count) ≡ Some c = rw t at h in
      let e : from ≡ c = same_Some from c here in
      record { set = ap test (sym e) ∙ t; after = omega (arith, e); below = omega (arith, e); none = λ k a b. absurd (omega (arith, a, b, e)) }
  | inr f ↦
      let there : list_head (numbers_passing test (suc from) count) ≡ Some c = rw f at h in
      let rest : First test (suc from) (suc from + count) c = first_passing test (suc from) count c there in
      record {
        set = rest.set;
        after = omega (arith, rest.after);
        below = omega (arith, rest.below);
        none = λ k a b. elim (cases_eq k from) [ inl q ↦ ap test q ∙ f | inr n ↦ rest.none k (omega (arith, a, n)) b ];
      }
]

passing_none : (test : ℕ → Bool) (from count : ℕ) → ((k : ℕ) → from ≤ k → k < from + count → test k ≡ false) → length (numbers_passing test from count) ≡ 0
passing_none test from zero none = refl
passing_none test from (suc count) none =
    let f : test from ≡ false = none from (omega arith) (omega arith) in
    rw f (passing_none test (suc from) count (λ k a b. none k (omega (arith, a)) (omega (arith, b))))

none_passing : (test : ℕ → Bool) (from count : ℕ) → list_head (numbers_passing test from count) ≡ None → length (numbers_passing test from count) ≡ 0
none_passing test from zero h = refl
none_passing test from (suc count) h = elim (cases_Bool (test from)) [
  | inl t ↦ let some : list_head (from ∷ numbers_passing test (suc from) count) ≡ None = rw t at h in absurd (none-some from (sym some))
  | inr f ↦ let rest : list_head (numbers_passing test (suc from) count) ≡ None = rw f at h in rw f (none_passing test (suc from) count rest)
]

-- ---- of a mask

pub record FirstCell (mask from cells c : ℕ) : Type 0 where
  pub set : mask_has_cell mask c ≡ true
  pub after : from ≤ c
  pub below : c < cells
  pub none : (k : ℕ) → from ≤ k → k < c → mask_has_cell mask k ≡ false
  pub same : mask_cells_below mask c ≡ mask_cells_below mask from

below_same : (mask from c : ℕ) → from ≤ c → ((k : ℕ) → from ≤ k → k < c → mask_has_cell mask k ≡ false) → mask_cells_below mask c ≡ mask_cells_below mask from
unfolding mask_cells_from
below_same mask from c le none =
    omega (arith, cells_below-split mask from c le, passing_none (mask_has_cell mask) from (c - from) (λ k a b. none k a (omega (arith, b, le))))

pub first_some : (mask from cells c : ℕ) → from ≤ cells → first_cell mask from cells ≡ Some c → FirstCell mask from cells c
unfolding first_cell mask_cells_from
first_some mask from cells c le h =
    let first : First (mask_has_cell mask) from (from + (cells - from)) c = first_passing (mask_has_cell mask) from (cells - from) c h in
    record { set = first.set; after = first.after; below = omega (arith, first.below, le); none = first.none; same = below_same mask from c first.after first.none }

pub first_none : (mask from cells : ℕ) → from ≤ cells → first_cell mask from cells ≡ None → mask_cells_below mask cells ≡ mask_cells_below mask from
unfolding first_cell mask_cells_from
first_none mask from cells le h =
    omega (arith, cells_below-split mask from cells le, none_passing (mask_has_cell mask) from (cells - from) h)

one_past : (mask c : ℕ) → length (mask_cells_from mask (c + 1) (c + 1)) ≡ 0
unfolding mask_cells_from
one_past mask c = let none : c + 1 - (c + 1) ≡ 0 = omega arith in ap (λ (n : ℕ). length (numbers_passing (mask_has_cell mask) (c + 1) n)) none

-- A cell of the mask adds one to the count.
pub below_more : (mask c : ℕ) → mask_has_cell mask c ≡ true → mask_cells_below mask (c + 1) ≡ mask_cells_below mask c + 1
below_more mask c t =
    omega (arith, cells_below-split mask c (c + 1) (omega arith), ap (λ (xs : List ℕ). length xs) (cells_from_hit mask c (c + 1) (omega arith) t), one_past mask c)

some_below : (mask from cells k : ℕ) → from ≤ k → k < cells → mask_has_cell mask k ≡ true → 1 ≤ length (mask_cells_from mask from cells)
some_below mask from cells k a b t =
    omega (arith, cells_below-split mask from cells (omega (arith, a, b)), cells_below-split mask from k a, cells_below-split mask (k + 1) cells (omega (arith, b)), below_more mask k t)

-- No cell of the mask is skipped.
pub none_left : (mask from cells k : ℕ) → first_cell mask from cells ≡ None → from ≤ k → k < cells → mask_has_cell mask k ≡ false
unfolding first_cell mask_cells_from
none_left mask from cells k h a b = elim (cases_Bool (mask_has_cell mask k)) [
  | inl t ↦ absurd (omega (arith, cells_below-split mask from cells (omega (arith, a, b)), none_passing (mask_has_cell mask) from (cells - from) h, some_below mask from cells k a b t))
  | inr f ↦ f
]

pub below_zero : (mask : ℕ) → mask_cells_below mask 0 ≡ 0
unfolding mask_cells
below_zero mask = refl
