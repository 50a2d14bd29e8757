-- The increasing list of the numbers that pass a test: its step, its length, its elements, and the cells of a mask.
use Rattle.std.proofs.Common.{◌≡◌, ℕ, zero, suc, ◌+◌, ◌-◌, ◌<◌, ◌≤◌, Bool, true, false, ◌==◌, List, [], ◌∷◌, ◌++◌, length, refl, sym, ap, ◌∙◌, inl, inr, arith, add-one}
use Rattle.std.proofs.lemmas.Bool.{cases_Bool, cases_eq}
use Rattle.rme_script.specs.declared.op.Op.{Op}
use Rattle.rme_script.specs.Cells.{ops_name_cell, bit_of, IsMaskOfOps, mask_has_cell, numbers_passing, mask_cells, mask_cells_from, cells_of_ops}

-- ---- one number on

passing_hit : (test : ℕ → Bool) (from count : ℕ) → test from ≡ true → numbers_passing test from (suc count) ≡ from ∷ numbers_passing test (suc from) count
passing_hit test from count t = rw t refl

passing_miss : (test : ℕ → Bool) (from count : ℕ) → test from ≡ false → numbers_passing test from (suc count) ≡ numbers_passing test (suc from) count
passing_miss test from count t = rw t refl

fewer : (from cells : ℕ) → from < cells → cells - from ≡ suc (cells - (from + 1))
fewer from cells l = omega (arith, l)

pub cells_from_hit : (mask from cells : ℕ) → from < cells → mask_has_cell mask from ≡ true → mask_cells_from mask from cells ≡ from ∷ mask_cells_from mask (from + 1) cells
unfolding mask_cells_from
cells_from_hit mask from cells l t =
    ap (λ (n : ℕ). numbers_passing (mask_has_cell mask) from n) (fewer from cells l)
    ∙ passing_hit (mask_has_cell mask) from (cells - (from + 1)) t
    ∙ ap (λ (n : ℕ). from ∷ numbers_passing (mask_has_cell mask) n (cells - (from + 1))) (sym (add-one from))

pub cells_from_miss : (mask from cells : ℕ) → from < cells → mask_has_cell mask from ≡ false → mask_cells_from mask from cells ≡ mask_cells_from mask (from + 1) cells
unfolding mask_cells_from
cells_from_miss mask from cells l t =
    ap (λ (n : ℕ). numbers_passing (mask_has_cell mask) from n) (fewer from cells l)
    ∙ passing_miss (mask_has_cell mask) from (cells - (from + 1)) t
    ∙ ap (λ (n : ℕ). numbers_passing (mask_has_cell mask) n (cells - (from + 1))) (sym (add-one from))

pub cells_from_end : (mask from cells : ℕ) → cells ≤ from → mask_cells_from mask from cells ≡ []
unfolding mask_cells_from
cells_from_end mask from cells past = let none : cells - from ≡ 0 = omega (arith, past) in ap (λ (n : ℕ). numbers_passing (mask_has_cell mask) from n) none

pub cells_from_start : (mask cells : ℕ) → mask_cells_from mask 0 cells ≡ mask_cells mask cells
unfolding mask_cells_from mask_cells
cells_from_start mask cells = let all : cells - 0 ≡ cells = omega arith in ap (λ (n : ℕ). numbers_passing (mask_has_cell mask) 0 n) all

-- ---- how many

passing_most : (test : ℕ → Bool) (from count : ℕ) → length (numbers_passing test from count) ≤ count
passing_most test from zero = omega arith
passing_most test from (suc count) = elim (cases_Bool (test from)) [
  | inl t ↦ rw t (omega (arith, passing_most test (suc from) count))
  | inr f ↦ rw f (omega (arith, passing_most test (suc from) count))
]

pub cells_named_most : (mask cells : ℕ) → length (mask_cells mask cells) ≤ cells
unfolding mask_cells
cells_named_most mask cells = passing_most (mask_has_cell mask) 0 cells

-- ---- the cells of a script's mask are the script's cells

passing_same : (test other : ℕ → Bool) → ((c : ℕ) → test c ≡ other c) → (from count : ℕ) → numbers_passing test from count ≡ numbers_passing other from count
passing_same test other same from zero = refl
passing_same test other same from (suc count) = elim (cases_Bool (other from)) [
  | inl t ↦ let t' : test from ≡ true = same from ∙ t in rw (t, t') (ap (λ (xs : List ℕ). from ∷ xs) (passing_same test other same (suc from) count))
  | inr f ↦ let f' : test from ≡ false = same from ∙ f in rw (f, f') (passing_same test other same (suc from) count)
]

bit_is : (b : Bool) → (bit_of b == 1) ≡ b
bit_is true = refl
bit_is false = refl

pub has_named : (mask : ℕ) (ops : List Op) → IsMaskOfOps mask ops → (c : ℕ) → mask_has_cell mask c ≡ ops_name_cell ops c
has_named mask ops h c = ap (λ (n : ℕ). n == 1) (h c) ∙ bit_is (ops_name_cell ops c)

pub cells_named_mask : (mask : ℕ) (ops : List Op) → IsMaskOfOps mask ops → (cells : ℕ) → mask_cells mask cells ≡ cells_of_ops ops cells
unfolding mask_cells cells_of_ops
cells_named_mask mask ops h cells = passing_same (mask_has_cell mask) (ops_name_cell ops) (has_named mask ops h) 0 cells

-- ---- the loops that go over a mask

pub none_more : (mask from c : ℕ) → ((k : ℕ) → from ≤ k → k < c → mask_has_cell mask k ≡ false) → mask_has_cell mask c ≡ false → (k : ℕ) → from ≤ k → k < c + 1 → mask_has_cell mask k ≡ false
none_more mask from c none here k a b = elim (cases_eq k c) [
  | inl q ↦ rw q here
  | inr n ↦ none k a (omega (arith, b, n))
]

pub count_hit : (mask cells c count : ℕ) → c < cells → mask_has_cell mask c ≡ true → count + length (mask_cells_from mask c cells) ≡ length (mask_cells mask cells) → count + 1 + length (mask_cells_from mask (c + 1) cells) ≡ length (mask_cells mask cells)
count_hit mask cells c count l t h =
    let e : length (mask_cells_from mask c cells) ≡ suc (length (mask_cells_from mask (c + 1) cells)) = ap (λ (xs : List ℕ). length xs) (cells_from_hit mask c cells l t) in
    omega (arith, e, h)

pub count_miss : (mask cells c count : ℕ) → c < cells → mask_has_cell mask c ≡ false → count + length (mask_cells_from mask c cells) ≡ length (mask_cells mask cells) → count + length (mask_cells_from mask (c + 1) cells) ≡ length (mask_cells mask cells)
count_miss mask cells c count l f h =
    let e : length (mask_cells_from mask c cells) ≡ length (mask_cells_from mask (c + 1) cells) = ap (λ (xs : List ℕ). length xs) (cells_from_miss mask c cells l f) in
    omega (arith, e, h)

pub count_start : (mask cells : ℕ) → 0 + length (mask_cells_from mask 0 cells) ≡ length (mask_cells mask cells)
count_start mask cells = let e : length (mask_cells_from mask 0 cells) ≡ length (mask_cells mask cells) = ap (λ (xs : List ℕ). length xs) (cells_from_start mask cells) in omega (arith, e)

pub count_end : (mask cells c count : ℕ) → cells ≤ c → count + length (mask_cells_from mask c cells) ≡ length (mask_cells mask cells) → count ≡ length (mask_cells mask cells)
count_end mask cells c count past h =
    let e : length (mask_cells_from mask c cells) ≡ 0 = ap (λ (xs : List ℕ). length xs) (cells_from_end mask c cells past) in
    omega (arith, e, h)

-- ---- the cells before a cell, and the cells from it on

passing_split : (test : ℕ → Bool) (from first second : ℕ) → numbers_passing test from (first + second) ≡ numbers_passing test from first ++ numbers_passing test (from + first) second
passing_split test from zero second = let none : zero + second ≡ second = omega arith in let here : from + zero ≡ from = omega arith in rw (none, here) refl
passing_split test from (suc first) second =
    let more : suc first + second ≡ suc (first + second) = omega arith in
    let on : from + suc first ≡ suc from + first = omega arith in
    let rest : numbers_passing test (suc from) (first + second) ≡ numbers_passing test (suc from) first ++ numbers_passing test (suc from + first) second = passing_split test (suc from) first second in
    rw (more, on) (elim (cases_Bool (test from)) [
      | inl t ↦ rw (t, rest) refl
      | inr f ↦ rw (f, rest) refl
    ])

pub cells_named_split : (mask from cells : ℕ) → from ≤ cells → mask_cells mask cells ≡ mask_cells mask from ++ mask_cells_from mask from cells
unfolding mask_cells mask_cells_from
cells_named_split mask from cells l =
    let whole : cells ≡ from + (cells - from) = omega (arith, l) in
    let start : 0 + from ≡ from = omega arith in
    ap (λ (n : ℕ). numbers_passing (mask_has_cell mask) 0 n) whole ∙ passing_split (mask_has_cell mask) 0 from (cells - from) ∙ ap (λ (n : ℕ). numbers_passing (mask_has_cell mask) 0 from ++ numbers_passing (mask_has_cell mask) n (cells - from)) start
