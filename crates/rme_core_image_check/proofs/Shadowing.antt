-- A mask compared with the cells and the script that it covers; shadow words and cells compared with rows.
use Rattle.std.proofs.Common.{◌≡◌, ◌≢◌, ℕ, ◌^◌, ◌<◌, ◌≤◌, ◌⊎◌, List, length, sym, ◌∙◌, ap, inl, inr, arith}
use Rattle.std.specs.Prelude.{true, false, slice_index, map}
use Rattle.std.specs.List.{range_with_len}
use Rattle.std.specs.Int.{bit_at}
use Rattle.std.proofs.lemmas.Bool.{cases_lt, eqb-true}
use Rattle.std.proofs.lemmas.Nat.Bits.{bit_at_above}
use Rattle.std.proofs.lemmas.Grind.{same_number_lists}
use Rattle.rme_words.specs.declared.shape.Shape.{Shape}
use Rattle.rme_script.specs.declared.op.Op.{Op}
use Rattle.rme_script.specs.Cells.{mask_has_cell, ops_name_cell, IsMaskOfOps}
use Rattle.rme_script.specs.Programs.{Program}
use Rattle.rme_script.specs.Scripts.{IsScript}
use Rattle.rme_script.proofs.Rising.{has_named}
use Rattle.rme_script.proofs.Weaker.{named_below}
use Rattle.rme_machine.specs.Invariant.{MaskCoversOps}
use Rattle.rme_machine.proofs.Lists.{made_at, made_long}

-- The condition on a mask at one cell.
pub record IsCoveredAt (shape : Shape) (mask : ℕ) (ops : List Op) (c : ℕ) : Type 0 where
  pub within : mask_has_cell mask c ≡ true → c < shape.cells
  pub named : ops_name_cell ops c ≡ true → mask_has_cell mask c ≡ true

-- A word has no bit from 64 on.
has_none : (mask c : ℕ) → mask < 2 ^ 64 → 64 ≤ c → mask_has_cell mask c ≡ true → ⊥
has_none mask c small past set =
    let bit : bit_at mask c ≡ 1 = eqb-true (bit_at mask c) 1 set in
    let none : bit_at mask c ≡ 0 = bit_at_above mask 64 c small past in
    absurd (omega (arith, bit, none))

-- A cell in the mask is one of the lock's; a cell outside it is not named by the script.
pub covered_set : (s : Shape) (mask : ℕ) (ops : List Op) (c : ℕ) → mask_has_cell mask c ≡ true → c < s.cells → IsCoveredAt s mask ops c
covered_set s mask ops c set below = record { within = λ _. below; named = λ _. set }

pub covered_off : (s : Shape) (mask wanted : ℕ) (ops : List Op) (c : ℕ) → IsMaskOfOps wanted ops → mask_has_cell mask c ≡ false → mask_has_cell wanted c ≡ false → IsCoveredAt s mask ops c
covered_off s mask wanted ops c is off unwanted = record {
  within = λ set. (let clash : true ≡ false = sym set ∙ off in absurd (cc));
  named = λ named. (let clash : true ≡ false = sym named ∙ sym (has_named wanted ops is c) ∙ unwanted in absurd (cc));
}

-- A property of the 64 cells that a word can have is one of all cells.
pub covered_all : (s : Shape) (mask i : ℕ) (script : Program) → mask < 2 ^ 64 → IsScript s.cells script → 64 ≤ i → ((c : ℕ) → c < i → IsCoveredAt s mask script.ops c) → MaskCoversOps s mask script.ops
covered_all s mask i script small fits end all = record {
  within = λ c set. elim (cases_lt c 64) [
    | inl below ↦ (all c (omega (arith, below, end))).within set
    | inr past ↦ absurd (has_none mask c small past set)
  ];
  named = λ c named.
      let below : c < s.cells = named_below s.cells script.ops c fits.within named in
      (all c (omega (arith, below, s.counted.limits.few_cells, end))).named named;
}

-- The words of a function, compared with a row; `m` was read from the shape, and `x` and `y` at the cell c.
module _ (f : ℕ → ℕ) (n m : ℕ) (is : m ≡ n) where
  pub given_at : (c : ℕ) → c < n → slice_index (map f (range_with_len 0 n)) c ≡ f c
  given_at c below = made_at f n c 0 below

  -- A word that differs, and words that are all equal.
  pub cell_off : (row : List ℕ) (c x y : ℕ) → c < m → x ≡ f c → y ≡ slice_index row c → x ≢ y → map f (range_with_len 0 n) ≡ row → ⊥
  cell_off row c x y below read of_row apart same =
      apart (read ∙ sym (given_at c (omega (arith, below, is))) ∙ ap (λ (xs : List ℕ). slice_index xs c) same ∙ sym of_row)

  pub cells_same : (row : List ℕ) (i : ℕ) → length row ≡ n → m ≤ i → ((c : ℕ) → c < i → f c ≡ slice_index row c) → map f (range_with_len 0 n) ≡ row
  cells_same row i long end all =
      same_number_lists (map f (range_with_len 0 n)) row (made_long f n ∙ sym long) (λ c within.
      let below : c < n = omega (arith, within, made_long f n) in
      given_at c below ∙ all c (omega (arith, below, is, end)))

  -- The same for two rows, either of which each word may match.
  abbrev pub IsEither : List ℕ → List ℕ → ℕ → Type 0
  IsEither before after_ c = (slice_index (map f (range_with_len 0 n)) c ≡ slice_index before c) ⊎ (slice_index (map f (range_with_len 0 n)) c ≡ slice_index after_ c)

  pub mixed_off : (before after_ : List ℕ) (c x y z : ℕ) → c < m → x ≡ f c → y ≡ slice_index before c → z ≡ slice_index after_ c → x ≢ y → x ≢ z
      → ((k : ℕ) → k < n → IsEither before after_ k) → ⊥
  mixed_off before after_ c x y z below read first second apart away all =
      let inside : c < n = omega (arith, below, is) in
      elim (all c inside) [
        | inl same ↦ apart (read ∙ sym (given_at c inside) ∙ same ∙ sym first)
        | inr same ↦ away (read ∙ sym (given_at c inside) ∙ same ∙ sym second)
      ]

  pub mixed_all : (before after_ : List ℕ) (i : ℕ) → m ≤ i → ((c : ℕ) → c < i → (f c ≡ slice_index before c) ⊎ (f c ≡ slice_index after_ c)) → (k : ℕ) → k < n → IsEither before after_ k
  mixed_all before after_ i end all k below = elim (all k (omega (arith, below, is, end))) [
    | inl same ↦ inl (given_at k below ∙ same)
    | inr same ↦ inr (given_at k below ∙ same)
  ]

  -- The same for the cells of a mask.
  pub shadow_off : (mask : ℕ) (row : List ℕ) (c x y : ℕ) → c < m → x ≡ f c → y ≡ slice_index row c → x ≢ y → mask_has_cell mask c ≡ true
      → ((k : ℕ) → k < n → mask_has_cell mask k ≡ true → slice_index (map f (range_with_len 0 n)) k ≡ slice_index row k) → ⊥
  shadow_off mask row c x y below read of_row apart set all =
      let inside : c < n = omega (arith, below, is) in
      apart (read ∙ sym (given_at c inside) ∙ all c inside set ∙ sym of_row)

  pub shadows_all : (mask : ℕ) (row : List ℕ) (i : ℕ) → m ≤ i → ((c : ℕ) → c < i → mask_has_cell mask c ≡ true → f c ≡ slice_index row c)
      → (k : ℕ) → k < n → mask_has_cell mask k ≡ true → slice_index (map f (range_with_len 0 n)) k ≡ slice_index row k
  shadows_all mask row i end all k below set = given_at k below ∙ all k (omega (arith, below, is, end)) set
