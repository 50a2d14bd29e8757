-- The mask of a script as one number, and the next cell of a mask.
use Rattle.std.proofs.Common.{◌≡◌, ℕ, ◌+◌, ◌^◌, List, [], ◌∷◌, refl, sym, ◌∙◌, inl, inr}
use Rattle.std.specs.Prelude.{Bool, true, false, ◌==◌, ◌||◌, Option, Some, None, MatchOption, bit_or, max}
use Rattle.std.specs.Int.{bit_at}
use Rattle.std.proofs.lemmas.Bool.{cases_eq, eq-eqb, ne_eqb}
use Rattle.std.proofs.lemmas.Nat.Bits.{bit_at_or, bit_at-pow_same, bit_at-pow_other, bit_at-zero, same_from_bits}
use Rattle.rme_script.specs.declared.op.Op.{Op}
use Rattle.rme_script.specs.declared.op.Op.TheVariants.{Get, Set, Add, Copy, Swap}
use Rattle.rme_script.specs.Cells.{op_names_cell, ops_name_cell, bit_of, IsMaskOfOps, mask_cells_from}
use Rattle.rme_program.specs.Masks.{bits_named, mask_of, first_cell}

bit_of-or : (a b : Bool) → max (bit_of a) (bit_of b) ≡ bit_of (a || b)
bit_of-or true true = refl
bit_of-or true false = refl
bit_of-or false true = refl
bit_of-or false false = refl

one : (c x : ℕ) → bit_at (2 ^ c) x ≡ bit_of (c == x)
one c x = elim (cases_eq c x) [
  | inl same ↦ rw (eq-eqb c x same, same) (bit_at-pow_same x)
  | inr other ↦ rw (ne_eqb c x other) (bit_at-pow_other c x (λ e. other (sym e)))
]

two : (a b x : ℕ) → bit_at (bit_or (2 ^ a) (2 ^ b)) x ≡ bit_of ((a == x) || (b == x))
two a b x = rw (bit_at_or, one a x, one b x) (bit_of-or (a == x) (b == x))

named_bit : (o : Op) (x : ℕ) → bit_at (bits_named o) x ≡ bit_of (op_names_cell o x)
named_bit (Get c) x = one c x
named_bit (Set c v) x = one c x
named_bit (Add c v) x = one c x
named_bit (Copy a b) x = two a b x
named_bit (Swap a b) x = two a b x

-- `mask_of` is the mask of the script.
pub mask_of-is_mask : (ops : List Op) → IsMaskOfOps (mask_of ops) ops
unfolding mask_of
mask_of-is_mask [] x = bit_at-zero x
mask_of-is_mask (o ∷ os) x =
    rw (bit_at_or, named_bit o x, mask_of-is_mask os x) (bit_of-or (op_names_cell o x) (ops_name_cell os x))

-- A script has only one mask.
pub same_mask : (mask : ℕ) (ops : List Op) → IsMaskOfOps mask ops → mask ≡ mask_of ops
same_mask mask ops is = same_from_bits mask (mask_of ops) (λ x. is x ∙ sym (mask_of-is_mask ops x))

-- The first of the remaining cells, if found, is the first cell.
pub first_is : (found : Option ℕ) (mask from cells : ℕ)
    → MatchOption found (mask_cells_from mask from cells ≡ []) (λ c. mask_cells_from mask from cells ≡ c ∷ mask_cells_from mask (c + 1) cells)
    → found ≡ first_cell mask from cells
unfolding first_cell
first_is None mask from cells e = rw e refl
first_is (Some c) mask from cells e = rw e refl
