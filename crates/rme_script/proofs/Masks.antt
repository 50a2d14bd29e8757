-- Bits of masks: the mask of one operation, and of one more operation.
use Rattle.std.proofs.Common.{◌≡◌, ℕ, ◌+◌, ◌≤◌, Some, length, take, slice_get, subst, ◌^◌, max, Bool, true, false, ◌==◌, ◌||◌, bit_or, List, [], ◌∷◌, ◌++◌, refl, sym, ap, ◌∙◌, inl, inr}
use Rattle.std.specs.Int.{bit_at}
use Rattle.std.proofs.lemmas.Bool.{cases_eq, eq-eqb, ne_eqb}
use Rattle.std.proofs.lemmas.Nat.Bits.{bit_at_or, bit_at-pow_same, bit_at-pow_other, same_from_bits}
use Rattle.std.proofs.lemmas.List.{take_all}
use Rattle.std.proofs.lemmas.List.Folds.{list_any-append}
use Rattle.rme_script.specs.declared.op.Op.{Op}
use Rattle.rme_script.specs.Cells.{op_names_cell, ops_name_cell, bit_of, IsMaskOfOps}
use Rattle.rme_script.proofs.Lists.{take_next}

or_false : (x : Bool) → (x || false) ≡ x
or_false true = refl
or_false false = refl

bits_or : (x y : Bool) → max (bit_of x) (bit_of y) ≡ bit_of (x || y)
bits_or true true = refl
bits_or true false = refl
bits_or false true = refl
bits_or false false = refl

bit_one : (c x : ℕ) → bit_at (2 ^ c) x ≡ bit_of (c == x)
bit_one c x = elim (cases_eq x c) [
  | inl q ↦ let same : (c == x) ≡ true = eq-eqb c x (sym q) in rw (same, q) (bit_at-pow_same c)
  | inr n ↦ let other : (c == x) ≡ false = ne_eqb c x (λ e. n (sym e)) in rw other (bit_at-pow_other c x n)
]

pub one_bit : (c x : ℕ) → bit_at (2 ^ c) x ≡ bit_of ((c == x) || false)
one_bit c x = bit_one c x ∙ ap (λ (b : Bool). bit_of b) (sym (or_false (c == x)))

pub two_bits : (a b x : ℕ) → bit_at (bit_or (2 ^ a) (2 ^ b)) x ≡ bit_of (((a == x) || (b == x)) || false)
two_bits a b x =
    bit_at_or (2 ^ a) (2 ^ b) x
    ∙ ap (λ (m : ℕ). max m (bit_at (2 ^ b) x)) (bit_one a x)
    ∙ ap (λ (m : ℕ). max (bit_of (a == x)) m) (bit_one b x)
    ∙ bits_or (a == x) (b == x)
    ∙ ap (λ (t : Bool). bit_of t) (sym (or_false ((a == x) || (b == x))))

mask_next : (mask more : ℕ) (ops : List Op) (o : Op) → IsMaskOfOps mask ops → IsMaskOfOps more (o ∷ []) → IsMaskOfOps (bit_or mask more) (ops ++ o ∷ [])
mask_next mask more ops o h k c =
    bit_at_or mask more c
    ∙ ap (λ (m : ℕ). max m (bit_at more c)) (h c)
    ∙ ap (λ (m : ℕ). max (bit_of (ops_name_cell ops c)) m) (k c)
    ∙ bits_or (ops_name_cell ops c) (ops_name_cell (o ∷ []) c)
    ∙ ap (λ (t : Bool). bit_of t) (sym (list_any-append (λ (p : Op). op_names_cell p c) ops (o ∷ [])))

-- The loop of `named`.
pub mask_step : (mask more i : ℕ) (ops : List Op) (o : Op) → slice_get ops i ≡ Some o → IsMaskOfOps mask (take i ops) → IsMaskOfOps more (o ∷ []) → IsMaskOfOps (bit_or mask more) (take (i + 1) ops)
mask_step mask more i ops o here h k =
    let P : List Op → Type 0 = λ os. IsMaskOfOps (bit_or mask more) os in
    subst P (sym (take_next ops i o here)) (mask_next mask more (take i ops) o h k)

pub mask_end : (mask i : ℕ) (ops : List Op) → length ops ≤ i → IsMaskOfOps mask (take i ops) → IsMaskOfOps mask ops
mask_end mask i ops past h =
    let P : List Op → Type 0 = λ os. IsMaskOfOps mask os in
    subst P (take_all i ops past) h

-- The mask is unique.
pub mask_unique : (mask other : ℕ) (ops : List Op) → IsMaskOfOps mask ops → IsMaskOfOps other ops → mask ≡ other
mask_unique mask other ops m k = same_from_bits mask other (λ c. m c ∙ sym (k c))
