-- Whether bytes are equal, told from the bits in which they differ.
use Rattle.std.proofs.Common.{◌≡◌, ℕ, ◌+◌, ◌%◌, ◌/◌, ◌^◌, ◌<◌, ◌≤◌, ◌↔◌, ◌==◌, List, length, get_or, bit_or, bit_xor, sym, ap, ◌∙◌, refl, IsTrue, eq-eqb, below_more, arith}
use Rattle.std.specs.Int.Bits.{xor_self}
use Rattle.std.proofs.lemmas.Bool.{eqb-true}
use Rattle.std.proofs.lemmas.List.{ext_get_or}
use Rattle.std.proofs.lemmas.Nat.Bits.{same_from_bits, bit_at_or, bit_at_xor, bit_at-zero, bit_at-lt}

-- two numbers are equal if they differ in no bit
same_from_xor : (a b : ℕ) → bit_xor a b ≡ 0 → a ≡ b
same_from_xor a b none =
    same_from_bits a b (λ i. omega (arith, sym (bit_at_xor a b i) ∙ ap (λ n. n / 2 ^ i % 2) none ∙ bit_at-zero i, bit_at-lt a i, bit_at-lt b i))

-- and differ in none if they are equal
xor_from_same : (a b : ℕ) → a ≡ b → bit_xor a b ≡ 0
xor_from_same a b same = ap (λ n. bit_xor n b) same ∙ xor_self b

-- two numbers have no bit together only if neither has one
none_of_two : (a b : ℕ) → bit_or a b ≡ 0 → (a ≡ 0) × (b ≡ 0)
none_of_two a b none = (
  same_from_bits a 0 (λ i. omega (arith, sym (bit_at_or a b i) ∙ ap (λ n. n / 2 ^ i % 2) none ∙ bit_at-zero i, bit_at-zero i)),
  same_from_bits b 0 (λ i. omega (arith, sym (bit_at_or a b i) ∙ ap (λ n. n / 2 ^ i % 2) none ∙ bit_at-zero i, bit_at-zero i)),
)

-- The bytes below an index differ in no bit exactly if they are equal.
pub record AgreeBelow (left right : List ℕ) (i difference : ℕ) : Type 0 where
  pub same : difference ≡ 0 → (k : ℕ) → k < i → get_or left k 0 ≡ get_or right k 0
  pub none : ((k : ℕ) → k < i → get_or left k 0 ≡ get_or right k 0) → difference ≡ 0

pub agree_none : (left right : List ℕ) → AgreeBelow left right 0 0
agree_none left right = record { same = λ none k below. absurd (omega arith); none = λ all. refl }

pub agree_more : (left right : List ℕ) (i difference : ℕ) → AgreeBelow left right i difference
    → AgreeBelow left right (i + 1) (bit_or difference (bit_xor (get_or left i 0) (get_or right i 0)))
agree_more left right i difference so =
    let here = bit_xor (get_or left i 0) (get_or right i 0) in
    record {
      same = λ none.
          let both = none_of_two difference here none in
          below_more (λ k. get_or left k 0 ≡ get_or right k 0) i (so.same both.0) (same_from_xor (get_or left i 0) (get_or right i 0) both.1);
      none = λ all.
          let before : difference ≡ 0 = so.none (λ k below. all k (omega arith)) in
          let now : here ≡ 0 = xor_from_same (get_or left i 0) (get_or right i 0) (all i (omega arith)) in
          ap (λ n. bit_or n here) before ∙ ap (λ n. bit_or 0 n) now;
    }

pub agree_all : (left right : List ℕ) (i difference : ℕ) → length left ≤ i → length left ≡ length right
    → AgreeBelow left right i difference → IsTrue (difference == 0) ↔ (left ≡ right)
agree_all left right i difference past same_length so = (
  λ is_none. ext_get_or 0 left right same_length (λ k within. so.same (eqb-true difference 0 is_none) k (omega arith)),
  λ same. eq-eqb difference 0 (so.none (λ k below. ap (λ (xs : List ℕ). get_or xs k 0) same)),
)
