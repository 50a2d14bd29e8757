-- Where words lie: apart from each other, and within the table; the words of the table by their numbers.
use Rattle.std.proofs.Common.{◌≡◌, ◌≢◌, ℕ, zero, suc, ◌+◌, ◌-◌, ◌*◌, ◌/◌, ◌%◌, ◌<◌, ◌≤◌, List, [], ◌∷◌, ◌++◌, length, get_or, refl, sym, ◌∙◌, ap, inl, inr, arith, get_or-set_other, get_or-set_same}
use Rattle.std.specs.Prelude.{nat_lt, slice_index, slice_set}
use Rattle.std.proofs.Math.Nat.{div-mul-le_self, div-lt_iff_lt-mul}
use Rattle.std.proofs.lemmas.Nat.{le-div, div-mul-add, mod-mul-add, div-add-mod'}
use Rattle.std.proofs.lemmas.Bool.{cases_Bool, cases_eq, lt-ltb, le-ltb, ltb-true, ltb-false}
use Rattle.std.proofs.lemmas.List.{append_assoc, ext_get_or, length-append, length-set}
use Rattle.std.proofs.lemmas.List.FromFn.{get_or-map-range_with_len, length-map-range_with_len, map-range_with_len_more}
use mathlib.Core.Option.{some, some-injective, some-ne-none}
use lib.ListN.{get_elem?}
use Rattle.rme_words.specs.declared.shape.Shape.{Shape}
use Rattle.rme_words.specs.declared.address.Address.{Address}
use Rattle.rme_words.specs.Words.{IsShapeAddress, word_number, word_count, lock_block, lock_start}
use Rattle.rme_words.proofs.Places.{Spot, of_worker, of_lock, spot, number, IsInBlock, number-spot, spot-in_block, word_below}
use Rattle.rme_words.specs.declared.address.Address.TheVariants.{Node}
use Rattle.rme_service_steps.specs.Layout.{CacheLinePaddingLaw, half_of_lock, block_of_word, position_of_word, position_of_address, table_size, first_table_words, words_of_table}

pub some_words : (s : Shape) → 0 < lock_block s
some_words s = omega arith

pub of_worker_block : (s : Shape) (n : ℕ) → n < 31 * s.workers → block_of_word s n ≡ n / 31
unfolding block_of_word
of_worker_block s n own = rw (lt-ltb _ _ own) refl

-- Which half of its block a lock's word is in, where it is the k-th of all locks' words.
abbrev pub lock_half : Shape → ℕ → ℕ
lock_half s k = 2 * (k / lock_block s) + half_of_lock s (k % lock_block s)

pub of_lock_block : (s : Shape) (n : ℕ) → 31 * s.workers ≤ n → block_of_word s n ≡ s.workers + lock_half s (n - 31 * s.workers)
unfolding block_of_word
of_lock_block s n past = rw (le-ltb _ _ past) refl

pub first_half : (s : Shape) (o : ℕ) → o < s.leaves - 1 → half_of_lock s o ≡ 0
unfolding half_of_lock
first_half s o low = rw (lt-ltb _ _ low) refl

pub other_half : (s : Shape) (o : ℕ) → s.leaves - 1 ≤ o → half_of_lock s o ≡ 1
unfolding half_of_lock
other_half s o high = rw (le-ltb _ _ high) refl

half_small : (s : Shape) (o : ℕ) → half_of_lock s o ≤ 1
half_small s o = elim (cases_Bool (nat_lt o (s.leaves - 1))) [
  | inl low ↦ let is = first_half s o (ltb-true _ _ low) in omega (arith, is)
  | inr high ↦ let is = other_half s o (ltb-false _ _ high) in omega (arith, is)
]

half_mono : (s : Shape) (o p : ℕ) → o ≤ p → half_of_lock s o ≤ half_of_lock s p
half_mono s o p le = elim (cases_Bool (nat_lt p (s.leaves - 1))) [
  | inl low ↦
      let second = ltb-true _ _ low in
      let is = first_half s o (omega (arith, second, le)) in
      omega (arith, is)
  | inr high ↦
      let is = other_half s p (ltb-false _ _ high) in
      let small = half_small s o in
      omega (arith, is, small)
]

pub is_position : (s : Shape) (n : ℕ) → position_of_word s n ≡ n + 7 * (1 + block_of_word s n)
unfolding position_of_word
is_position s n = refl

div_mono : (i j k : ℕ) → 0 < k → i ≤ j → i / k ≤ j / k
div_mono i j k positive le = le-div (i / k) j k positive (omega (arith, div-mul-le_self i k, le))

lock_half_mono : (s : Shape) (i j : ℕ) → i ≤ j → lock_half s i ≤ lock_half s j
lock_half_mono s i j le =
    let b = lock_block s in
    let whole = div_mono i j b (some_words s) le in
    let small = half_small s (i % b) in
    elim (cases_eq (i / b) (j / b)) [
      | inl same ↦
          let first = div-add-mod' i b in
          let second = div-add-mod' j b in
          let rows = ap (λ (q : ℕ). q * b) same in
          let half = half_mono s (i % b) (j % b) (omega (arith, first, second, rows, le)) in
          omega (arith, same, half)
      | inr other ↦ omega (arith, whole, other, small)
    ]

-- Blocks are in the order of numbers.
block_mono : (s : Shape) (i j : ℕ) → i ≤ j → block_of_word s i ≤ block_of_word s j
block_mono s i j le = elim (cases_Bool (nat_lt i (31 * s.workers))) [
  | inl own ↦ elim (cases_Bool (nat_lt j (31 * s.workers))) [
    | inl also ↦
        let first = of_worker_block s i (ltb-true _ _ own) in
        let second = of_worker_block s j (ltb-true _ _ also) in
        omega (arith, first, second, le)
    | inr past ↦
        let low = ltb-true _ _ own in
        let first = of_worker_block s i low in
        let second = of_lock_block s j (ltb-false _ _ past) in
        omega (arith, first, second, low)
  ]
  | inr past ↦
      let low = ltb-false _ _ past in
      let high : 31 * s.workers ≤ j = omega (arith, low, le) in
      let first = of_lock_block s i low in
      let second = of_lock_block s j high in
      let mono = lock_half_mono s (i - 31 * s.workers) (j - 31 * s.workers) (omega (arith, le)) in
      omega (arith, first, second, mono)
]

-- A word of a larger number has a larger position.
behind : (s : Shape) (i j : ℕ) → i < j → position_of_word s i < position_of_word s j
behind s i j less =
    let mono = block_mono s i j (omega (arith, less)) in
    let first = is_position s i in
    let second = is_position s j in
    omega (arith, mono, first, second, less)

pub apart : (s : Shape) (i j : ℕ) → i ≢ j → position_of_word s i ≢ position_of_word s j
apart s i j differ e = elim (cases_Bool (nat_lt i j)) [
  | inl less ↦
      let first = behind s i j (ltb-true _ _ less) in
      absurd (omega (arith, first, e))
  | inr not ↦
      let low = ltb-false _ _ not in
      let second = behind s j i (elim (cases_eq i j) [
        | inl same ↦ absurd (differ same)
        | inr other ↦ omega (arith, low, other)
      ]) in
      absurd (omega (arith, second, e))
]

pub gaps : CacheLinePaddingLaw
gaps s i j less = elim (cases_Bool (nat_lt i j)) [
  | inl first ↦
      let low = ltb-true _ _ first in
      let one = is_position s i in
      let two = is_position s j in
      omega (arith, low, one, two, less)
  | inr not ↦
      let mono = block_mono s j i (ltb-false _ _ not) in
      absurd (omega (arith, mono, less))
]

-- There is a block for each worker, and two for each lock.
pub few_blocks : (s : Shape) (n : ℕ) → n < word_count s → block_of_word s n < s.workers + 2 * s.locks
few_blocks s n below = elim (cases_Bool (nat_lt n (31 * s.workers))) [
  | inl own ↦
      let low = ltb-true _ _ own in
      let is = of_worker_block s n low in
      omega (arith, is, low)
  | inr past ↦
      let low = ltb-false _ _ past in
      let is = of_lock_block s n low in
      let inside : (n - 31 * s.workers) / lock_block s < s.locks = (div-lt_iff_lt-mul (some_words s)).1 (omega (arith, below, low)) in
      let small = half_small s ((n - 31 * s.workers) % lock_block s) in
      omega (arith, is, inside, small)
]

pub inside : (s : Shape) (n : ℕ) → n < word_count s → position_of_word s n < table_size s
inside s n below =
    let few = few_blocks s n below in
    let is = is_position s n in
    omega (arith, few, is, below)

-- The block of an address.
abbrev pub block_in : Shape → Spot → ℕ
block_in s (of_worker w o) = w
block_in s (of_lock l o) = s.workers + (2 * l + half_of_lock s o)

block_is : (s : Shape) (p : Spot) → IsInBlock s p → block_of_word s (number s p) ≡ block_in s p
block_is s (of_worker w o) h =
    let is = of_worker_block s (31 * w + o) (omega (arith, h.0, h.1)) in
    omega (arith, is, h.1)
block_is s (of_lock l o) h =
    let is = of_lock_block s (lock_start s l + o) (omega arith) in
    let rest : lock_start s l + o - 31 * s.workers ≡ l * lock_block s + o = omega arith in
    is ∙ ap (λ (k : ℕ). s.workers + lock_half s k) rest
    ∙ ap (λ (k : ℕ). s.workers + (2 * k + half_of_lock s ((l * lock_block s + o) % lock_block s))) (div-mul-add l (lock_block s) o h.1)
    ∙ ap (λ (k : ℕ). s.workers + (2 * l + half_of_lock s k)) (mod-mul-add l (lock_block s) o h.1)

address_block : (s : Shape) (a : Address) → IsShapeAddress s a → block_of_word s (word_number s a) ≡ block_in s (spot s a)
address_block s a within = ap (block_of_word s) (sym (number-spot s a)) ∙ block_is s (spot s a) (spot-in_block s a within)

pub numbered : (s : Shape) (a : Address) (n : ℕ) → n ≡ word_number s a → IsShapeAddress s a → n < word_count s
numbered s a n is within =
    let below = word_below s a within in
    omega (arith, below, is)

-- The word of an address is after the gaps before its block.
pub lies_there : (s : Shape) (a : Address) (n block at : ℕ) → IsShapeAddress s a → n ≡ word_number s a → block ≡ block_in s (spot s a) → at ≡ n + 7 * (1 + block) → at ≡ position_of_address s a
lies_there s a n block at within is its laid =
    let here = address_block s a within in
    let there = is_position s (word_number s a) in
    omega (arith, here, there, is, its, laid)

-- The block of a lock's node, and of another word of it.
pub node_block : (s : Shape) (l v : ℕ) → 1 ≤ v → v < s.leaves → s.workers + 2 * l ≡ block_in s (spot s (Node l v))
node_block s l v low few =
    let is = first_half s (v - 1) (omega (arith, low, few)) in
    omega (arith, is)

pub rest_block : (s : Shape) (l o : ℕ) → s.leaves - 1 ≤ o → s.workers + (2 * l + 1) ≡ block_in s (of_lock l o)
rest_block s l o high =
    let is = other_half s o high in
    omega (arith, is)

-- The words of a table by their numbers.
module _ (s : Shape) (words : List ℕ) where
  pub bank_count : length (words_of_table s words) ≡ word_count s
  bank_count = length-map-range_with_len (λ (n : ℕ). slice_index words (position_of_word s n)) 0 (word_count s)

  pub bank_index : (n : ℕ) → n < word_count s → slice_index (words_of_table s words) n ≡ slice_index words (position_of_word s n)
  bank_index n below = get_or-map-range_with_len (λ (k : ℕ). slice_index words (position_of_word s k)) 0 (word_count s) n n 0 below (omega arith)

pub bank_set : (s : Shape) (words : List ℕ) (n v : ℕ) → length words ≡ table_size s → n < word_count s
    → words_of_table s (slice_set words (position_of_word s n) v) ≡ slice_set (words_of_table s words) n v
bank_set s words n v long below = ext_get_or 0 _ _ (bank_count s after ∙ sym (bank_count s words) ∙ sym (length-set (words_of_table s words) n v)) each
  where
    after : List ℕ
    after = slice_set words (position_of_word s n) v

    each : (k : ℕ) → k < length (words_of_table s after) → get_or (words_of_table s after) k 0 ≡ get_or (slice_set (words_of_table s words) n v) k 0
    each k short =
        let count = bank_count s after in
        let low : k < word_count s = omega (arith, short, count) in
        bank_index s after k low ∙ elim (cases_eq k n) [
          | inl same ↦
              let there = inside s n below in
              let bank = bank_count s words in
              ap (λ (i : ℕ). get_or after (position_of_word s i) 0) same ∙ get_or-set_same words (position_of_word s n) v 0 (omega (arith, there, long))
              ∙ sym (get_or-set_same (words_of_table s words) n v 0 (omega (arith, bank, below))) ∙ ap (λ (i : ℕ). get_or (slice_set (words_of_table s words) n v) i 0) (sym same)
          | inr other ↦
              get_or-set_other words (position_of_word s n) (position_of_word s k) v 0 (apart s k n other) ∙ sym (bank_index s words k low)
              ∙ sym (get_or-set_other (words_of_table s words) n k v 0 other)
        ]

-- One word of the bank more.
elem_index : (l : List ℕ) (i v : ℕ) → get_elem? l i ≡ some v → slice_index l i ≡ v
elem_index [] i v at = absurd (some-ne-none v (sym at))
elem_index (x ∷ l) zero v at = some-injective x v at
elem_index (x ∷ l) (suc i) v at = elem_index l i v at

pub front_long : (s : Shape) (items old words : List ℕ) (n : ℕ) → words ≡ old ++ first_table_words s items n → length words ≡ length old + n
front_long s items old words n is =
    let all = ap (λ (l : List ℕ). length l) is ∙ length-append old (first_table_words s items n) in
    let front = length-map-range_with_len (λ (k : ℕ). slice_index items (position_of_word s k)) 0 n in
    omega (arith, all, front)

pub word_next : (s : Shape) (items old words later : List ℕ) (n at v : ℕ) → words ≡ old ++ first_table_words s items n → at ≡ position_of_word s n → get_elem? items at ≡ some v → later ≡ words ++ v ∷ []
    → later ≡ old ++ first_table_words s items (n + 1)
word_next s items old words later n at v is lies here grows =
    let more = map-range_with_len_more (λ (k : ℕ). slice_index items (position_of_word s k)) 0 n n (omega arith) in
    grows ∙ ap (λ (xs : List ℕ). xs ++ v ∷ []) is ∙ append_assoc old (first_table_words s items n) (v ∷ [])
    ∙ ap (λ (x : ℕ). old ++ (first_table_words s items n ++ x ∷ [])) (sym (ap (slice_index items) (sym lies) ∙ elem_index items at v here)) ∙ ap (λ (xs : List ℕ). old ++ xs) (sym more)
