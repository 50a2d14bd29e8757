-- The positions of the masks among the words; the mask that the words before it imply is the one of version 1.
use Rattle.std.proofs.Common.{◌≡◌, ℕ, zero, suc, ◌+◌, ◌-◌, ◌*◌, ◌/◌, ◌%◌, ◌^◌, ◌<◌, ◌≤◌, Bool, true, false, cond, nat_lt, ◌==◌, List, length, take, get_or, refl, sym, ap, ◌∙◌, arith, inl, inr}
use Rattle.std.specs.Prelude.{slice_index}
use Rattle.std.specs.List.{list_any, range_with_len}
use Rattle.std.proofs.lemmas.Bool.{and_parts, and_from, or_cases, eqb-true, eq-eqb, ne_eqb, leb-true, le-leb, lt-ltb}
use Rattle.std.proofs.lemmas.Nat.{mod-mul-add, div-add-mod', div_below, mul-add-lt}
use Rattle.std.proofs.lemmas.List.{length-take-le, get_or-take}
use Rattle.std.proofs.lemmas.List.Folds.{list_any_at}
use Rattle.std.proofs.lemmas.List.FromFn.{length-range_with_len, get_or-range_with_len}
use Rattle.rme_words.specs.declared.shape.Shape.{Shape}
use Rattle.rme_words.specs.declared.address.Address.TheVariants.{Turn, Mask}
use Rattle.rme_words.specs.Words.{lock_block, word_count, word_number, read_word_at}
use Rattle.rme_core_image.specs.Images.{is_mask_word, version_omits_word, version_1_mask}
use Rattle.rme_core_image.specs.Parsing.{is_end_of_block, implied_mask}

some_leaf : (shape : Shape) → 1 ≤ shape.leaves
some_leaf shape = omega (arith, shape.counted.limits.some_worker, shape.counted.tree.enough)

-- ---- only numbers: `start` is where the locks' blocks begin, `before` the number of words of the earlier locks

behind : (start before leaves cells : ℕ) → start ≤ start + before + (leaves + 1 + 2 * cells)
behind start before leaves cells = omega arith

offset : (start before leaves cells : ℕ) → start + before + (leaves + 1 + 2 * cells) - start ≡ before + (leaves + 2 + 2 * cells - 1)
offset start before leaves cells = omega arith

back : (start before leaves cells i rest : ℕ) → start ≤ i → before + rest ≡ i - start → rest ≡ leaves + 2 + 2 * cells - 1 → i ≡ start + before + (leaves + 1 + 2 * cells)
back start before leaves cells i rest le whole last = omega (arith, le, whole, last)

turn_place : (start before leaves cells : ℕ) → 1 ≤ leaves → start + before + (leaves + 1 + 2 * cells) - (2 + 2 * cells) ≡ start + before + (leaves - 1)
turn_place start before leaves cells some = omega (arith, some)

turn_first : (start before leaves cells : ℕ) → 1 ≤ leaves → start + before + (leaves - 1) < start + before + (leaves + 1 + 2 * cells)
turn_first start before leaves cells some = omega (arith, some)

room : (start before leaves cells : ℕ) → 1 ≤ leaves → 2 + 2 * cells ≤ start + before + (leaves + 1 + 2 * cells)
room start before leaves cells some = omega (arith, some)

within : (start lock locks block rest : ℕ) → lock < locks → rest < block → start + lock * block + rest < start + locks * block
within start lock locks block rest few short = omega (arith, mul-add-lt lock block rest locks few short)

-- ---- the masks of a shape

pub mask_told : (shape : Shape) (lock : ℕ) → lock < shape.locks → is_mask_word shape (word_number shape (Mask lock)) ≡ true
unfolding is_mask_word
mask_told shape lock below =
    let long : lock < length (range_with_len 0 shape.locks) = rw (length-range_with_len 0 shape.locks) below in
    let here : get_or (range_with_len 0 shape.locks) lock 0 ≡ lock = get_or-range_with_len 0 shape.locks lock 0 below ∙ omega arith in
    list_any_at (λ (l : ℕ). word_number shape (Mask l) == word_number shape (Mask lock)) (range_with_len 0 shape.locks) lock 0 long
    (eq-eqb _ _ (ap (λ (l : ℕ). word_number shape (Mask l)) here))

some_of : (place : ℕ → ℕ) (i start count : ℕ) → list_any (λ (k : ℕ). place k == i) (range_with_len start count) ≡ true → (k : ℕ) × (k < start + count) × (i ≡ place k)
some_of place i start zero e = absurd cc
some_of place i start (suc count) e =
    elim (or_cases (place start == i) (list_any (λ (k : ℕ). place k == i) (range_with_len (start + 1) count)) e) [
      | inl here ↦ (start, omega arith, sym (eqb-true (place start) i here))
      | inr there ↦ let later = some_of place i (start + 1) count there in (later.0, omega (arith, later.1), later.2)
    ]

pub mask_found : (shape : Shape) (i : ℕ) → is_mask_word shape i ≡ true → (lock : ℕ) × (lock < shape.locks) × (i ≡ word_number shape (Mask lock))
unfolding is_mask_word
mask_found shape i e = let found = some_of (λ (lock : ℕ). word_number shape (Mask lock)) i 0 shape.locks e in (found.0, omega (arith, found.1), found.2)

ends_told : (shape : Shape) (lock : ℕ) → is_end_of_block shape (word_number shape (Mask lock)) ≡ true
unfolding is_end_of_block
ends_told shape lock =
    let short : lock_block shape - 1 < lock_block shape = omega arith in
    let last : (word_number shape (Mask lock) - 31 * shape.workers) % lock_block shape ≡ lock_block shape - 1 =
    ap (λ (n : ℕ). n % lock_block shape) (offset (31 * shape.workers) (lock * lock_block shape) shape.leaves shape.cells) ∙ mod-mul-add lock (lock_block shape) (lock_block shape - 1) short in
    and_from _ _ (le-leb _ _ (behind (31 * shape.workers) (lock * lock_block shape) shape.leaves shape.cells)) (eq-eqb _ _ last)

ends_found : (shape : Shape) (i : ℕ) → i < word_count shape → is_end_of_block shape i ≡ true → (lock : ℕ) × (lock < shape.locks) × (i ≡ word_number shape (Mask lock))
unfolding is_end_of_block
ends_found shape i inside e =
    let parts = and_parts _ _ e in
    let le : 31 * shape.workers ≤ i = leb-true _ _ parts.0 in
    let n : ℕ = i - 31 * shape.workers in
    let last : n % lock_block shape ≡ lock_block shape - 1 = eqb-true (n % lock_block shape) (lock_block shape - 1) parts.1 in
    let few : n < shape.locks * lock_block shape = omega (arith, inside, le) in
    (n / lock_block shape, div_below n (lock_block shape) shape.locks (omega arith) few, back (31 * shape.workers) (n / lock_block shape * lock_block shape) shape.leaves shape.cells i (n % lock_block shape) le (div-add-mod' n (lock_block shape)) last)

-- The masks are the last words of the locks' blocks.
pub ends_masks : (shape : Shape) (i : ℕ) → i < word_count shape → is_end_of_block shape i ≡ is_mask_word shape i
ends_masks shape i inside =
    same_tests (is_end_of_block shape i) (is_mask_word shape i)
    (λ e. let found = ends_found shape i inside e in ap (λ (n : ℕ). is_mask_word shape n) found.2 ∙ mask_told shape found.0 found.1)
    (λ e. let found = mask_found shape i e in ap (λ (n : ℕ). is_end_of_block shape n) found.2 ∙ ends_told shape found.0)
  where
    same_tests : (a b : Bool) → (a ≡ true → b ≡ true) → (b ≡ true → a ≡ true) → a ≡ b
    same_tests true b f g = sym (f refl)
    same_tests false true f g = g refl
    same_tests false false f g = refl

pub skips_old : (version : ℕ) (shape : Shape) (i : ℕ) → version ≡ 1 → i < word_count shape → is_end_of_block shape i ≡ version_omits_word version shape i
unfolding version_omits_word
skips_old version shape i old inside = let t : (version == 1) ≡ true = eq-eqb version 1 old in rw t (ends_masks shape i inside)

pub skips_new : (version : ℕ) (shape : Shape) (i : ℕ) → (version ≡ 1 → ⊥) → (version == 1) ≡ version_omits_word version shape i
unfolding version_omits_word
skips_new version shape i new = let t : (version == 1) ≡ false = ne_eqb version 1 new in rw t refl

pub mask_within : (shape : Shape) (lock : ℕ) → lock < shape.locks → word_number shape (Mask lock) < word_count shape
mask_within shape lock below = within (31 * shape.workers) lock shape.locks (lock_block shape) (shape.leaves + 1 + 2 * shape.cells) below (omega arith)

-- The turn comes before its mask.
pub mask_room : (version : ℕ) (shape : Shape) (i : ℕ) → version_omits_word version shape i ≡ true → 2 + 2 * shape.cells ≤ i
unfolding version_omits_word
mask_room version shape i e =
    let found = mask_found shape i (and_parts _ _ e).1 in
    rw found.2 (room (31 * shape.workers) (found.0 * lock_block shape) shape.leaves shape.cells (some_leaf shape))

pub read_turn : (shape : Shape) (words : List ℕ) (lock : ℕ) → lock < shape.locks → read_word_at shape words (Turn lock) ≡ slice_index words (word_number shape (Turn lock))
unfolding read_word_at
read_turn shape words lock below = let t : nat_lt lock shape.locks ≡ true = lt-ltb lock shape.locks below in rw t refl

pub read_mask : (shape : Shape) (words : List ℕ) (lock : ℕ) → lock < shape.locks → read_word_at shape words (Mask lock) ≡ slice_index words (word_number shape (Mask lock))
unfolding read_word_at
read_mask shape words lock below = let t : nat_lt lock shape.locks ≡ true = lt-ltb lock shape.locks below in rw t refl

-- The mask that the words before it imply is the one of the lock's turn.
pub told_is_old : (shape : Shape) (words : List ℕ) (lock : ℕ) → lock < shape.locks → length words ≡ word_count shape → implied_mask shape (take (word_number shape (Mask lock)) words) ≡ version_1_mask shape words lock
unfolding implied_mask
told_is_old shape words lock below counted =
    let i : ℕ = word_number shape (Mask lock) in
    let j : ℕ = word_number shape (Turn lock) in
    let fits : i < word_count shape = mask_within shape lock below in
    let long : length (take i words) ≡ i = length-take-le i words (omega (arith, fits, counted)) in
    let place : length (take i words) - (2 + 2 * shape.cells) ≡ j =
    ap (λ (n : ℕ). n - (2 + 2 * shape.cells)) long ∙ turn_place (31 * shape.workers) (lock * lock_block shape) shape.leaves shape.cells (some_leaf shape) in
    let turn : slice_index (take i words) (length (take i words) - (2 + 2 * shape.cells)) ≡ read_word_at shape words (Turn lock) =
    ap (λ (n : ℕ). slice_index (take i words) n) place
    ∙ get_or-take i words j 0 (turn_first (31 * shape.workers) (lock * lock_block shape) shape.leaves shape.cells (some_leaf shape))
    ∙ sym (read_turn shape words lock below) in
    ap (λ (n : ℕ). cond (n % 2 == 1) (2 ^ shape.cells - 1) 0) turn
