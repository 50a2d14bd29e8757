-- The effect of a load and a store, from the list of words to the memory as a function.
use Rattle.std.proofs.Common.{◌≡◌, ◌≢◌, ℕ, ◌<◌, List, length, get_or, refl, sym, ap, subst, ◌∙◌, inl, inr, arith, get_or-set_other, get_or-set_same}
use Rattle.std.specs.Prelude.{true, false, slice_index, slice_set}
use Rattle.std.proofs.lemmas.Bool.{cases_Bool, lt-ltb, ltb-true, and_parts}
use Rattle.rme_words.specs.declared.shape.Shape.{Shape}
use Rattle.rme_words.specs.declared.address.Address.{Address}
use Rattle.rme_words.specs.declared.address.Address.TheVariants.{Begun, Done, Reply, Place, At, SlateLock, SlateLen, SlateWord, Node, Turn, Cell, Shadow, ShadowReply, Mask}
use Rattle.std.proofs.lemmas.List.{get_or_default}
use Rattle.rme_words.specs.Words.{IsShapeAddress, is_shape_address, word_number, word_count, read_word_at, StoreEffect, Memory, memory_of}
use Rattle.rme_words.proofs.Places.{same_address, word_below}

pub of_shape-true : (s : Shape) (a : Address) → IsShapeAddress s a → is_shape_address s a ≡ true
of_shape-true s (Begun w) h = lt-ltb _ _ h
of_shape-true s (Done w) h = lt-ltb _ _ h
of_shape-true s (Reply w) h = lt-ltb _ _ h
of_shape-true s (Place w) h = lt-ltb _ _ h
of_shape-true s (At w) h = lt-ltb _ _ h
of_shape-true s (SlateLock w) h = lt-ltb _ _ h
of_shape-true s (SlateLen w) h = lt-ltb _ _ h
of_shape-true s (SlateWord w i k) h = rw (lt-ltb _ _ h.0, lt-ltb _ _ h.1, lt-ltb _ _ h.2) refl
of_shape-true s (Node l v) h = rw (lt-ltb _ _ h.0, lt-ltb _ _ h.1, lt-ltb _ _ h.2) refl
of_shape-true s (Turn l) h = lt-ltb _ _ h
of_shape-true s (Cell l c) h = rw (lt-ltb _ _ h.0, lt-ltb _ _ h.1) refl
of_shape-true s (Shadow l c) h = rw (lt-ltb _ _ h.0, lt-ltb _ _ h.1) refl
of_shape-true s (ShadowReply l) h = lt-ltb _ _ h
of_shape-true s (Mask l) h = lt-ltb _ _ h

pub true-of_shape : (s : Shape) (a : Address) → is_shape_address s a ≡ true → IsShapeAddress s a
true-of_shape s (Begun w) h = ltb-true _ _ h
true-of_shape s (Done w) h = ltb-true _ _ h
true-of_shape s (Reply w) h = ltb-true _ _ h
true-of_shape s (Place w) h = ltb-true _ _ h
true-of_shape s (At w) h = ltb-true _ _ h
true-of_shape s (SlateLock w) h = ltb-true _ _ h
true-of_shape s (SlateLen w) h = ltb-true _ _ h
true-of_shape s (SlateWord w i k) h = let p = and_parts _ _ h in let q = and_parts _ _ p.0 in (ltb-true _ _ q.0, ltb-true _ _ q.1, ltb-true _ _ p.1)
true-of_shape s (Node l v) h = let p = and_parts _ _ h in let q = and_parts _ _ p.0 in (ltb-true _ _ q.0, ltb-true _ _ q.1, ltb-true _ _ p.1)
true-of_shape s (Turn l) h = ltb-true _ _ h
true-of_shape s (Cell l c) h = let p = and_parts _ _ h in (ltb-true _ _ p.0, ltb-true _ _ p.1)
true-of_shape s (Shadow l c) h = let p = and_parts _ _ h in (ltb-true _ _ p.0, ltb-true _ _ p.1)
true-of_shape s (ShadowReply l) h = ltb-true _ _ h
true-of_shape s (Mask l) h = ltb-true _ _ h

-- At an address of the shape a memory reads the word of its number.
pub read_within : (s : Shape) (ws : List ℕ) (a : Address) → IsShapeAddress s a → read_word_at s ws a ≡ slice_index ws (word_number s a)
unfolding read_word_at
read_within s ws a h = rw (of_shape-true s a h) refl

-- Outside the shape it reads 0.
pub read_outside : (s : Shape) (ws : List ℕ) (a : Address) → is_shape_address s a ≡ false → read_word_at s ws a ≡ 0
unfolding read_word_at
read_outside s ws a h = rw h refl

-- Writing the word of an address is a store at that address.
pub wrote_word : (s : Shape) (ws : List ℕ) (a : Address) (x : ℕ) → length ws ≡ word_count s → IsShapeAddress s a
    → StoreEffect (read_word_at s ws) (read_word_at s (slice_set ws (word_number s a) x)) a x
wrote_word s ws a x long h = record { at = there; off = elsewhere }
  where
    in_range : word_number s a < length ws
    in_range = let below = word_below s a h in omega (arith, long, below)

    there : read_word_at s (slice_set ws (word_number s a) x) a ≡ x
    there = read_within s (slice_set ws (word_number s a) x) a h ∙ get_or-set_same ws (word_number s a) x 0 in_range

    elsewhere : (other : Address) → other ≢ a → read_word_at s (slice_set ws (word_number s a) x) other ≡ read_word_at s ws other
    elsewhere other differ = elim (cases_Bool (is_shape_address s other)) [
      | inl within ↦
          let k : IsShapeAddress s other = true-of_shape s other within in
          let apart : word_number s other ≢ word_number s a = λ e. differ (same_address s other a k h e) in
          read_within s (slice_set ws (word_number s a) x) other k ∙ (get_or-set_other ws (word_number s a) (word_number s other) x 0 apart ∙ sym (read_within s ws other k))
      | inr outside ↦ read_outside s (slice_set ws (word_number s a) x) other outside ∙ sym (read_outside s ws other outside)
    ]

-- The value at an index of the list of words is the value that the memory reads.
pub loaded : (s : Shape) (ws : List ℕ) (m : Memory) (a : Address) (i v : ℕ) → record { shape = s; words = ws } ≡ m
    → length ws ≡ word_count s → IsShapeAddress m.shape a → i ≡ word_number s a → v ≡ get_or ws i v → v ≡ memory_of m a
loaded s ws m a i v same long h at value =
    let P : Memory → Type 0 = λ n. IsShapeAddress n.shape a → v ≡ memory_of n a in
    let here : (k : IsShapeAddress s a) → v ≡ read_word_at s ws a = λ k.
    let below = word_below s a k in
    let in_range : i < length ws = omega (arith, below, at, long) in
    value ∙ (get_or_default ws i v 0 in_range ∙ (ap (λ (n : ℕ). get_or ws n 0) at ∙ sym (read_within s ws a k))) in
    subst P same here h

-- Writing at an index of the list of words is a store.
pub stored : (s : Shape) (ws : List ℕ) (m : Memory) (a : Address) (i x : ℕ) → record { shape = s; words = ws } ≡ m
    → length ws ≡ word_count s → IsShapeAddress m.shape a → i ≡ word_number s a → StoreEffect (memory_of m) (read_word_at s (slice_set ws i x)) a x
stored s ws m a i x same long h at =
    let P : Memory → Type 0 = λ n. IsShapeAddress n.shape a → StoreEffect (memory_of n) (read_word_at s (slice_set ws i x)) a x in
    subst P same (λ k. rw at (wrote_word s ws a x long k)) h
