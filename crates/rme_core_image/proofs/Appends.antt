-- Parts that are written in order are the whole, and words of which none is left out are all words.
use Rattle.std.proofs.Common.{◌≡◌, ℕ, zero, suc, ◌+◌, ◌%◌, ◌<◌, List, [], ◌∷◌, ◌++◌, take, slice_get, Some, length, get_or, append_assoc, refl, ap, arith}
use Rattle.std.specs.List.{All, flat_map}
use Rattle.std.specs.Int.{w8, w64, to_be_bytes}
use Rattle.std.proofs.lemmas.List.{flat_map_more, take_more}
use Rattle.std.proofs.lemmas.List.Elements.{All-append}
use Rattle.rme_script.proofs.Lists.{take_next}
use Rattle.rme_words.specs.declared.shape.Shape.{Shape}
use Rattle.rme_core_image.specs.Images.{version_omits_word, words_bytes}

pub two_parts : (o p q a b : List ℕ) → p ≡ o ++ a → q ≡ p ++ b → q ≡ o ++ (a ++ b)
two_parts o p q a b c d = rw (d, c) (simp append_assoc)

pub five_parts : (o p q r s t a b c d e : List ℕ) → p ≡ o ++ a → q ≡ p ++ b → r ≡ q ++ c → s ≡ r ++ d → t ≡ s ++ e → t ≡ o ++ (a ++ (b ++ (c ++ (d ++ e))))
five_parts o p q r s t a b c d e f g h i j = rw (j, i, h, g, f) (simp append_assoc)

pub six_parts : (o p q r s t u a b c d e f : List ℕ) → p ≡ o ++ a → q ≡ p ++ b → r ≡ q ++ c → s ≡ r ++ d → t ≡ s ++ e → u ≡ t ++ f → u ≡ o ++ (a ++ (b ++ (c ++ (d ++ (e ++ f)))))
six_parts o p q r s t u a b c d e f g h i j k l = rw (l, k, j, i, h, g) (simp append_assoc)

-- A number that fits one byte is that byte.
pub byte_whole : (n : ℕ) → n < 256 → n ∷ [] ≡ to_be_bytes w8 n
byte_whole n fits = let e : n % 256 ≡ n = omega (arith, fits) in rw e refl

pub items_more : {A : Type 0} (f : A → List ℕ) (o p q : List ℕ) (items : List A) (i : ℕ) (x : A) → slice_get items i ≡ Some x → p ≡ o ++ flat_map f (take i items) → q ≡ p ++ f x → q ≡ o ++ flat_map f (take (i + 1) items)
items_more f o p q items i x at so_far put = rw (take_next items i x at, put, so_far) (flat_map_more f o (take i items) x)

pub item_more : {A : Type 0} (f : A → List ℕ) (o p q : List ℕ) (items : List A) (i : ℕ) (d : A) → i < length items → p ≡ o ++ flat_map f (take i items) → q ≡ p ++ f (get_or items i d) → q ≡ o ++ flat_map f (take (i + 1) items)
item_more f o p q items i d within so_far put = rw (take_more items i d within, put, so_far) (flat_map_more f o (take i items) (get_or items i d))

pub words_skip_none : (shape : Shape) (i : ℕ) (words : List ℕ) → words_bytes (version_omits_word 2 shape) i words ≡ flat_map (to_be_bytes w64) words
unfolding version_omits_word
words_skip_none shape i [] = refl
words_skip_none shape i (w ∷ ws) = ap (λ (rest : List ℕ). to_be_bytes w64 w ++ rest) (words_skip_none shape (suc i) ws)

-- One more item with the property.
pub all_next : {A : Type 0} (P : A → Type 0) (items : List A) (i : ℕ) (x : A) → slice_get items i ≡ Some x → All P (take i items) → P x → All P (take (i + 1) items)
all_next P items i x at so_far is = rw (take_next items i x at) (All-append P (take i items) (x ∷ []) so_far (All-one P x is))
  where
    All-one : {A : Type 0} (P : A → Type 0) (x : A) → P x → All P (x ∷ [])
    All-one P x is zero d below = is
    All-one P x is (suc k) d below = absurd (omega (arith, below))
