-- Words: parsed bytes are their encoding, and the encoding is parsed. In version 1 the masks are exactly the implied
-- ones.
use Rattle.std.proofs.Common.{◌≡◌, ℕ, zero, suc, ◌-◌, ◌^◌, ◌<◌, Bool, true, false, cond, List, [], ◌∷◌, ◌++◌, length, take, get_or, Some, refl, sym, ap, subst, ◌∙◌, append_assoc, arith}
use Rattle.std.specs.List.{All}
use Rattle.std.specs.Int.{w64, to_be_bytes}
use Rattle.std.proofs.lemmas.Bool.{and_parts, and_from, eqb-true, eq-eqb}
use Rattle.std.proofs.lemmas.List.{append-nil, length-append, length-take-le}
use Rattle.std.proofs.lemmas.Nat.{pow_below}
use Rattle.std.proofs.lemmas.List.Elements.{All-from_get_or}
use Rattle.rme_words.specs.declared.shape.Shape.{Shape}
use Rattle.rme_words.specs.declared.address.Address.TheVariants.{Mask}
use Rattle.rme_words.specs.Words.{word_count, word_number}
use Rattle.rme_core_image.specs.Images.{version_omits_word, words_bytes, HasVersion1Masks}
use Rattle.rme_core_image.specs.Parsing.{parse_number, implied_mask, parse_word, parse_many}
use Rattle.rme_core_image.proofs.Fields.{IsBytes, Takes, takes_none, some_is, wide64, number_takes, number_again}
use Rattle.rme_core_image.proofs.Many.{spell_after, AllAfter, many_take, many_again}
use Rattle.rme_core_image.proofs.Masks.{mask_told, mask_found, mask_within, read_mask, told_is_old}

-- The bytes of a word after others: none if the version leaves it out.
abbrev pub word_bytes : ℕ → Shape → List ℕ → ℕ → List ℕ
word_bytes version shape earlier w = cond (version_omits_word version shape (length earlier)) [] (to_be_bytes w64 w)

-- A word after others fits eight bytes, and is implied by them if the version leaves it out.
pub record IsTold (version : ℕ) (shape : Shape) (earlier : List ℕ) (w : ℕ) : Type 0 where
  pub small : w < 2 ^ 64
  pub told : version_omits_word version shape (length earlier) ≡ true → w ≡ implied_mask shape earlier

mask_small : (shape : Shape) (b : Bool) → cond b (2 ^ shape.cells - 1) 0 < 2 ^ 64
mask_small shape true = omega (arith, pow_below shape.cells 64 (omega (arith, shape.counted.limits.few_cells)))
mask_small shape false = omega arith

told_small : (shape : Shape) (earlier : List ℕ) → implied_mask shape earlier < 2 ^ 64
unfolding implied_mask
told_small shape earlier = mask_small shape _

by_test_takes : (b : Bool) (fill : ℕ) (bytes : List ℕ) (w : ℕ) (rest : List ℕ) → fill < 2 ^ 64 → IsBytes bytes → cond b (Some (fill, bytes)) (parse_number w64 bytes) ≡ Some (w, rest)
    → Takes bytes (cond b [] (to_be_bytes w64 w)) rest × (w < 2 ^ 64) × (b ≡ true → w ≡ fill)
by_test_takes true fill bytes w rest small fits e =
    subst (λ (y : ℕ × List ℕ). Takes bytes [] y.1 × (y.0 < 2 ^ 64) × (true ≡ true → y.0 ≡ fill)) {x = (fill, bytes)} (some_is (fill, bytes) (w, rest) e) (takes_none bytes fits, small, λ _. refl)
by_test_takes false fill bytes w rest small fits e =
    let t = number_takes w64 (2 ^ 64) wide64 bytes w rest fits e in
    (t.0, t.1, λ no. absurd cc)

by_test_again : (b : Bool) (fill w : ℕ) (rest : List ℕ) → w < 2 ^ 64 → (b ≡ true → w ≡ fill)
    → cond b (Some (fill, cond b [] (to_be_bytes w64 w) ++ rest)) (parse_number w64 (cond b [] (to_be_bytes w64 w) ++ rest)) ≡ Some (w, rest)
by_test_again true fill w rest small told = ap (λ (n : ℕ). Some (n, rest)) (sym (told refl))
by_test_again false fill w rest small told = number_again w64 (2 ^ 64) wide64 w rest small

word_takes : (version : ℕ) (shape : Shape) (earlier bytes : List ℕ) (w : ℕ) (rest : List ℕ) → IsBytes bytes → parse_word version shape earlier bytes ≡ Some (w, rest)
    → Takes bytes (word_bytes version shape earlier w) rest × IsTold version shape earlier w
unfolding parse_word
word_takes version shape earlier bytes w rest fits e =
    let t = by_test_takes (version_omits_word version shape (length earlier)) (implied_mask shape earlier) bytes w rest (told_small shape earlier) fits e in
    (t.0, record { small = t.1; told = t.2 })

word_again : (version : ℕ) (shape : Shape) (earlier : List ℕ) (w : ℕ) (rest : List ℕ) → IsTold version shape earlier w → parse_word version shape earlier (word_bytes version shape earlier w ++ rest) ≡ Some (w, rest)
unfolding parse_word
word_again version shape earlier w rest told = by_test_again (version_omits_word version shape (length earlier)) (implied_mask shape earlier) w rest told.small told.told

spell_words : (version : ℕ) (shape : Shape) (earlier words : List ℕ) → spell_after (word_bytes version shape) earlier words ≡ words_bytes (version_omits_word version shape) (length earlier) words
spell_words version shape earlier [] = refl
spell_words version shape earlier (w ∷ ws) =
    let longer : length (earlier ++ w ∷ []) ≡ suc (length earlier) = omega (arith, length-append earlier (w ∷ [])) in
    ap (λ (rest : List ℕ). word_bytes version shape earlier w ++ rest) (spell_words version shape (earlier ++ w ∷ []) ws ∙ ap (λ (n : ℕ). words_bytes (version_omits_word version shape) n ws) longer)

-- ---- the condition on each word, by its number

after_at : {A : Type 0} (Small : List A → A → Type 0) (earlier xs : List A) (i : ℕ) (d : A) → AllAfter Small earlier xs → i < length xs → Small (earlier ++ take i xs) (get_or xs i d)
after_at Small earlier [] i d h inside = absurd (omega (arith, inside))
after_at {A = A} Small earlier (x ∷ xs) zero d h inside = subst (λ (ys : List A). Small ys x) (sym (append-nil earlier)) h.0
after_at {A = A} Small earlier (x ∷ xs) (suc i) d h inside =
    subst (λ (ys : List A). Small ys (get_or xs i d)) (append_assoc earlier (x ∷ []) (take i xs)) (after_at Small (earlier ++ x ∷ []) xs i d h.1 (omega (arith, inside)))

after_from : {A : Type 0} (Small : List A → A → Type 0) (earlier xs : List A) (d : A) → ((i : ℕ) → i < length xs → Small (earlier ++ take i xs) (get_or xs i d)) → AllAfter Small earlier xs
after_from Small earlier [] d h = tt
after_from {A = A} Small earlier (x ∷ xs) d h = (
  subst (λ (ys : List A). Small ys x) (append-nil earlier) (h 0 (omega arith)),
  after_from Small (earlier ++ x ∷ []) xs d (λ i inside. subst (λ (ys : List A). Small ys (get_or xs i d)) (sym (append_assoc earlier (x ∷ []) (take i xs))) (h (suc i) (omega (arith, inside)))),
)

-- ---- the masks

masks_told : (version : ℕ) (shape : Shape) (words : List ℕ) → length words ≡ word_count shape → AllAfter (IsTold version shape) [] words → version ≡ 1 → HasVersion1Masks shape words
unfolding version_omits_word
masks_told version shape words counted told old = λ lock below.
    let i : ℕ = word_number shape (Mask lock) in
    let inside : i < length words = omega (arith, mask_within shape lock below, counted) in
    let long : length (take i words) ≡ i = length-take-le i words (omega (arith, inside)) in
    let one : IsTold version shape (take i words) (get_or words i 0) = after_at (IsTold version shape) [] words i 0 told inside in
    let left_out : version_omits_word version shape (length (take i words)) ≡ true = ap (λ (n : ℕ). version_omits_word version shape n) long ∙ and_from _ _ (eq-eqb version 1 old) (mask_told shape lock below) in
    read_mask shape words lock below ∙ one.told left_out ∙ told_is_old shape words lock below counted

words_told : (version : ℕ) (shape : Shape) (words : List ℕ) → length words ≡ word_count shape → All (λ (w : ℕ). w < 2 ^ 64) words → (version ≡ 1 → HasVersion1Masks shape words) → AllAfter (IsTold version shape) [] words
unfolding version_omits_word
words_told version shape words counted small masks = after_from (IsTold version shape) [] words 0 (λ i inside. record { small = small i 0 inside; told = told i inside })
  where
    of_mask : (lock : ℕ) → lock < shape.locks → version ≡ 1 → get_or words (word_number shape (Mask lock)) 0 ≡ implied_mask shape (take (word_number shape (Mask lock)) words)
    of_mask lock below old = sym (read_mask shape words lock below) ∙ masks old lock below ∙ sym (told_is_old shape words lock below counted)

    told : (i : ℕ) → i < length words → version_omits_word version shape (length (take i words)) ≡ true → get_or words i 0 ≡ implied_mask shape (take i words)
    told i inside e =
        let long : length (take i words) ≡ i = length-take-le i words (omega (arith, inside)) in
        let parts = and_parts _ _ (ap (λ (n : ℕ). version_omits_word version shape n) (sym long) ∙ e) in
        let found = mask_found shape i parts.1 in
        subst (λ (n : ℕ). get_or words n 0 ≡ implied_mask shape (take n words)) (sym found.2) (of_mask found.0 found.1 (eqb-true version 1 parts.0))

-- ---- all words

-- The bytes of some words, followed by others.
pub record AreWords (version : ℕ) (shape : Shape) (words bytes rest : List ℕ) : Type 0 where
  pub took : Takes bytes (words_bytes (version_omits_word version shape) 0 words) rest
  pub counted : length words ≡ word_count shape
  pub small : All (λ (w : ℕ). w < 2 ^ 64) words
  pub masks : version ≡ 1 → HasVersion1Masks shape words

pub words_take : (version : ℕ) (shape : Shape) (bytes words rest : List ℕ) → IsBytes bytes → parse_many (parse_word version shape) (word_count shape) [] bytes ≡ Some (words, rest) → AreWords version shape words bytes rest
words_take version shape bytes words rest fits e =
    let many = many_take (parse_word version shape) (word_bytes version shape) (IsTold version shape) (word_takes version shape) (word_count shape) [] bytes (words, rest) fits e in
    let took : Takes bytes (words_bytes (version_omits_word version shape) 0 many.new) rest = subst (λ (text : List ℕ). Takes bytes text rest) (spell_words version shape [] many.new) many.took in
    let small : All (λ (w : ℕ). w < 2 ^ 64) many.new = All-from_get_or (λ (w : ℕ). w < 2 ^ 64) many.new 0 (λ i inside. (after_at (IsTold version shape) [] many.new i 0 many.small inside).small) in
    subst (λ (ws : List ℕ). AreWords version shape ws bytes rest) (sym many.joined)
    (record { took = took; counted = many.counted; small = small; masks = masks_told version shape many.new many.counted many.small })

pub words_again : (version : ℕ) (shape : Shape) (words rest : List ℕ) → length words ≡ word_count shape → All (λ (w : ℕ). w < 2 ^ 64) words → (version ≡ 1 → HasVersion1Masks shape words)
    → parse_many (parse_word version shape) (word_count shape) [] (words_bytes (version_omits_word version shape) 0 words ++ rest) ≡ Some (words, rest)
words_again version shape words rest counted small masks =
    ap (λ (n : ℕ). parse_many (parse_word version shape) n [] (words_bytes (version_omits_word version shape) 0 words ++ rest)) (sym counted)
    ∙ ap (λ (text : List ℕ). parse_many (parse_word version shape) (length words) [] (text ++ rest)) (sym (spell_words version shape [] words))
    ∙ many_again (parse_word version shape) (word_bytes version shape) (IsTold version shape) (word_again version shape) [] words rest (words_told version shape words counted small masks)
