-- The lines of a file of keys, read in turn.
use Rattle.std.proofs.Common.{◌≡◌, ◌==◌, ℕ, ◌+◌, ◌<◌, ◌≤◌, List, [], ◌∷◌, ◌++◌, Bor, Result, Err, true, false, length, take, get_or, codes, refl, sym, ap, ◌∙◌, subst, inl, inr, eqb-true, arith}
use Rattle.std.proofs.lemmas.Bool.{false≢true}
use Rattle.std.proofs.lemmas.List.{get_or-map, length-map, map_more, take-map, take_all}
use Rattle.std.specs.List.{Any}
use Rattle.rme_keys.proofs.InTurn.{blank, bytes_of}
use Rattle.rme_keys.specs.Allowing.{digest_of, name_of}
use Rattle.rme_keys.specs.KeyFiles.{AddLines, AddsWords, IsKeyFile, IsNextKey, IsWhyNotAdded, IsWhyNotNew, IsWhyRefused, IsWhyTaken, at_line, line_words}
use Rattle.rme_keys.specs.KeyLines.{AreKeyWords, IsKeyOf, IsWhyNoKey, ReadsKey}
use Rattle.rme_keys.specs.declared.faults.BadKeyLine.{BadKeyLine}
use Rattle.rme_keys.specs.declared.faults.BadKeyLine.TheVariants as reason
use Rattle.rme_keys.specs.declared.faults.LineError.{LineError}
use Rattle.rme_keys.specs.declared.faults.LineError.TheVariants.{Bad, NoMemory}
use Rattle.rme_keys.specs.declared.key.Key.{Key}

-- ---- the words of a line

pub three_words : (words : List (Bor (List ℕ))) → length words ≡ 3
    → bytes_of words ≡ (get_or words 0 blank).now ∷ ((get_or words 1 blank).now ∷ ((get_or words 2 blank).now ∷ []))
three_words [] long = absurd (omega (arith, long))
three_words (a ∷ []) long = absurd (omega (arith, long))
three_words (a ∷ b ∷ []) long = absurd (omega (arith, long))
three_words (a ∷ b ∷ c ∷ []) long = refl
three_words (a ∷ b ∷ c ∷ d ∷ more) long = absurd (omega (arith, long))

pub four_words : (words : List (Bor (List ℕ))) → length words ≡ 4
    → bytes_of words ≡ (get_or words 0 blank).now ∷ ((get_or words 1 blank).now ∷ ((get_or words 2 blank).now ∷
    ((get_or words 3 blank).now ∷ [])))
four_words [] long = absurd (omega (arith, long))
four_words (a ∷ []) long = absurd (omega (arith, long))
four_words (a ∷ b ∷ []) long = absurd (omega (arith, long))
four_words (a ∷ b ∷ c ∷ []) long = absurd (omega (arith, long))
four_words (a ∷ b ∷ c ∷ d ∷ []) long = refl
four_words (a ∷ b ∷ c ∷ d ∷ e ∷ more) long = absurd (omega (arith, long))

pub reads_words : (words others : List (List ℕ)) (read : Result Key LineError) → others ≡ words
    → ReadsKey (AreKeyWords words) (IsWhyNoKey words) read → ReadsKey (AreKeyWords others) (IsWhyNoKey others) read
reads_words words others read same = subst (λ (ws : List (List ℕ)). ReadsKey (AreKeyWords ws) (IsWhyNoKey ws) read) (sym same)

pub no_key_words : (words : List (Bor (List ℕ))) → (length words ≡ 3 → ⊥) → (length words ≡ 4 → ⊥) → (key : Key)
    → AreKeyWords (bytes_of words) key → ⊥
no_key_words [] not_three not_four key are = are
no_key_words (a ∷ []) not_three not_four key are = are
no_key_words (a ∷ b ∷ []) not_three not_four key are = are
no_key_words (a ∷ b ∷ c ∷ []) not_three not_four key are = not_three refl
no_key_words (a ∷ b ∷ c ∷ d ∷ []) not_three not_four key are = not_four refl
no_key_words (a ∷ b ∷ c ∷ d ∷ e ∷ more) not_three not_four key are = are

pub why_no_words : (words : List (Bor (List ℕ))) → (length words ≡ 3 → ⊥) → (length words ≡ 4 → ⊥)
    → IsWhyNoKey (bytes_of words) reason.Words
why_no_words [] not_three not_four = refl
why_no_words (a ∷ []) not_three not_four = refl
why_no_words (a ∷ b ∷ []) not_three not_four = refl
why_no_words (a ∷ b ∷ c ∷ []) not_three not_four = absurd (not_three refl)
why_no_words (a ∷ b ∷ c ∷ d ∷ []) not_three not_four = absurd (not_four refl)
why_no_words (a ∷ b ∷ c ∷ d ∷ e ∷ more) not_three not_four = refl

same_of_four : (name digest workers spaces : List ℕ) (one other : Key) → IsKeyOf name digest workers spaces one
    → IsKeyOf name digest workers spaces other → (name_of one ≡ name_of other) × (digest_of one ≡ digest_of other)
same_of_four name digest workers spaces one other is also =
    let digests = sym is.digest_is ∙ also.digest_is in (is.name_is ∙ sym also.name_is, cc)

-- words are of one name and one digest
same_of_words : (words : List (List ℕ)) (one other : Key) → AreKeyWords words one → AreKeyWords words other
    → (name_of one ≡ name_of other) × (digest_of one ≡ digest_of other)
same_of_words [] one other is also = absurd is
same_of_words (a ∷ []) one other is also = absurd is
same_of_words (a ∷ b ∷ []) one other is also = absurd is
same_of_words (a ∷ b ∷ c ∷ []) one other is also = same_of_four a b c (codes "*") one other is also
same_of_words (a ∷ b ∷ c ∷ d ∷ []) one other is also = same_of_four a b c d one other is also
same_of_words (a ∷ b ∷ c ∷ d ∷ e ∷ more) one other is also = absurd is

-- ---- adding the key of words

pub empty_words : (words : List (Bor (List ℕ))) → true ≡ (length words == 0) → bytes_of words ≡ []
empty_words [] is = refl
empty_words (word ∷ words) is = absurd (omega (arith, eqb-true (length (word ∷ words)) 0 (sym is)))

pub not_empty : (words : List (Bor (List ℕ))) → false ≡ (length words == 0) → bytes_of words ≡ [] → ⊥
not_empty [] is none = false≢true is
not_empty (word ∷ words) is none = let never = ap length none in absurd (omega (arith, never))

-- a key with the name or the digest of an earlier one is no next key
not_next : (words : List (List ℕ)) (earlier : List Key) (key other : Key) (why : BadKeyLine) → AreKeyWords words key
    → IsWhyTaken earlier key why → IsNextKey earlier words other → ⊥
not_next words earlier key other reason.SameName are taken next =
    let same = same_of_words words key other are next.are in next.is_new.0 (subst (λ (name : List ℕ). Any (λ (it : Key). name_of it ≡ name) earlier) same.0 taken)
not_next words earlier key other reason.SameDigest are taken next =
    let same = same_of_words words key other are next.are in next.is_new.1 (subst (λ (digest : List ℕ). Any (λ (it : Key). digest_of it ≡ digest) earlier) same.1 taken)
not_next words earlier key other reason.Words are taken next = taken
not_next words earlier key other reason.Name are taken next = taken
not_next words earlier key other reason.Digest are taken next = taken
not_next words earlier key other reason.Workers are taken next = taken
not_next words earlier key other reason.Spaces are taken next = taken

pub why_key : (words : List (List ℕ)) (earlier : List Key) (key : Key) → AreKeyWords words key → (error : LineError)
    → IsWhyNotNew earlier key error → IsWhyNotAdded earlier words error
why_key words earlier key are NoMemory taken = tt
why_key words earlier key are (Bad why) taken = (
  (
    λ none. let P : List (List ℕ) → Type 0 = λ (ws : List (List ℕ)). AreKeyWords ws key in subst P none are,
    λ other next. not_next words earlier key other why are taken next,
  ),
  inr (key, are, taken),
)

pub why_words : (words : List (List ℕ)) (earlier : List Key) (error : LineError) → (words ≡ [] → ⊥)
    → ReadsKey (AreKeyWords words) (IsWhyNoKey words) (Err error) → IsWhyNotAdded earlier words error
why_words words earlier NoMemory some read = tt
why_words words earlier (Bad why) some read = ((some, λ key next. read.0 key next.are), inl read.1)

-- ---- lines in turn

add_last : (lines : List (List ℕ)) (line : List ℕ) (old between new : List Key) → AddLines lines old between
    → AddsWords (line_words line) between new → AddLines (lines ++ line ∷ []) old new
add_last [] line old between new is adds = (new, subst (λ (keys : List Key). AddsWords (line_words line) keys new) is adds, refl)
add_last (first ∷ lines) line old between new read adds = (read.0, read.1, add_last lines line read.0 between new read.2 adds)

pub one_line : (lines : List (Bor (List ℕ))) (index : ℕ) (between new : List Key) → index < length lines
    → IsKeyFile (bytes_of (take index lines)) between
    → AddsWords (line_words (get_or lines index blank).now) between new
    → IsKeyFile (bytes_of (take (index + 1) lines)) new
one_line lines index between new within read adds =
    subst (λ (those : List (List ℕ)). IsKeyFile those new) (sym (map_more (λ (line : Bor (List ℕ)). line.now) lines index blank within))
    (add_last (bytes_of (take index lines)) (get_or lines index blank).now [] between new read adds)

pub all_lines : (lines : List (Bor (List ℕ))) (index : ℕ) (keys : List Key) → length lines ≤ index
    → IsKeyFile (bytes_of (take index lines)) keys → IsKeyFile (bytes_of lines) keys
all_lines lines index keys past = subst (λ (those : List (Bor (List ℕ))). IsKeyFile (bytes_of those) keys) (take_all index lines past)

why_here : (lines : List (List ℕ)) (index : ℕ) (earlier : List Key) (error : LineError) → index < length lines
    → IsKeyFile (take index lines) earlier → IsWhyNotAdded earlier (line_words (get_or lines index [])) error
    → IsWhyRefused lines (at_line (index + 1) error)
why_here lines index earlier NoMemory within read refused = tt
why_here lines index earlier (Bad why) within read refused =
    record { index = index; is = refl; within = within; earlier = earlier; read = read; bad = refused.0; is_why = refused.1 }

pub why_refused : (lines : List (Bor (List ℕ))) (index : ℕ) (earlier : List Key) (error : LineError)
    → index < length lines → IsKeyFile (bytes_of (take index lines)) earlier
    → IsWhyNotAdded earlier (line_words (get_or lines index blank).now) error
    → IsWhyRefused (bytes_of lines) (at_line (index + 1) error)
why_refused lines index earlier error within read why =
    why_here (bytes_of lines) index earlier error (omega (arith, length-map lines (λ (line : Bor (List ℕ)). line.now)))
    (subst (λ (those : List (List ℕ)). IsKeyFile those earlier) (sym (take-map (λ (line : Bor (List ℕ)). line.now) index lines)) read)
    (subst (λ (line : List ℕ). IsWhyNotAdded earlier (line_words line) error) (sym (get_or-map (λ (line : Bor (List ℕ)). line.now) lines index blank [] within)) why)
