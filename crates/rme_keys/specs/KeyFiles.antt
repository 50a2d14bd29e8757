-- A file of keys: the keys of its lines, and why it is refused.
use Rattle.std.specs.Prelude.{◌≡◌, ◌⊎◌, ◌==◌, ℕ, ◌+◌, ◌<◌, List, [], ◌∷◌, ◌++◌, length, slice_index_or, take}
use Rattle.std.specs.List.{Any, slice_split}
use Rattle.rme_keys.specs.Allowing.{digest_of, name_of}
use Rattle.rme_keys.specs.KeyLines.{AreKeyWords, IsWhyNoKey, before_comment, words_of}
use Rattle.rme_keys.specs.declared.faults.BadKeyLine.{BadKeyLine}
use Rattle.rme_keys.specs.declared.faults.BadKeyLine.TheVariants as reason
use Rattle.rme_keys.specs.declared.faults.KeyFileError.{KeyFileError}
use Rattle.rme_keys.specs.declared.faults.KeyFileError.TheVariants.{BadLine, NoMemory}
use Rattle.rme_keys.specs.declared.faults.LineError.{LineError}
use Rattle.rme_keys.specs.declared.faults.LineError.TheVariants as kind
use Rattle.rme_keys.specs.declared.key.Key.{Key}

-- No earlier key has the name or the digest of a key.
abbrev pub IsNew : List Key → Key → Type 0
IsNew earlier key =
    (Any (λ (other : Key). name_of other ≡ name_of key) earlier → ⊥)
    × (Any (λ (other : Key). digest_of other ≡ digest_of key) earlier → ⊥)

-- The words of a line are those of a new key.
pub record IsNextKey (earlier : List Key) (words : List (List ℕ)) (key : Key) : Type 0 where
  pub are : AreKeyWords words key
  pub is_new : IsNew earlier key

-- The keys before and after the words of a line: the words add their key. No words add none.
abbrev pub AddsWords : List (List ℕ) → List Key → List Key → Type 0
AddsWords words old new =
    ((words ≡ []) × (new ≡ old)) ⊎ ((key : Key) × IsNextKey old words key × (new ≡ old ++ key ∷ []))

-- There are words, and they are not those of a new key.
abbrev pub AreBadWords : List Key → List (List ℕ) → Type 0
AreBadWords earlier words = (words ≡ [] → ⊥) × ((key : Key) → IsNextKey earlier words key → ⊥)

-- Why a key is not new: an earlier one has its name or its digest.
abbrev pub IsWhyTaken : List Key → Key → BadKeyLine → Type 0
IsWhyTaken earlier key reason.SameName = Any (λ (other : Key). name_of other ≡ name_of key) earlier
IsWhyTaken earlier key reason.SameDigest = Any (λ (other : Key). digest_of other ≡ digest_of key) earlier
IsWhyTaken earlier key other = ⊥

-- Why the words of a line are bad: they are not those of a key, or the key is not new.
abbrev pub IsWhyBad : List Key → List (List ℕ) → BadKeyLine → Type 0
IsWhyBad earlier words why = IsWhyNoKey words why ⊎ ((key : Key) × AreKeyWords words key × IsWhyTaken earlier key why)

-- The words of a line without its comment.
abbrev pub line_words : List ℕ → List (List ℕ)
line_words line = words_of (before_comment line)

-- The keys before and after some lines. Each line in turn adds its key.
abbrev pub AddLines : List (List ℕ) → List Key → List Key → Type 0
AddLines [] old new = new ≡ old
AddLines (line ∷ lines) old new =
    (between : List Key) × AddsWords (line_words line) old between × AddLines lines between new

-- The lines of a file.
abbrev pub file_lines : List ℕ → List (List ℕ)
file_lines bytes = slice_split (λ byte. byte == 10) bytes

-- WHAT IS READ OF A FILE: the keys of its lines, in order.
abbrev pub IsKeyFile : List (List ℕ) → List Key → Type 0
IsKeyFile lines keys = AddLines lines [] keys

-- The lines before the line of this number, counted from 1, are read to keys. The words of that line are bad, for this
-- reason.
pub record IsFirstBad (lines : List (List ℕ)) (number : ℕ) (why : BadKeyLine) : Type 0 where
  pub index : ℕ
  pub is : number ≡ index + 1
  pub within : index < length lines
  pub earlier : List Key
  pub read : IsKeyFile (take index lines) earlier
  pub bad : AreBadWords earlier (line_words (slice_index_or lines index []))
  pub is_why : IsWhyBad earlier (line_words (slice_index_or lines index [])) why

-- WHY A FILE IS REFUSED: for its first bad line, or because memory was refused.
abbrev pub IsWhyRefused : List (List ℕ) → KeyFileError → Type 0
IsWhyRefused lines NoMemory = Unit {0}
IsWhyRefused lines (BadLine number why) = IsFirstBad lines number why

-- Why words were not added: they are bad, or memory was refused.
abbrev pub IsWhyNotAdded : List Key → List (List ℕ) → LineError → Type 0
IsWhyNotAdded earlier words kind.NoMemory = Unit {0}
IsWhyNotAdded earlier words (kind.Bad why) = AreBadWords earlier words × IsWhyBad earlier words why

-- Why a key was not added: an earlier one has its name or its digest, or memory was refused.
abbrev pub IsWhyNotNew : List Key → Key → LineError → Type 0
IsWhyNotNew earlier key kind.NoMemory = Unit {0}
IsWhyNotNew earlier key (kind.Bad why) = IsWhyTaken earlier key why

-- The error of a file, from the error of the line with this number.
abbrev pub at_line : ℕ → LineError → KeyFileError
at_line number kind.NoMemory = NoMemory
at_line number (kind.Bad why) = BadLine number why
