-- The lines of a file of keys.
use Rattle.std.specs.Prelude.{◌≡◌, ◌==◌, ◌||◌, ℕ, Bool, List, [], ◌∷◌, Result, Ok, Err, codes, filter, length, not}
use Rattle.std.specs.List.{before_first, slice_split}
use Rattle.std.specs.Str.{IsUtf8}
use Rattle.hex.specs.Hex.{decode_sized}
use Rattle.rme_keys.specs.Allowing.{digest_of, name_of}
use Rattle.rme_keys.specs.Spaces.{IsSpacesWord, IsWordOf}
use Rattle.rme_keys.specs.Workers.{IsWorkersText}
use Rattle.rme_keys.specs.declared.faults.BadKeyLine.{BadKeyLine}
use Rattle.rme_keys.specs.declared.faults.BadKeyLine.TheVariants as reason
use Rattle.rme_keys.specs.declared.faults.LineError.{LineError}
use Rattle.rme_keys.specs.declared.faults.LineError.TheVariants.{Bad, NoMemory}
use Rattle.rme_keys.specs.declared.key.Key.{Key}
use Rattle.rme_keys.specs.declared.spaces.SpacesWord.{SpacesWord}
use Rattle.rme_keys.specs.declared.workers.WorkerRange.{WorkerRange}

-- What stands before the first `#` of a line.
abbrev pub before_comment : List ℕ → List ℕ
before_comment line = before_first (λ byte. byte == 35) line

-- A space or a tab.
abbrev pub is_blank : ℕ → Bool
is_blank byte = byte == 32 || byte == 9

-- The words of a line: the parts between blanks that are not empty.
abbrev pub words_of : List ℕ → List (List ℕ)
words_of line = filter (λ word. not (length word == 0)) (slice_split is_blank line)

-- Four words are those of a key.
pub record IsKeyOf (name digest workers spaces : List ℕ) (key : Key) : Type 0 where
  pub name_is : name_of key ≡ name
  pub digest_is : decode_sized digest 32 ≡ Ok (digest_of key)
  pub workers_are : IsWorkersText workers key.workers.items
  pub spaces_are : IsSpacesWord spaces key.may_create key.spaces.items

-- Some words are those of a key: a name, a digest, workers and spaces. Without a fourth word the spaces are `*`.
abbrev pub AreKeyWords : List (List ℕ) → Key → Type 0
AreKeyWords (name ∷ digest ∷ workers ∷ []) key = IsKeyOf name digest workers (codes "*") key
AreKeyWords (name ∷ digest ∷ workers ∷ spaces ∷ []) key = IsKeyOf name digest workers spaces key
AreKeyWords others key = ⊥

-- Why four words are not those of a key: the word that the reason names is bad.
abbrev pub IsWhyNoKeyOf : List ℕ → List ℕ → List ℕ → List ℕ → BadKeyLine → Type 0
IsWhyNoKeyOf name digest workers spaces reason.Name = IsUtf8 name → ⊥
IsWhyNoKeyOf name digest workers spaces reason.Digest = (bytes : List ℕ) → decode_sized digest 32 ≡ Ok bytes → ⊥
IsWhyNoKeyOf name digest workers spaces reason.Workers =
    (ranges : List WorkerRange) → IsWorkersText workers ranges → ⊥
IsWhyNoKeyOf name digest workers spaces reason.Spaces = (said : SpacesWord) → IsWordOf spaces said → ⊥
IsWhyNoKeyOf name digest workers spaces other = ⊥

-- Why some words are not those of a key: there are not three or four, or the word that the reason names is bad.
abbrev pub IsWhyNoKey : List (List ℕ) → BadKeyLine → Type 0
IsWhyNoKey (name ∷ digest ∷ workers ∷ []) why = IsWhyNoKeyOf name digest workers (codes "*") why
IsWhyNoKey (name ∷ digest ∷ workers ∷ spaces ∷ []) why = IsWhyNoKeyOf name digest workers spaces why
IsWhyNoKey others why = why ≡ reason.Words

-- WHAT IS READ OF WORDS: their key. They are refused only if they have none, for this reason, or memory was refused.
abbrev pub ReadsKey : (Key → Type 0) → (BadKeyLine → Type 0) → Result Key LineError → Type 0
ReadsKey Theirs IsWhy (Ok key) = Theirs key
ReadsKey Theirs IsWhy (Err NoMemory) = Unit {0}
ReadsKey Theirs IsWhy (Err (Bad why)) = ((key : Key) → Theirs key → ⊥) × IsWhy why
