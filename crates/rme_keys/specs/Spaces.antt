-- The spaces of a key: names and prefixes of names, and the text that names them.
use Rattle.std.specs.Prelude.{◌≡◌, ◌==◌, ◌||◌, ◌&&◌, ℕ, Bool, true, false, List, [], ◌∷◌, ◌++◌, length, nat_le, nat_lt}
use Rattle.std.specs.List.{Any, list_all, slice_split}
use Rattle.rme_keys.specs.Finding.{NameInTurn}
use Rattle.rme_keys.specs.declared.spaces.SpacePattern.{SpacePattern}
use Rattle.rme_keys.specs.declared.spaces.SpacePattern.TheVariants.{Name, Prefix}
use Rattle.rme_keys.specs.declared.spaces.SpacesWord.{SpacesWord}

-- A byte that may stand in a space's name: a-z, 0-9, `_` or `-`.
abbrev pub is_space_byte : ℕ → Bool
is_space_byte byte =
    (nat_le 97 byte && nat_le byte 122) || (nat_le 48 byte && nat_le byte 57) || byte == 95 || byte == 45

-- At most 64 of these bytes: a space's name, or the front of one.
abbrev pub is_space_front : List ℕ → Bool
is_space_front bytes = nat_le (length bytes) 64 && list_all is_space_byte bytes

-- The name of a space: 1 to 64 of these bytes.
abbrev pub is_space_name : List ℕ → Bool
is_space_name bytes = nat_lt 0 (length bytes) && is_space_front bytes

-- A pattern covers a name: it is that name, or the name begins with its prefix.
abbrev pub Covers : SpacePattern → List ℕ → Type 0
Covers (Name only) name = name ≡ only.items
Covers (Prefix front) name = (rest : List ℕ) × (name ≡ front.items ++ rest)

-- Two patterns are the same: both are the same name, or both are the same prefix.
abbrev pub IsSamePattern : SpacePattern → SpacePattern → Type 0
IsSamePattern (Name only) (Name other) = other.items ≡ only.items
IsSamePattern (Name only) (Prefix other) = ⊥
IsSamePattern (Prefix front) (Name other) = ⊥
IsSamePattern (Prefix front) (Prefix other) = other.items ≡ front.items

-- One of some patterns covers a name.
abbrev pub CoverName : List SpacePattern → List ℕ → Type 0
CoverName patterns name = Any (λ pattern. Covers pattern name) patterns

-- A text is a space's name, and a pattern covers that name and no other.
abbrev pub IsNamePattern : List ℕ → SpacePattern → Type 0
IsNamePattern text (Name only) = (is_space_name text ≡ true) × (only.items ≡ text)
IsNamePattern text (Prefix front) = ⊥

-- A pattern covers the names that begin with a text.
abbrev pub IsPrefixPattern : List ℕ → SpacePattern → Type 0
IsPrefixPattern text (Name only) = ⊥
IsPrefixPattern text (Prefix front) = (is_space_front text ≡ true) × (front.items ≡ text)

-- A text names a pattern: by a space's name, or by a prefix of names with `*` after it.
abbrev pub IsPatternText : List ℕ → SpacePattern → Type 0
IsPatternText text (Name only) = (is_space_name text ≡ true) × (only.items ≡ text)
IsPatternText text (Prefix front) = (is_space_front front.items ≡ true) × (text ≡ front.items ++ 42 ∷ [])

-- THE SPACES THAT A TEXT NAMES: names and prefixes with commas between.
abbrev pub IsSpacesText : List ℕ → List SpacePattern → Type 0
IsSpacesText text patterns = NameInTurn IsPatternText (slice_split (λ byte. byte == 44) text) patterns

-- The word of a key's spaces names them. With `+` in front, they may also be created and dropped.
abbrev pub IsSpacesWord : List ℕ → Bool → List SpacePattern → Type 0
IsSpacesWord word true patterns = (rest : List ℕ) × (word ≡ 43 ∷ rest) × IsSpacesText rest patterns
IsSpacesWord word false patterns = IsSpacesText word patterns

-- A word has this meaning.
abbrev pub IsWordOf : List ℕ → SpacesWord → Type 0
IsWordOf word said = IsSpacesWord word said.may_create said.patterns.items

-- A text has this meaning, where it is known whether the spaces may be created and dropped.
abbrev pub IsTextOf : Bool → List ℕ → SpacesWord → Type 0
IsTextOf may_create text said = (said.may_create ≡ may_create) × IsSpacesText text said.patterns.items
