-- The names of locks: the texts that are names, and the effect of adding one.
use Rattle.std.specs.Prelude.{◌≡◌, ℕ, ◌&&◌, ◌||◌, ◌==◌, List, [], ◌∷◌, ◌++◌, Bool, true, false, not, nat_le, nat_lt, length, position, bytes_eq, Option, Result, Ok, Err}
use Rattle.std.specs.List.{list_all, list_any}
use Rattle.rme_words.specs.declared.refusal.Refusal.{Refusal}
use Rattle.rme_words.specs.declared.refusal.Refusal.TheVariants.{BadShape, NoMemory}

-- `a` to `z`, `0` to `9`, `_` or `-`
abbrev pub is_name_byte : ℕ → Bool
is_name_byte byte =
    (nat_le 97 byte && nat_le byte 122) || (nat_le 48 byte && nat_le byte 57) || byte == 95 || byte == 45

-- 1 to 32 such bytes
abbrev pub is_name : List ℕ → Bool
is_name text = nat_lt 0 (length text) && nat_le (length text) 32 && list_all is_name_byte text

-- a new name, at most the sixteenth
abbrev pub may_add_name : List (List ℕ) → List ℕ → Bool
may_add_name names text = is_name text && nat_lt (length names) 16 && not (list_any (bytes_eq text) names)

-- the number of a name: its index in the order of adding
abbrev pub name_number : List (List ℕ) → List ℕ → Option ℕ
name_number names text = position (bytes_eq text) names

-- the answer to adding a text, and the names afterwards
abbrev pub NameAdded : List (List ℕ) → List ℕ → Result ℕ Refusal → List (List ℕ) → Type 0
NameAdded old text (Ok number) new = (may_add_name old text ≡ true) × (number ≡ length old) × (new ≡ old ++ text ∷ [])
NameAdded old text (Err BadShape) new = (may_add_name old text ≡ false) × (new ≡ old)
NameAdded old text (Err NoMemory) new = (may_add_name old text ≡ true) × (new ≡ old)
NameAdded old text (Err other) new = ⊥
