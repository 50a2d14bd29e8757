-- The names of spaces.
use Rattle.std.specs.Prelude.{◌≡◌, ℕ, List, Option, Some, None, true, if◌then◌else◌}
use Rattle.rme_keys.specs.Spaces.{is_space_name}

-- A text is the name of a space: 1 to 64 bytes of a-z, 0-9, `_` and `-`.
abbrev pub IsSpaceName : List ℕ → Type 0
IsSpaceName text = is_space_name text ≡ true

-- The name that a text is, if it is one.
abbrev pub space_name : List ℕ → Option (List ℕ)
space_name text = if is_space_name text then Some text else None
