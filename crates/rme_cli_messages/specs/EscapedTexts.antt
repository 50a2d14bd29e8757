-- A word as a text shows it: control characters as their numbers.
use Rattle.std.specs.Prelude.{ℕ, List, ◌++◌, codes, if◌then◌else◌, false}
use Rattle.std.specs.Char.{encode_utf8, is_control}
use Rattle.std.specs.Fmt.{digits}
use Rattle.std.specs.List.{flat_map}
use Rattle.std.specs.Str.{chars}

-- a character in UTF-8, and a control character as `\u{1b}`
abbrev pub escaped_char : ℕ → List ℕ
escaped_char letter =
    if is_control letter then codes "\\u{" ++ (digits 16 false letter ++ codes "}") else encode_utf8 letter

abbrev pub escaped_text : List ℕ → List ℕ
escaped_text word = flat_map escaped_char (chars word)
