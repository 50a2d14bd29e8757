-- The values of labels, as a text has them: a backslash, a quote and a newline are escaped.
use Rattle.std.specs.Prelude.{ℕ, ◌==◌, List, chars, codes, encode_utf8, flat_map, if◌then◌else◌}

-- A character of a label.
abbrev pub escaped_letter : ℕ → List ℕ
escaped_letter letter =
    if letter == 92 then codes "\\\\"
    else (if letter == 34 then codes "\\\"" else (if letter == 10 then codes "\\n" else encode_utf8 letter))

-- The value of a label, character by character.
abbrev pub escaped_label : List ℕ → List ℕ
escaped_label label = flat_map escaped_letter (chars label)
