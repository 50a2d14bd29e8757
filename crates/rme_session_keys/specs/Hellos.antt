-- The line that begins a session, and its answer.
use Rattle.std.specs.Prelude.{ℕ, ◌==◌, ◌&&◌, ◌++◌, List, Option, None, bytes_eq, codes, option_and_then, option_map, if◌then◌else◌}
use Rattle.serde_json.specs.Data.{Data, string}
use Rattle.serde_json.specs.Events.{members_len}
use Rattle.serde_json.specs.Find.{as_object, as_str, get}
use Rattle.serde_json.specs.Written.{compact_text}
use Rattle.rme_line_io.specs.Pieces.{InputLine, text, too_long}
use Rattle.rme_line_json.specs.Values.{json_value_of}
use Rattle.rme_wire.specs.Values.{do_member}

-- `{"do":"hello","secret":".."}`
abbrev pub secret_named : List ℕ → ℕ → Data → Option (List ℕ)
secret_named word count value =
    if bytes_eq word (codes "hello") && (count == 2) then option_and_then as_str (get (codes "secret") value) else None

unfoldable pub secret_of_value : Data → Option (List ℕ)
secret_of_value value =
    option_and_then (λ (count : ℕ). option_and_then (λ (word : List ℕ). secret_named word count value)
    (do_member value)) (option_map members_len (as_object value))

unfoldable pub secret_of_bytes : List ℕ → Option (List ℕ)
secret_of_bytes bytes = option_and_then secret_of_value (json_value_of bytes)

-- The secret of a line, if it is such a line.
abbrev pub secret_of_line : InputLine → Option (List ℕ)
secret_of_line too_long = None
secret_of_line (text bytes) = secret_of_bytes bytes

-- `{"name":TEXT,"ok":"hello"}`, with the name in JSON, and a newline
abbrev pub hello_line : List ℕ → List ℕ
hello_line name = codes "{\"name\":" ++ (compact_text (string name) ++ codes ",\"ok\":\"hello\"}\n")
