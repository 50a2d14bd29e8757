-- The JSON value of a line.
use Rattle.std.specs.Prelude.{ℕ, List, if◌then◌else◌, Option, None}
use Rattle.std.specs.Str.{is_utf8}
use Rattle.serde_json.specs.Data.{Data}
use Rattle.serde_json.specs.Read.{read}

-- the value of a line's bytes
unfoldable pub json_value_of : List ℕ → Option Data
json_value_of bytes = if is_utf8 bytes then read bytes else None
