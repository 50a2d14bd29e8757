-- A client label: a text of at most 64 bytes, which may be empty.
use Rattle.std.specs.Prelude.{ℕ, List, length, nat_le, Option, Some, None, if◌then◌else◌}

abbrev pub client_label : List ℕ → Option (List ℕ)
client_label text = if nat_le (length text) 64 then Some text else None
