-- The JSON value of a line, and the words and whole numbers in it.
use Rattle.std.specs.Prelude.{ℕ, ◌^◌, nat_le, nat_lt, List, codes, if◌then◌else◌, Option, Some, None, option_and_then}
use Rattle.serde_json.specs.Data.{Data}
use Rattle.serde_json.specs.Find.{as_number, as_str, as_u64, get}
unfoldable pub use Rattle.rme_line_json.specs.Values.{json_value_of}

-- the member `do`, a word
unfoldable pub do_member : Data → Option (List ℕ)
do_member d = option_and_then as_str (get (codes "do") d)

-- a whole number below 2^64
abbrev pub whole_u64 : Data → Option ℕ
whole_u64 d = option_and_then as_u64 (as_number d)

-- a whole number that is at most this
unfoldable pub whole_up_to : ℕ → Data → Option ℕ
whole_up_to most d = option_and_then (λ n. if nat_le n most then Some n else None) (whole_u64 d)

-- a whole number below 2^32
unfoldable pub whole_u32 : Data → Option ℕ
whole_u32 d = option_and_then (λ n. if nat_lt n (2 ^ 32) then Some n else None) (whole_u64 d)
