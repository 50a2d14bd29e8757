-- A number that is written as a whole one.
use Rattle.std.proofs.Common.{◌≡◌, ℕ, ◌^◌, ◌<◌, true, false, List, length, Some, refl}
use Rattle.std.specs.Prelude.{◌==◌, slice_index}
use Rattle.std.proofs.lemmas.Bool.{lt-ltb}
use Rattle.fast_float.specs.Text.{Parts, IsInteger, scan, digits_of}
use Rattle.serde_json.specs.Data.{unsigned}
use Rattle.serde_json.specs.Read.{is_integer, number_of}

whole_parts : (p : Parts) → IsInteger p → is_integer p ≡ true
whole_parts p is = rw (lt-ltb 0 (length p.whole) is.0, is.1, is.2) refl

pub whole_is : (s : List ℕ) → (slice_index s 0 == 45) ≡ false → IsInteger (scan s) → digits_of (scan s) < 2 ^ 64 → number_of s ≡ Some (unsigned (digits_of (scan s)))
unfolding number_of
whole_is s plain is small = rw (plain, whole_parts (scan s) is, lt-ltb (digits_of (scan s)) (2 ^ 64) small) refl
