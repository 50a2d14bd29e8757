-- The value of a line's bytes.
use Rattle.std.proofs.Common.{◌≡◌, ℕ, List, true, Some, None, refl, inl, inr}
use Rattle.std.proofs.lemmas.Bool.{cases_Bool}
use Rattle.std.proofs.lemmas.Str.{IsUtf8-from_is_utf8, is_utf8-from_IsUtf8}
use Rattle.std.specs.Str.{IsUtf8, is_utf8}
use Rattle.serde_json.specs.Data.{Data}
use Rattle.serde_json.specs.Read.{read}
use Rattle.rme_line_json.specs.Values.{json_value_of}

pub value_read : (bytes : List ℕ) (d : Data) → IsUtf8 bytes → read bytes ≡ Some d → json_value_of bytes ≡ Some d
unfolding json_value_of
value_read bytes d utf8 e = let is : is_utf8 bytes ≡ true = is_utf8-from_IsUtf8 bytes utf8 in rw is e

pub value_none : (bytes : List ℕ) → (IsUtf8 bytes → read bytes ≡ None) → json_value_of bytes ≡ None
unfolding json_value_of
value_none bytes none =
    elim (cases_Bool (is_utf8 bytes)) [
      | inl t ↦ rw t (none (IsUtf8-from_is_utf8 bytes t))
      | inr f ↦ rw f refl
    ]
