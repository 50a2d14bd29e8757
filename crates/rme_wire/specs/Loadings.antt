-- The line that loads a saved world.
use Rattle.std.specs.Prelude.{ℕ, ◌&&◌, ◌||◌, ◌==◌, List, Bool, nat_le, codes, if◌then◌else◌, Option, None, option_map, option_and_then}
use Rattle.std.specs.List.{list_all}
use Rattle.std.specs.Result.{result_ok}
use Rattle.hex.specs.Hex.{decode_of}
use Rattle.serde_json.specs.Data.{Data}
use Rattle.serde_json.specs.Find.{get, as_str}
use Rattle.rme_wire.specs.declared.loading.Loading.{Loading}
use Rattle.rme_wire.specs.Openings.{locks_member}

-- `0` to `9` or `a` to `f`
abbrev pub is_hex_digit : ℕ → Bool
is_hex_digit byte = (nat_le 48 byte && nat_le byte 57) || (nat_le 97 byte && nat_le byte 102)

-- the bytes of these digits, two each; none if there is another character or a single last digit
unfoldable pub image_bytes : List ℕ → Option (List ℕ)
image_bytes text = if list_all is_hex_digit text then result_ok (decode_of text) else None

-- the member `image`, a text
unfoldable pub image_member : Data → Option (List ℕ)
image_member d = option_and_then as_str (get (codes "image") d)

-- `{"do":"load","image":..,"locks":[..]}`
unfoldable pub loading_of : ℕ → Data → Option Loading
loading_of count d =
    if count == 3 then option_and_then (λ digits. option_map
    (λ locks. record { image = image_bytes digits; locks = locks }) (locks_member d)) (image_member d)
    else None
