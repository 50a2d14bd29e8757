-- Copies of texts.
use Rattle.std.proofs.Common.{◌≡◌, List, [], ◌∷◌, map, String, Global, string_bytes, refl}
use Rattle.std.specs.List.{AllZip}

-- Copies have the bytes of their texts.
pub same_bytes : (texts copies : List (String Global))
    → AllZip (λ (text : String Global) (copy : String Global). string_bytes copy ≡ string_bytes text) texts copies
    → map string_bytes copies ≡ map string_bytes texts
same_bytes [] [] zipped = refl
same_bytes [] (copy ∷ copies) zipped = absurd zipped
same_bytes (text ∷ texts) [] zipped = absurd zipped
same_bytes (text ∷ texts) (copy ∷ copies) zipped = rw (zipped.0, same_bytes texts copies zipped.1) refl
