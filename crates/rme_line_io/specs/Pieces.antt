-- The lines of bytes: a line is the bytes up to a newline; a last piece without a newline is a line if it is not empty.
use Rattle.std.specs.Prelude.{◌≡◌, ℕ, ◌-◌, ◌==◌, nat_le, List, [], ◌∷◌, ◌++◌, length, map, take, Bool, true, false, if◌then◌else◌, Option, Some, None}
use Rattle.std.specs.Io.KnownBytes.{Consumes}

-- a line; the bytes of a line that is too long do not matter
pub data InputLine : Type 0 where
  text : List ℕ → InputLine
  too_long : InputLine

-- the pieces between newlines; the first begins with the part that was already seen
unfoldable pub pieces : List ℕ → List ℕ → List (List ℕ)
pieces seen [] = if length seen == 0 then [] else seen ∷ []
pieces seen (byte ∷ bytes) = if byte == 10 then seen ∷ pieces [] bytes else pieces (seen ++ byte ∷ []) bytes

-- a line has at most 65,536 bytes without its newline
abbrev pub line_of : List ℕ → InputLine
line_of piece = if nat_le (length piece) 65536 then text piece else too_long

unfoldable pub lines_of : List ℕ → List InputLine
lines_of bytes = map line_of (pieces [] bytes)

-- no byte is a newline
abbrev pub IsPiece : List ℕ → Type 0
IsPiece [] = Unit {0}
IsPiece (byte ∷ bytes) = ((byte == 10) ≡ false) × IsPiece bytes

-- the bytes of a piece, with its newline if one was found
abbrev pub piece_to_newline : Bool → List ℕ → List ℕ
piece_to_newline true piece = piece ++ 10 ∷ []
piece_to_newline false piece = piece

-- a line that continues with a piece; only one byte more than the limit is stored
abbrev pub extended_line : ℕ → List ℕ → List ℕ → List ℕ
extended_line most line piece = line ++ take (most - length line) piece

-- a piece was moved from the front of the bytes to the end of the line, up to a newline if one was found
abbrev pub PieceMoved : Option (List ℕ) → Option (List ℕ) → Bool → List ℕ → List ℕ → Type 0
PieceMoved before after found line longer =
    (piece : List ℕ) × IsPiece piece × Consumes before after (piece_to_newline found piece)
    × (longer ≡ extended_line 65537 line piece)

-- a line was taken from the front of the bytes, with its newline
abbrev pub WholeLineTaken : Option (List ℕ) → Option (List ℕ) → Type 0
WholeLineTaken None after = Unit {0}
WholeLineTaken (Some before) None = ⊥
WholeLineTaken (Some before) (Some after) = (piece : List ℕ) × IsPiece piece × (before ≡ piece ++ 10 ∷ after)

-- bytes were taken from the front, none of which is a newline
abbrev pub PieceTaken : Option (List ℕ) → Option (List ℕ) → Type 0
PieceTaken None after = Unit {0}
PieceTaken (Some before) None = ⊥
PieceTaken (Some before) (Some after) = (piece : List ℕ) × IsPiece piece × (before ≡ piece ++ after)

-- the pieces that end with a newline; the first begins with the part that was already seen
unfoldable pub whole_pieces : List ℕ → List ℕ → List (List ℕ)
whole_pieces seen [] = []
whole_pieces seen (byte ∷ bytes) =
    if byte == 10 then seen ∷ whole_pieces [] bytes else whole_pieces (seen ++ byte ∷ []) bytes

-- the lines whose newlines are among the bytes
unfoldable pub whole_lines_of : List ℕ → List InputLine
whole_lines_of bytes = map line_of (whole_pieces [] bytes)
