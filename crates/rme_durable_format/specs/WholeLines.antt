-- The bytes of a file as lines: its whole lines, behind which a torn one may follow, and its first two lines.
use Rattle.std.specs.Prelude.{◌≡◌, ◌⊎◌, ℕ, List, [], ◌∷◌, ◌++◌, take}
use Rattle.rme_line_io.specs.Pieces.{IsPiece, lines_of}

-- Bytes that end with a newline.
abbrev pub AreWholeLines : List ℕ → Type 0
AreWholeLines bytes = (front : List ℕ) × (bytes ≡ front ++ 10 ∷ [])

-- The whole lines of some bytes: they end with a newline, if there are any, and no newline follows them.
pub record AreWholeLinesOf (bytes whole : List ℕ) : Type 0 where
  pub torn : List ℕ
  pub are : bytes ≡ whole ++ torn
  pub piece : IsPiece torn
  pub end : (whole ≡ []) ⊎ AreWholeLines whole

-- The first two lines of some bytes, or all lines if there are fewer.
pub record AreFirstTwoLines (bytes front : List ℕ) : Type 0 where
  pub rest : List ℕ
  pub are : bytes ≡ front ++ rest
  pub two : lines_of front ≡ take 2 (lines_of bytes)
