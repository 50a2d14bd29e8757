-- The contents of a writer after a partial write, and the buffered bytes.
use Rattle.std.specs.Prelude.{◌≡◌, ℕ, List, ◌++◌, take, Option}
use Rattle.std.specs.Io.KnownBytes.{Appends}

-- the writer received a prefix of the bytes, or all of them
abbrev pub WritesPrefix : Option (List ℕ) → Option (List ℕ) → List ℕ → Type 0
WritesPrefix old new bytes = (n : ℕ) × Appends old new (take n bytes)

-- Bytes were added to the buffer, and a prefix of the whole was written: the rest stays in the buffer.
pub record BufferedWrite (held : Option (List ℕ)) (kept bytes : List ℕ) (holds : Option (List ℕ)) (keeps : List ℕ) :
    Type 0 where
  pub front : List ℕ
  pub put : Appends held holds front
  pub rest : kept ++ bytes ≡ front ++ keeps
