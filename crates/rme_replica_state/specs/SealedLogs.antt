-- The lines among the bytes of a log whose writes are closed by checksums.
use Rattle.std.specs.Prelude.{◌≡◌, ◌⊎◌, ℕ, suc, ◌==◌, Bool, true, false, not, List, [], ◌∷◌, length, take}
use Rattle.std.specs.Str.{bytes_eq}
use Rattle.rme_durable_writes.specs.Writes.{AreWrites, IsWrite, Write, sum_mark, write_text, writes_text}

-- Whether these bytes begin with the newline behind which the last line of a write begins.
abbrev pub begins_sum : List ℕ → Bool
begins_sum bytes = bytes_eq (take 9 bytes) sum_mark

-- The lines among bytes, without the last lines of writes. The bytes begin within such a line, or not.
abbrev pub lines_from : Bool → List ℕ → List ℕ
lines_from within [] = []
lines_from true (byte ∷ bytes) = lines_from (not (byte == 10)) bytes
lines_from false (byte ∷ bytes) = byte ∷ lines_from (begins_sum (byte ∷ bytes)) bytes

abbrev pub plain_lines : List ℕ → List ℕ
plain_lines bytes = lines_from false bytes

-- Bytes are those of this number of writes.
pub record AreLogBytes (number : ℕ) (bytes : List ℕ) : Type 0 where
  pub writes : List Write
  pub are : bytes ≡ writes_text 1 writes
  pub all : AreWrites writes
  pub counted : length writes ≡ number

-- These bytes are the next write behind this number of writes, with these lines.
pub record IsNextWrite (number : ℕ) (lines bytes : List ℕ) (next : ℕ) : Type 0 where
  pub write : Write
  pub is : IsWrite write
  pub lines_are : write.lines ≡ lines
  pub are : bytes ≡ write_text (suc number) write
  pub next_is : next ≡ suc number

-- There are no lines, and no bytes.
pub record IsNoWrite (number : ℕ) (lines bytes : List ℕ) (next : ℕ) : Type 0 where
  pub no_lines : lines ≡ []
  pub are : bytes ≡ []
  pub next_is : next ≡ number

-- THE NEXT RECORD of a log of this number of writes has these lines; then the log has so many writes.
abbrev pub IsNextRecord : ℕ → List ℕ → List ℕ → ℕ → Type 0
IsNextRecord number lines bytes next = IsNoWrite number lines bytes next ⊎ IsNextWrite number lines bytes next
