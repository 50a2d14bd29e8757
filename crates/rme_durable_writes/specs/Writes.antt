-- A log as it is written: each write is some lines, and a last line with the checksum of all before it.
use Rattle.std.specs.Prelude.{◌≡◌, ℕ, suc, ◌^◌, ◌<◌, List, [], ◌∷◌, ◌++◌, codes}
use Rattle.std.specs.Fmt.{decimal}
use Rattle.std.specs.Int.{w32, to_be_bytes}
use Rattle.hex.specs.Hex.{encode_lower}
use Rattle.memchr.specs.Find.{OccursAt}
use Rattle.rme_durable_writes.specs.Checksums.{crc32c}

-- A write: the number of the last write that was known to be with the disk when this one was made, and its lines.
pub record Write : Type 0 where
  pub kept : ℕ
  pub lines : List ℕ

-- `{"kept":..,"seq":..,"sum":"`, with the number of the write.
abbrev pub sum_front : ℕ → ℕ → List ℕ
sum_front kept number =
    codes "{\"kept\":" ++ (decimal kept ++ (codes ",\"seq\":" ++ (decimal number ++ codes ",\"sum\":\"")))

-- A checksum as eight hexadecimal digits.
abbrev pub sum_digits : ℕ → List ℕ
sum_digits sum = encode_lower (to_be_bytes w32 sum)

-- Its checksum is that of the lines and of the front of the last line.
abbrev pub sum_text : ℕ → ℕ → List ℕ → List ℕ
sum_text kept number lines = sum_digits (crc32c (lines ++ sum_front kept number))

-- The last line of a write.
abbrev pub sum_line : ℕ → ℕ → List ℕ → List ℕ
sum_line kept number lines = sum_front kept number ++ (sum_text kept number lines ++ codes "\"}\n")

-- The bytes of the write with this number.
abbrev pub write_text : ℕ → Write → List ℕ
write_text number write = write.lines ++ sum_line write.kept number write.lines

-- The bytes of all writes, of which the first has this number.
abbrev pub writes_text : ℕ → List Write → List ℕ
writes_text number [] = []
writes_text number (write ∷ writes) = write_text number write ++ writes_text (suc number) writes

-- The lines of all writes.
abbrev pub writes_lines : List Write → List ℕ
writes_lines [] = []
writes_lines (write ∷ writes) = write.lines ++ writes_lines writes

-- How a last line begins behind the newline before it.
abbrev pub sum_mark : List ℕ
sum_mark = 10 ∷ codes "{\"kept\":"

-- Whole lines. No line behind the first begins as a last line does.
pub record AreWriteLines (lines : List ℕ) : Type 0 where
  pub front : List ℕ
  pub whole : lines ≡ front ++ 10 ∷ []
  pub plain : (at : ℕ) → OccursAt lines sum_mark at → ⊥

-- A write that can be made: its lines are whole and plain, and the number that it tells has 64 bits.
pub record IsWrite (write : Write) : Type 0 where
  pub lines : AreWriteLines write.lines
  pub kept : write.kept < 2 ^ 64

abbrev pub AreWrites : List Write → Type 0
AreWrites [] = Unit {0}
AreWrites (write ∷ writes) = IsWrite write × AreWrites writes
