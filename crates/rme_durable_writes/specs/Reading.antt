-- What is read of the bytes of a log: its writes, up to an end that was never known to be with the disk.
use Rattle.std.specs.Prelude.{◌≡◌, ◌⊎◌, ℕ, zero, suc, ◌+◌, ◌^◌, ◌<◌, ◌≤◌, List, [], ◌∷◌, ◌++◌, Some, drop, length, max}
use Rattle.memchr.specs.Find.{IsFirstByte, is_byte}
use Rattle.rme_durable_writes.specs.Writes.{AreWrites, IsWrite, Write, sum_front, write_text, writes_lines, writes_text}
use Rattle.rme_durable_writes.specs.declared.found_writes.ReadError.{ReadError}
use Rattle.rme_durable_writes.specs.declared.found_writes.ReadError.TheVariants.{Changed, NoMemory}

-- The number of the last write that is known to be with the disk, after some writes: the greatest that one of them
-- tells.
abbrev pub greatest_kept : ℕ → List Write → ℕ
greatest_kept kept [] = kept
greatest_kept kept (write ∷ writes) = greatest_kept (max kept write.kept) writes

-- Some bytes begin with a write of this number.
pub record BeginsWithWrite (bytes : List ℕ) (number : ℕ) (write : Write) : Type 0 where
  pub rest : List ℕ
  pub are : bytes ≡ write_text number write ++ rest
  pub is : IsWrite write

-- The bytes behind the first line.
pub record SkipsLine (bytes rest : List ℕ) : Type 0 where
  pub end : ℕ
  pub ends : IsFirstByte (is_byte 10) bytes (Some end)
  pub are : rest ≡ drop (end + 1) bytes

-- Some bytes begin as the last line of a write that was made when the write with this number was with the disk,
-- whatever its checksum is.
pub record IsKeptByFirst (bytes : List ℕ) (number : ℕ) : Type 0 where
  pub kept : ℕ
  pub kept_small : kept < 2 ^ 64
  pub own : ℕ
  pub own_small : own < 2 ^ 64
  pub rest : List ℕ
  pub are : bytes ≡ sum_front kept own ++ rest
  pub later : number ≤ kept

-- The same of the bytes behind this number of lines.
abbrev pub IsKeptAfter : ℕ → List ℕ → ℕ → Type 0
IsKeptAfter zero bytes number = IsKeptByFirst bytes number
IsKeptAfter (suc count) bytes number = (rest : List ℕ) × SkipsLine bytes rest × IsKeptAfter count rest number

-- A line in some bytes tells so.
abbrev pub IsKeptWithin : List ℕ → ℕ → Type 0
IsKeptWithin bytes number = (count : ℕ) × IsKeptAfter count bytes number

-- Some bytes begin with these writes, and not with one more: so these are all that were made before the first that is
-- not whole or not right.
pub record AreAllWrites (bytes : List ℕ) (length_is : ℕ) (writes : List Write) : Type 0 where
  pub rest : List ℕ
  pub are : bytes ≡ writes_text 1 writes ++ rest
  pub long : length_is ≡ length (writes_text 1 writes)
  pub all : AreWrites writes
  pub last : (write : Write) → suc (length writes) < 2 ^ 64 → BeginsWithWrite rest (suc (length writes)) write → ⊥
  pub made : (others : List Write) (behind : List ℕ) → AreWrites others → length others < 2 ^ 64
      → bytes ≡ writes_text 1 others ++ behind → (more : List Write) × (writes ≡ others ++ more)

-- WHAT IS READ: all writes, at least one, and their lines; and no line behind them tells that the next was with the
-- disk.
pub record ReadsWrites (bytes lines : List ℕ) (long number kept : ℕ) : Type 0 where
  pub writes : List Write
  pub are : AreAllWrites bytes long writes
  pub lines_are : lines ≡ writes_lines writes
  pub some : 1 ≤ number
  pub number_is : number ≡ length writes
  pub kept_is : kept ≡ greatest_kept 1 writes
  pub loose : IsKeptWithin are.rest (suc number) → ⊥

-- Why bytes are not read: behind all writes something that was with the disk has changed, or memory was refused.
abbrev pub IsWhyUnread : List ℕ → ReadError → Type 0
IsWhyUnread bytes NoMemory = Unit {0}
IsWhyUnread bytes (Changed long) =
    (writes : List Write) × (are : AreAllWrites bytes long writes)
    × ((writes ≡ []) ⊎ IsKeptWithin are.rest (suc (length writes)))
