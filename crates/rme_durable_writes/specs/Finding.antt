-- What is found at the front of some bytes: a number, and a write.
use Rattle.std.specs.Prelude.{◌≡◌, ℕ, ◌^◌, ◌<◌, List, ◌++◌}
use Rattle.rme_durable_writes.specs.Writes.{IsWrite, Write, write_text}
use Rattle.rme_durable_writes.specs.declared.found_writes.FirstWrite.{FirstWrite}
use Rattle.rme_durable_writes.specs.declared.sum_line.ReadNumber.{ReadNumber}

-- This number was read, and these bytes stand behind it.
pub record IsNumberRead (number : ℕ) (rest : List ℕ) (read : ReadNumber) : Type 0 where
  pub number_is : read.number ≡ number
  pub rest_is : read.rest.now ≡ rest

-- What was found is this write, with this number, and these bytes stand behind it.
pub record IsThisWrite (number : ℕ) (write : Write) (rest : List ℕ) (found : FirstWrite) : Type 0 where
  pub number_is : found.front.number ≡ number
  pub kept_is : found.front.kept ≡ write.kept
  pub lines_are : found.lines.now ≡ write.lines
  pub rest_is : found.rest.now ≡ rest

-- The write that was found.
abbrev pub write_found : FirstWrite → Write
write_found found = record { kept = found.front.kept; lines = found.lines.now }

-- Some bytes begin with what was found, a write of this number.
pub record IsFoundAt (bytes : List ℕ) (number : ℕ) (found : FirstWrite) : Type 0 where
  pub number_is : found.front.number ≡ number
  pub small : number < 2 ^ 64
  pub are : bytes ≡ write_text number (write_found found) ++ found.rest.now
  pub is : IsWrite (write_found found)
