-- How the next write of a log is made.
use Rattle.std.specs.Prelude.{◌≡◌, ℕ, suc, ◌^◌, ◌≤◌, List}
use Rattle.rme_durable_writes.specs.Writes.{AreWriteLines, IsWrite, write_text}
use Rattle.rme_durable_writes.specs.declared.write_sealer.SealError.{SealError}
use Rattle.rme_durable_writes.specs.declared.write_sealer.SealError.TheVariants.{NoMemory, NotLines, TooMany}

-- A log as it is made: the number of its last write, and of the last that is known to be with the disk.
pub record SealerState : Type 0 where
  pub number : ℕ
  pub kept : ℕ

-- A log without writes.
abbrev pub new_log : SealerState
new_log = record { number = 0; kept = 0 }

-- These bytes are the next write of a log, with these lines.
pub record IsSealed (log : SealerState) (lines bytes : List ℕ) : Type 0 where
  pub is : IsWrite record { kept = log.kept; lines = lines }
  pub are : bytes ≡ write_text (suc log.number) record { kept = log.kept; lines = lines }

-- Why these lines are not made a write.
abbrev pub IsWhyNotLines : List ℕ → SealError → Type 0
IsWhyNotLines lines NoMemory = Unit {0}
IsWhyNotLines lines NotLines = AreWriteLines lines → ⊥
IsWhyNotLines lines TooMany = ⊥

-- Why these lines are not made the next write of a log.
abbrev pub IsWhyNotSealed : SealerState → List ℕ → SealError → Type 0
IsWhyNotSealed log lines NoMemory = Unit {0}
IsWhyNotSealed log lines NotLines = AreWriteLines lines → ⊥
IsWhyNotSealed log lines TooMany = 2 ^ 64 ≤ suc log.number
