-- The state in a log.
use Rattle.std.specs.Prelude.{◌≡◌, ℕ, ◌≤◌, Bool, true, List, length, Option, Some, None, option_map, ⊤}
use Rattle.rme_durable_file.specs.DiskFiles.{AreFileBytes}
use Rattle.rme_replica_state.specs.SealedLogs.{AreLogBytes, plain_lines}
use Rattle.rme_replica_state.specs.declared.replica_state.FoundLog.{FoundLog}

-- The lines that recovery reads, if they are known, and the number of appends.
pub record LogState : Type 0 where
  pub lines : Option (List ℕ)
  pub appends : ℕ

-- The lines in the bytes of a log, if they are known.
abbrev pub log_lines : Option (List ℕ) → Option (List ℕ)
log_lines bytes = option_map plain_lines bytes

-- The bytes of a log, if they are known, are those of this number of writes.
abbrev pub IsLogOf : Option (List ℕ) → ℕ → Type 0
IsLogOf None number = ⊤
IsLogOf (Some bytes) number = AreLogBytes number bytes

-- The lines of a log, if they are known, have at most this length.
abbrev pub HasLinesWithin : Option (List ℕ) → ℕ → Type 0
HasLinesWithin None most = ⊤
HasLinesWithin (Some bytes) most = length (plain_lines bytes) ≤ most

-- Once the lines were asked for, the log is known to be writes.
abbrev pub WereLinesRead : Option ℕ → Option (List ℕ) → ℕ → Type 0
WereLinesRead None bytes number = ⊤
WereLinesRead (Some most) bytes number = IsLogOf bytes number × HasLinesWithin bytes most

-- A log that was read and not claimed has the bytes that were read; one that was claimed, and takes lines, is writes.
abbrev pub IsStateOfLog : Option FoundLog → Bool → Option (List ℕ) → ℕ → Type 0
IsStateOfLog None owns bytes number = owns ≡ true → IsLogOf bytes number
IsStateOfLog (Some found) owns bytes number =
    AreFileBytes bytes found.bytes.items × WereLinesRead found.lines bytes number
