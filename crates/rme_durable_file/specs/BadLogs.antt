-- The faults of files that are no state.
use Rattle.std.specs.Prelude.{◌≡◌, ◌≢◌, ℕ, ◌<◌, ◌≤◌, List, take, codes}
use Rattle.rme_cli_messages.specs.declared.fault.CliFault.{CliFault}
use Rattle.rme_cli_messages.specs.declared.fault.CliFault.TheVariants as told
use Rattle.rme_durable_format.specs.declared.fault.BadLog.{BadLog}
use Rattle.rme_durable_format.specs.declared.fault.BadLog.TheVariants.{Line, NoMemory}

-- Bytes begin as those of a file of words that processes map.
abbrev pub BeginsAsWords : List ℕ → Type 0
BeginsAsWords bytes = take 8 bytes ≡ codes "rmewords"

-- The fault of bytes that are no state for this reason: that memory was refused, or the number of their first bad line.
-- If that is the first line of all, the fault may name another kind of file instead: always if the bytes begin as a
-- file of words, and else perhaps a state of another version.
abbrev pub IsBadLogFault : List ℕ → BadLog → CliFault → Type 0
IsBadLogFault bytes NoMemory fault = fault ≡ told.NoMemory
IsBadLogFault bytes (Line line) (told.BadState path bad) = (bad ≡ line) × (BeginsAsWords bytes → 1 < line)
IsBadLogFault bytes (Line line) (told.StateOfProcesses path) = (line ≤ 1) × BeginsAsWords bytes
IsBadLogFault bytes (Line line) (told.StateOfVersion path version) = (line ≤ 1) × (take 8 bytes ≢ codes "rmewords")
IsBadLogFault bytes (Line line) fault = ⊥
