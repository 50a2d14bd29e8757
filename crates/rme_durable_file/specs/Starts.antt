-- How a server begins with a file.
use Rattle.std.specs.Prelude.{◌≡◌, ℕ, ◌-◌, ◌^◌, List, [], ◌++◌, Option, Some, None, false, length, min, replicate, ⊤}
use Rattle.rme_session_world.specs.Executors.{HasCrashedAll}
use Rattle.rme_durable_format.specs.BatchCommands.{crash_commands_from}
use Rattle.rme_durable_format.specs.CommandLines.{AppendsCommands}
use Rattle.rme_durable_format.specs.WholeLines.{AreWholeLinesOf}
use Rattle.rme_durable_format.specs.declared.recovery.RecoveredLog.{RecoveredLog}
use Rattle.rme_durable_epochs.specs.EpochStates.{EpochState}
use Rattle.rme_durable_epochs.specs.RecoveredStates.{AreState}
use Rattle.rme_durable_epochs.specs.declared.recovery.RecoveredState.{RecoveredState}

-- A state was read from bytes: from all their whole lines, which have this length.
pub record ReadsState (bytes : List ℕ) (whole : ℕ) (found : RecoveredState) : Type 0 where
  pub lines : List ℕ
  pub are : AreWholeLinesOf bytes lines
  pub length : whole ≡ length lines
  pub state : AreState lines found

-- The same for a file whose bytes are known.
abbrev pub ReadsKnownState : Option (List ℕ) → ℕ → RecoveredState → Type 0
ReadsKnownState None whole found = ⊤
ReadsKnownState (Some bytes) whole found = ReadsState bytes whole found

-- A log is that of the state in a file whose bytes are known.
abbrev pub ReadsKnownLog : Option (List ℕ) → RecoveredLog → Type 0
ReadsKnownLog bytes log =
    (whole : ℕ) × (found : RecoveredState) × ReadsKnownState bytes whole found × (log ≡ found.log)

-- An executor begins with a recovered state, in which no session has a worker: it has crashed each worker that was up.
pub record BeginsFrom (found : RecoveredState) (epoch : EpochState) : Type 0 where
  pub base : epoch.base ≡ found.base
  pub lives : epoch.lives ≡ found.log.lives.items
  pub number : epoch.epoch ≡ found.log.header.epoch
  pub crashed : HasCrashedAll found.log.world epoch.executor.world
  pub nobody : epoch.executor.holders ≡ replicate found.log.world.shape.workers None
  pub works : epoch.failed ≡ false

-- A server begins with the state in the whole lines of a file, its lives among it: a line for each crash with which its
-- executor begins is in the file behind the whole lines. It counts all bytes of that file as the epoch's; the greatest
-- `u64` if that is smaller.
pub record BeginsServer (bytes : List ℕ) (names : List (List ℕ)) (epoch : EpochState) (after : List ℕ) : Type 0 where
  pub whole : ℕ
  pub found : RecoveredState
  pub reads : ReadsState bytes whole found
  pub names_are : names ≡ found.log.names
  pub begins : BeginsFrom found epoch
  pub crashes : List ℕ
  pub written : AppendsCommands names [] (crash_commands_from 0 found.log.world.privates) crashes
  pub after_is : after ≡ reads.lines ++ crashes
  pub taken : epoch.taken ≡ min (length after) (2 ^ 64 - 1)

-- The same for a file whose bytes are known.
abbrev pub BeginsKnownServer : Option (List ℕ) → List (List ℕ) → EpochState → Option (List ℕ) → Type 0
BeginsKnownServer None names epoch after = ⊤
BeginsKnownServer (Some bytes) names epoch after =
    (kept : List ℕ) × (after ≡ Some kept) × BeginsServer bytes names epoch kept
