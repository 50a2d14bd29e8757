-- How the state of a file grows.
use Rattle.std.specs.Prelude.{◌≡◌, ℕ, ◌<◌, List, Option, get_or, [], length}
use Rattle.rme_words.specs.declared.shape.Shape.{Shape}
use Rattle.rme_durable_checkpoint.specs.Checkpoints.{BeginsNextEpoch}
use Rattle.rme_durable_epochs.specs.EpochStates.{EpochState}
use Rattle.rme_durable_checkpoint.specs.Growths.{GrowthShowsSame, HaveSameSizes, KeepsLives}
use Rattle.rme_durable_epochs.specs.LoggedStates.{LoggedSteps, logged_state}
use Rattle.rme_durable_file.specs.DiskFiles.{ReplacesFile}

-- Each lock has the name that it had.
abbrev pub KeepsNames : List (List ℕ) → List (List ℕ) → Type 0
KeepsNames before after = (lock : ℕ) → lock < length before → get_or after lock [] ≡ get_or before lock []

-- By logged orders of one session workers leave their locks; the base and the number of the epoch stay.
pub record LeavesLocks (names : List (List ℕ)) (old new : EpochState) : Type 0 where
  pub session : ℕ
  pub count : ℕ
  pub lines : List ℕ
  pub steps : LoggedSteps names session count (logged_state old.executor old.lives old.lines)
      (logged_state new.executor new.lives lines)
  pub base : new.base ≡ old.base
  pub epoch : new.epoch ≡ old.epoch

-- A new epoch of these sizes begins with some bytes: all that was there shows the same, and all else is new.
pub record BeginsLargerEpoch (shape : Shape) (names : List (List ℕ)) (old : EpochState) (bytes : List ℕ)
    (new : EpochState) : Type 0 where
  pub begins : BeginsNextEpoch names old bytes new
  pub sizes : HaveSameSizes shape new.executor.world.shape
  pub same : GrowthShowsSame old.base old.executor new.base new.executor
  pub lives : KeepsLives old.lives new.lives

-- The bytes of a file, if they are known, are replaced by those with which a larger epoch begins.
abbrev pub ReplacesByLargerEpoch : Shape → List (List ℕ) → EpochState → EpochState → Option (List ℕ)
    → Option (List ℕ) → Type 0
ReplacesByLargerEpoch shape names old new before after =
    (bytes : List ℕ) × BeginsLargerEpoch shape names old bytes new × ReplacesFile before bytes after

-- A file that is open for a server: the names of its locks, the epoch of its state, and its bytes, if they are known.
pub record FileEpoch : Type 0 where
  pub names : List (List ℕ)
  pub epoch : EpochState
  pub bytes : Option (List ℕ)

abbrev pub file_epoch : List (List ℕ) → EpochState → Option (List ℕ) → FileEpoch
file_epoch names epoch bytes = record { names = names; epoch = epoch; bytes = bytes }

-- A state grows to these sizes. First each worker that crashed after its section and before it left its lock leaves it;
-- then a larger epoch replaces the file, in which the locks keep their names.
pub record GrowsState (shape : Shape) (old new : FileEpoch) : Type 0 where
  pub mid : EpochState
  pub exits : LeavesLocks old.names old.epoch mid
  pub kept : KeepsNames old.names new.names
  pub replaces : ReplacesByLargerEpoch shape new.names mid new.epoch old.bytes new.bytes
