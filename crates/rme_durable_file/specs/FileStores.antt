-- A state's storage as the store of a log.
use Rattle.std.specs.Prelude.{ℕ, Bool, true, false, List, Option}
use Rattle.rme_durable_log.specs.StoreCalls.{StoreState}

-- The bytes that recovery reads, if they are known; whether the store still takes lines; whether each append waits for
-- the disk; and how many appends asked a shared storage since the start of the server.
pub record FileStore : Type 0 where
  pub bytes : Option (List ℕ)
  pub works : Bool
  pub syncs : Bool
  pub barriers : ℕ

-- A locked file is never asked whether it is still its own.
abbrev pub barriers_counted : Bool → ℕ → ℕ
barriers_counted true count = count
barriers_counted false count = 0

-- The state of the store of a log.
abbrev pub store_state : Bool → FileStore → StoreState
store_state shared file = record {
  bytes = file.bytes;
  works = file.works;
  barriers = barriers_counted shared file.barriers;
}
