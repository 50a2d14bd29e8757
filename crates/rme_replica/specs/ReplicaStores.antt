-- A store over an engine.
use Rattle.std.specs.Prelude.{◌≡◌, ℕ, suc, ◌+◌, ◌≤◌, ◌++◌, Bool, true, List, take, length, string_bytes, Option, Some, None, option_map, ⊤}
use Rattle.std.specs.List.{concat}
use Rattle.rme_durable_log.specs.StoreCalls.{StoreState}
use Rattle.rme_replica.specs.EngineLogs.{EngineLog, HasHead, HeadValue, placed}
use Rattle.rme_replica.specs.declared.replica_log.Claimant.{Claimant}

-- The head of the log and the bytes that the store's own head names, if they are known; that head; whether no append
-- has failed; whether the store still takes lines: not once it was fenced, an answer stayed lost, or it was stopped; and
-- the number of its appends.
pub record ReplicaStore : Type 0 where
  pub top : Option HeadValue
  pub bytes : Option (List ℕ)
  pub head : HeadValue
  pub works : Bool
  pub owns : Bool
  pub appends : ℕ

abbrev pub log_top : Option EngineLog → Option HeadValue
log_top log = option_map (λ known. known.head) log

abbrev pub own_bytes : HeadValue → Option EngineLog → Option (List ℕ)
own_bytes head log = option_map (λ known. known.bytes_at head) log

abbrev pub IsTop : Option HeadValue → HeadValue → Type 0
IsTop None head = ⊤
IsTop (Some top) head = top ≡ head

-- The log is the store's own: its head, if it is known, is the store's.
abbrev pub IsOwn : ReplicaStore → Type 0
IsOwn store = IsTop store.top store.head

-- The state of the store of a log.
abbrev pub replica_state : ReplicaStore → StoreState
replica_state store = record { bytes = store.bytes; works = store.works; barriers = store.appends }

-- A store that takes lines knows the head of the log, and has not failed; and the head that it puts next is of the same
-- writer and term.
pub record ReplicaInvariant (log : Option EngineLog) (owns works : Bool) (head next : HeadValue) : Type 0 where
  pub has : owns ≡ true → HasHead log head
  pub working : owns ≡ true → works ≡ true
  pub same : next ≡ placed head next.epoch next.sequence

-- The head by which a writer claims a log: its address and its mark, the next term, and one record more.
pub record IsClaimedBy (seen : HeadValue) (by : Claimant) (head : HeadValue) : Type 0 where
  pub address : head.address ≡ string_bytes by.address
  pub writer : head.writer ≡ by.writer
  pub term : head.term ≡ seen.term + 1
  pub epoch : head.epoch ≡ seen.epoch
  pub sequence : head.sequence ≡ seen.sequence + 1

-- Lines were added behind all bytes.
pub record AppendsToLog (old : ReplicaStore) (lines : List ℕ) (new : ReplicaStore) : Type 0 where
  pub bytes : new.bytes ≡ option_map (λ bytes. bytes ++ lines) old.bytes
  pub works : new.works ≡ old.works
  pub owns : new.owns ≡ true
  pub appends : new.appends ≡ old.appends

-- A writer claimed the log, and added lines behind all bytes.
pub record ClaimsLog (old : ReplicaStore) (by : Claimant) (lines : List ℕ) (new : ReplicaStore) : Type 0 where
  pub head : IsClaimedBy old.head by new.head
  pub bytes : new.bytes ≡ option_map (λ bytes. bytes ++ lines) old.bytes
  pub works : new.works ≡ old.works
  pub owns : new.owns ≡ true
  pub appends : new.appends ≡ suc old.appends

-- These bytes were put in place of all.
pub record ReplacesLog (old : ReplicaStore) (bytes : List ℕ) (new : ReplicaStore) : Type 0 where
  pub replaced : new.bytes ≡ option_map (λ _. bytes) old.bytes
  pub works : new.works ≡ old.works
  pub owns : new.owns ≡ true
  pub appends : new.appends ≡ old.appends

-- The store's own head, and the bytes that it names, are as they were.
pub record KeepsLog (old : ReplicaStore) (new : ReplicaStore) : Type 0 where
  pub bytes : new.bytes ≡ old.bytes
  pub works : new.works ≡ old.works
  pub head : new.head ≡ old.head
  pub appends : new.appends ≡ old.appends

-- The log is as it was, but for its parts, the first of which join to these bytes.
pub record HasPartsOf (count : ℕ) (bytes : List ℕ) (log to : EngineLog) : Type 0 where
  pub head : to.head ≡ log.head
  pub past : to.bytes_at ≡ log.bytes_at
  pub some : count ≤ length to.parts
  pub text : concat (take count to.parts) ≡ bytes

abbrev pub HasStaged : ℕ → List ℕ → Option EngineLog → Option EngineLog → Type 0
HasStaged count bytes None None = ⊤
HasStaged count bytes (Some log) (Some to) = HasPartsOf count bytes log to
HasStaged count bytes None (Some to) = ⊥
HasStaged count bytes (Some log) None = ⊥
