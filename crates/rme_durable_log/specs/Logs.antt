-- The log, and the prefixes of it that a store held.
use Rattle.std.specs.Prelude.{◌≡◌, ◌≢◌, ℕ, suc, ◌<◌, Bool, true, List, [], ◌∷◌, ◌++◌, length, Option, Some, None, ⊤}
use mathlib.Core.List.{IsPrefix}
use Rattle.rme_durable_log.specs.declared.log_entry.LogEntry.{LogEntry}
use Rattle.rme_durable_log.specs.declared.log_entry.LogEntry.TheVariants.{Barrier, Lines, Whole}
use Rattle.rme_durable_log.specs.StoreCalls.{StoreState}

-- The bytes of a log's entries: lines come after all earlier bytes, other bytes replace all earlier ones, and a barrier
-- has none.
abbrev pub log_bytes_after : List ℕ → List LogEntry → List ℕ
log_bytes_after before [] = before
log_bytes_after before (Lines author lines ∷ log) = log_bytes_after (before ++ lines) log
log_bytes_after before (Whole bytes ∷ log) = log_bytes_after bytes log
log_bytes_after before (Barrier ∷ log) = log_bytes_after before log

abbrev pub log_bytes : List LogEntry → List ℕ
log_bytes log = log_bytes_after [] log

-- Bytes, if they are known, are exactly those of these entries.
abbrev pub AreBytesOfLog : Option (List ℕ) → List LogEntry → Type 0
AreBytesOfLog None log = ⊤
AreBytesOfLog (Some bytes) log = bytes ≡ log_bytes log

-- The number of barriers among entries.
abbrev pub barrier_count : List LogEntry → ℕ
barrier_count [] = 0
barrier_count (Lines author lines ∷ log) = barrier_count log
barrier_count (Whole bytes ∷ log) = barrier_count log
barrier_count (Barrier ∷ log) = suc (barrier_count log)

-- A store that takes lines holds exactly the bytes of these entries, and was asked for each barrier among them.
pub record StoreHolds (store : StoreState) (log : List LogEntry) : Type 0 where
  pub works : store.works ≡ true
  pub bytes : AreBytesOfLog store.bytes log
  pub barriers : store.barriers ≡ barrier_count log

-- These entries keep all earlier bytes.
abbrev pub KeepEarlierBytes : List LogEntry → Type 0
KeepEarlierBytes [] = Unit {0}
KeepEarlierBytes (Lines author lines ∷ log) = KeepEarlierBytes log
KeepEarlierBytes (Whole bytes ∷ log) = ⊥
KeepEarlierBytes (Barrier ∷ log) = KeepEarlierBytes log

-- No entry is by this author.
abbrev pub IsNotByAuthor : ℕ → LogEntry → Type 0
IsNotByAuthor author (Lines by lines) = by ≢ author
IsNotByAuthor author (Whole bytes) = Unit {0}
IsNotByAuthor author Barrier = Unit {0}

abbrev pub AreNotByAuthor : ℕ → List LogEntry → Type 0
AreNotByAuthor author [] = Unit {0}
AreNotByAuthor author (entry ∷ log) = IsNotByAuthor author entry × AreNotByAuthor author log

-- THE AUTHOR APPENDED NOTHING: the log has grown, but by no entry of this author.
pub record GrowsByOthers (author : ℕ) (old : List LogEntry) (new : List LogEntry) : Type 0 where
  pub between : List LogEntry
  pub grows : new ≡ old ++ between
  pub others : AreNotByAuthor author between

-- There was a moment at which the store held the bytes of this log, or those and lines after them that were appended
-- later.
pub record WasStored {X : Type 0} (holds : X → StoreState) (log : List LogEntry) : Type 0 where
  pub store : X
  pub later : List LogEntry
  pub keep : KeepEarlierBytes later
  pub held : StoreHolds (holds store) (log ++ later)

-- There was such a moment for each prefix of the log.
abbrev pub IsLogDurable : {X : Type 0} → (X → StoreState) → List LogEntry → Type 0
IsLogDurable holds log = (start : List LogEntry) → IsPrefix start log → 0 < length start → WasStored holds start

-- The store held the log at a moment after the log's last entry was appended: a further entry was stored too.
pub record IsLogConfirmed {X : Type 0} (holds : X → StoreState) (log : List LogEntry) : Type 0 where
  pub later : List LogEntry
  pub some : later ≢ []
  pub held : IsLogDurable holds (log ++ later)

-- WHAT AN ANSWER WAITS FOR: everything before its moment is durable; and if others may write to the store, the log was
-- still its own at some later moment.
pub record IsCommitted {X : Type 0} (shared : Bool) (holds : X → StoreState) (log : List LogEntry) : Type 0 where
  pub durable : IsLogDurable holds log
  pub confirmed : shared ≡ true → IsLogConfirmed holds log
