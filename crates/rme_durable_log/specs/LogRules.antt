-- The log as threads share it: its rule, and what the appender and the writer know of it.
use Rattle.std.specs.Prelude.{◌≡◌, ◌<◌, ℕ, suc, Bool, true, false, List, [], ◌∷◌, ◌++◌, length, drop, Option, Some, None, IfSome}
use mathlib.Core.List.{IsPrefix}
use Rattle.std.specs.BTreeMap.{BTreeMap, get}
use Rattle.std.specs.Ordering.{nat_cmp}
use Rattle.logbook.specs.Pages.{Cell, Step, View, Book, Named}
use Rattle.rme_durable_log.specs.declared.log_entry.LogEntry.{LogEntry}
use Rattle.rme_durable_log.specs.declared.log_entry.LogEntry.TheVariants.{Barrier, Lines, Whole}
use Rattle.rme_durable_log.specs.StoreCalls.{StoreState, barriers_after}
use Rattle.rme_durable_log.specs.Logs.{IsLogDurable, KeepEarlierBytes, AreNotByAuthor, barrier_count}

-- The first entry has the store's initial contents. One word has the number of entries appended after it.
pub record IsLogState (cells : List Cell) (log : List LogEntry) : Type 0 where
  pub told : ℕ
  pub words : cells ≡ (told, true) ∷ []
  pub counted : length log ≡ suc told

abbrev pub log_head : Book → Named
log_head book = record { tracked = true; key = 0; book = book }

-- An entry is appended after all entries seen; or others were appended before it.
abbrev pub AppendsEntry : Step LogEntry → View LogEntry ℕ → ℕ → View LogEntry ℕ → Type 0
AppendsEntry step before found after = (found ≡ step.old) → after.0 ≡ before.0 ++ step.ask ∷ []

-- The durable mark: this number of entries after the first were stored.
pub record IsDurableMark {X : Type 0} (holds : X → StoreState) (count : ℕ) (log : List LogEntry) : Type 0 where
  pub start : List LogEntry
  pub begins : IsPrefix start log
  pub counted : length start ≡ suc count
  pub held : IsLogDurable holds start

-- The initial contents of a store.
abbrev pub known_bytes : Option (List ℕ) → List ℕ
known_bytes None = []
known_bytes (Some bytes) = bytes

-- The lines among entries.
abbrev pub entry_lines : List LogEntry → List ℕ
entry_lines [] = []
entry_lines (Lines author lines ∷ log) = lines ++ entry_lines log
entry_lines (Whole bytes ∷ log) = entry_lines log
entry_lines (Barrier ∷ log) = entry_lines log

-- The entries after those that were taken.
abbrev pub entries_behind : List LogEntry → List LogEntry → List LogEntry
entries_behind taken told = drop (length taken) told

-- Only lines and barriers were appended since, and this is the text of the lines.
pub record AreLinesSince (taken : List LogEntry) (log : List LogEntry) (lines : List ℕ) : Type 0 where
  pub entries : List LogEntry
  pub all : KeepEarlierBytes entries
  pub told : log ≡ taken ++ entries
  pub come : lines ≡ entry_lines entries

-- A batch for the writer: the lines since a position. If the store is shared, it has one barrier.
pub record IsBatch (shared : Bool) (from : List LogEntry) (upto : List LogEntry) (lines : List ℕ) : Type 0 where
  pub since : AreLinesSince from upto lines
  pub barriers : barrier_count upto ≡ barriers_after shared (barrier_count from)

-- A log when its lines were taken: behind them a barrier follows, if the store is shared.
abbrev pub log_as_taken : Bool → List LogEntry → List LogEntry
log_as_taken true log = log ++ Barrier ∷ []
log_as_taken false log = log

-- The author of an entry is one of the first `authors`.
abbrev pub IsAuthorBelow : ℕ → LogEntry → Type 0
IsAuthorBelow authors (Lines author lines) = author < authors
IsAuthorBelow authors (Whole bytes) = Unit {0}
IsAuthorBelow authors Barrier = Unit {0}

abbrev pub AreAuthorsBelow : ℕ → List LogEntry → Type 0
AreAuthorsBelow authors [] = Unit {0}
AreAuthorsBelow authors (entry ∷ log) = IsAuthorBelow authors entry × AreAuthorsBelow authors log

-- An author that may append is one of the first `authors`, and none of its entries comes after the first `last` ones,
-- counted from the one after the log's first.
pub record IsLastEntryOf (authors : ℕ) (log : List LogEntry) (author : ℕ) (last : ℕ) : Type 0 where
  pub below : author < authors
  pub others : AreNotByAuthor author (drop (suc last) log)

abbrev pub AreLastOfAuthors : ℕ → List LogEntry → BTreeMap ℕ ℕ → Type 0
AreLastOfAuthors authors log lasts = (author : ℕ) → IfSome (get nat_cmp lasts author) (IsLastEntryOf authors log author)

-- The log, the pending lines, which nobody has taken yet, and the number of authors.
pub record AppenderState : Type 0 where
  pub log : List LogEntry
  pub waits : List ℕ
  pub authors : ℕ

pub record AppenderInvariant (book : Book) (head : Named) (taken : List LogEntry) (told : List LogEntry) (authors : ℕ)
    (lasts : BTreeMap ℕ ℕ) : Type 0 where
  pub head_is : head ≡ log_head book
  pub some : 0 < length taken
  pub since : AreLinesSince taken told (entry_lines (entries_behind taken told))
  pub barriers : barrier_count told ≡ barrier_count taken
  pub by : AreAuthorsBelow authors told
  pub lasts_are : AreLastOfAuthors authors told lasts

-- A log that was just opened over a store.
pub record OpenLogInvariant {X : Type 0} (holds : X → StoreState) (store : X) (head : Named) (kept : Named)
    (book : Book) (log : List LogEntry) : Type 0 where
  pub works : (holds store).works ≡ true
  pub barriers : (holds store).barriers ≡ 0
  pub head_is : head ≡ log_head book
  pub untracked : kept.tracked ≡ false
  pub of_book : kept.book ≡ book
  pub first : log ≡ Whole (known_bytes (holds store).bytes) ∷ []
