-- Legal histories: the possible histories of a lock, and the first entry of a list that breaks them.
use Rattle.std.specs.Prelude.{◌≡◌, ℕ, List, map, take, slice_get, Some}
use Rattle.std.specs.List.{All, range_with_len}
use Rattle.rme_words.specs.declared.shape.Shape.{Shape}
use Rattle.rme_script.specs.Eval.{eval_of}
use Rattle.rme_program.specs.declared.note.Entry.{Entry}
use Rattle.rme_script.specs.Jobs.{IsJob}
use Rattle.rme_machine.specs.Histories.{history_of_lock, lock_row, entry_job, EntryFollows}
use Rattle.rme_history.specs.declared.fault.ReplayFault.{ReplayFault}
use Rattle.rme_history.specs.declared.fault.ReplayFault.TheVariants.{Broken, NoMemory}

-- An entry of a lock at a place, after the earlier ones: its reply is that of its script on their fold.
pub record IsLegalLockEntry (shape : Shape) (lock place : ℕ) (earlier : List Entry) (e : Entry) : Type 0 where
  pub of_lock : e.receipt.lock ≡ lock
  pub at_place : e.receipt.place ≡ place
  pub reply : e.receipt.reply ≡ (eval_of e.script.ops (lock_row shape earlier lock)).reply

-- A legal history of a lock: a list of entries of that lock whose i-th entry, from 0, has place i and the reply that
-- `eval` gives on the fold of the earlier ones.
abbrev pub IsLegalLockHistory : Shape → ℕ → List Entry → Type 0
IsLegalLockHistory shape lock history =
    (i : ℕ) (e : Entry) → slice_get history i ≡ Some e → IsLegalLockEntry shape lock i (take i history) e

-- All jobs are of the shape, and each lock's entries are a legal history.
pub record LockHistoriesAreLegal (shape : Shape) (entries : List Entry) : Type 0 where
  pub jobs : All (λ (e : Entry). IsJob shape (entry_job e)) entries
  pub histories : (lock : ℕ) → IsLegalLockHistory shape lock (history_of_lock entries lock)

-- The first entry that does not follow from those before it; those before it are legal.
pub record IsFirstBrokenEntry (shape : Shape) (entries : List Entry) (i : ℕ) : Type 0 where
  pub before : LockHistoriesAreLegal shape (take i entries)
  pub entry : Entry
  pub here : slice_get entries i ≡ Some entry
  pub broken : ¬ EntryFollows shape (take i entries) entry

-- The meaning of a fault. `NoMemory` says nothing of the entries.
abbrev pub ReplayFaultMeans : Shape → List Entry → ReplayFault → Type 0
ReplayFaultMeans shape entries (Broken i) = IsFirstBrokenEntry shape entries i
ReplayFaultMeans shape entries NoMemory = Unit {0}

-- The rows of all locks, in order.
abbrev pub rows_of_locks : Shape → List Entry → List (List ℕ)
rows_of_locks shape entries = map (λ (lock : ℕ). lock_row shape entries lock) (range_with_len 0 shape.locks)
