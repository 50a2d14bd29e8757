-- Histories: lists of finished sections, in order of finishing.
use Rattle.std.specs.Prelude.{◌≡◌, ℕ, ◌+◌, ◌<◌, ◌≤◌, Bool, ◌==◌, ◌&&◌, not, List, [], ◌∷◌, ◌++◌, filter, replicate, if◌then◌else◌, Option, Some, None}
use Rattle.std.specs.List.{list_any, range_with_len}
use Rattle.rme_words.specs.declared.shape.Shape.{Shape}
use Rattle.rme_script.specs.declared.job.Job.{Job}
use Rattle.rme_script.specs.Eval.{eval_of}
use Rattle.rme_program.specs.declared.note.Entry.{Entry}
use Rattle.rme_script.specs.Jobs.{IsJob}

-- The entries of a lock, in order.
abbrev pub history_of_lock : List Entry → ℕ → List Entry
history_of_lock history lock = filter (λ (e : Entry). e.receipt.lock == lock) history

-- The entries of a worker, in order.
abbrev pub history_of_worker : List Entry → ℕ → List Entry
history_of_worker history worker = filter (λ (e : Entry). e.receipt.worker == worker) history

-- The number of entries of a lock in a history: the place of its next section.
unfoldable pub place_of : List Entry → ℕ → ℕ
place_of [] lock = 0
place_of (e ∷ es) lock = if e.receipt.lock == lock then 1 + place_of es lock else place_of es lock

-- `lock_row`: the cells after the scripts of a history's entries of a lock, each once, from a given row.
unfoldable pub row_after_entries : List ℕ → List Entry → ℕ → List ℕ
row_after_entries row [] lock = row
row_after_entries row (e ∷ es) lock =
    if e.receipt.lock == lock then row_after_entries (eval_of e.script.ops row).row es lock else row_after_entries row
    es lock

abbrev pub lock_row : Shape → List Entry → ℕ → List ℕ
lock_row shape history lock = row_after_entries (replicate shape.cells 0) history lock

-- The last entry of a lock, and of a worker.
unfoldable pub last_entry_passing : (Entry → Bool) → List Entry → Option Entry
last_entry_passing test [] = None
last_entry_passing test (e ∷ es) = last_or (last_entry_passing test es) (if test e then Some e else None)
  where
    last_or : Option Entry → Option Entry → Option Entry
    last_or (Some later) earlier = Some later
    last_or None earlier = earlier

abbrev pub last_entry_of_lock : List Entry → ℕ → Option Entry
last_entry_of_lock history lock = last_entry_passing (λ (e : Entry). e.receipt.lock == lock) history

abbrev pub last_entry_of_worker : List Entry → ℕ → Option Entry
last_entry_of_worker history worker = last_entry_passing (λ (e : Entry). e.receipt.worker == worker) history

-- Whether a worker has an entry of a number.
abbrev pub has_entry : List Entry → ℕ → ℕ → Bool
has_entry history worker number =
    list_any (λ (e : Entry). (e.receipt.worker == worker) && (e.receipt.number == number)) history

-- The withdrawn numbers of a worker: the numbers 1 .. done without an entry, rising.
abbrev pub withdrawn_numbers : List Entry → ℕ → ℕ → List ℕ
withdrawn_numbers history worker done = filter (λ (k : ℕ). not (has_entry history worker k)) (range_with_len 1 done)

-- The numbers of a worker's entries, in order.
unfoldable pub numbers_of_worker : List Entry → ℕ → List ℕ
numbers_of_worker [] worker = []
numbers_of_worker (e ∷ es) worker =
    if e.receipt.worker == worker then e.receipt.number ∷ numbers_of_worker es worker else numbers_of_worker es worker

-- Numbers that rise strictly, above `low` and up to `most`.
abbrev pub NumbersRise : ℕ → ℕ → List ℕ → Type 0
NumbersRise low most [] = Unit {0}
NumbersRise low most (k ∷ ks) = (low < k) × (k ≤ most) × NumbersRise k most ks

-- The job of an entry.
abbrev pub entry_job : Entry → Job
entry_job e = record { lock = e.receipt.lock; script = e.script }

-- An entry follows from the earlier ones: its job is of the shape, its place is the number of earlier entries of its
-- lock, and its reply is that of its script on their fold.
pub record EntryFollows (shape : Shape) (earlier : List Entry) (e : Entry) : Type 0 where
  pub job : IsJob shape (entry_job e)
  pub place : e.receipt.place ≡ place_of earlier e.receipt.lock
  pub reply : e.receipt.reply ≡ (eval_of e.script.ops (lock_row shape earlier e.receipt.lock)).reply

-- An entry is due after the earlier ones if it follows from them and its worker is of the shape.
pub record IsLegalNextEntry (shape : Shape) (earlier : List Entry) (e : Entry) : Type 0 where
  pub worker : e.receipt.worker < shape.workers
  pub follows : EntryFollows shape earlier e

-- Each entry is due after those before it.
abbrev pub HistoryIsLegalAfter : Shape → List Entry → List Entry → Type 0
HistoryIsLegalAfter shape earlier [] = Unit {0}
HistoryIsLegalAfter shape earlier (e ∷ es) =
    IsLegalNextEntry shape earlier e × HistoryIsLegalAfter shape (earlier ++ e ∷ []) es

abbrev pub HistoryIsLegal : Shape → List Entry → Type 0
HistoryIsLegal shape history = HistoryIsLegalAfter shape [] history
