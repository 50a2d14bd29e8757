-- The rows of `top`.
use Rattle.std.specs.Prelude.{ℕ, ◌-◌, ◌*◌, ◌/◌, ◌==◌, ◌||◌, ◌^◌, List, [], ◌∷◌, codes, decimal, count_by, if◌then◌else◌, nat_le, Option, Some, None, option_and_then, slice_get, string_bytes}
use Rattle.rme_ask_client.specs.declared.status_answer.ReportedLock.{ReportedLock}
use Rattle.rme_ask_client.specs.declared.status_answer.ServerStatus.{ServerStatus}
use Rattle.rme_ask_client.specs.declared.status_answer.ReportedWorker.{ReportedWorker}
use Rattle.rme_cli_ask.specs.StatusRows.{number_or, owner_state, owner_cell, since_text, waits_for}
pub use Rattle.rme_cli_ask.specs.Tables.{row_view, rows_view}
use Rattle.rme_cli_ask.specs.Tables.{numbered_rows}

-- the seconds since the stance of an owner changed, if the server tells them
abbrev pub owner_seconds : List ReportedWorker → Option ℕ → Option ℕ
owner_seconds workers owner =
    option_and_then (λ worker. worker.seconds) (option_and_then (λ number. slice_get workers number) owner)

-- the jobs a second between two numbers of finished sections, this number of milliseconds apart; `None` if no time
-- passed, or if the jobs in a thousand seconds exceed 64 bits
abbrev pub jobs_per_second : ℕ → ℕ → ℕ → Option ℕ
jobs_per_second before after millis =
    if millis == 0 || nat_le (2 ^ 64) ((after - before) * 1000) then None else Some ((after - before) * 1000 / millis)

-- the same for the lock of this number, which has an earlier status
abbrev pub lock_rate : List ReportedLock → Option ℕ → ℕ → ReportedLock → Option ℕ
lock_rate before millis number lock =
    option_and_then (λ earlier. option_and_then (jobs_per_second earlier.sections lock.sections) millis)
    (slice_get before number)

abbrev pub top_row : List ReportedWorker → List ReportedLock → Option ℕ → ℕ → ReportedLock → List (List ℕ)
top_row workers before millis number lock =
    string_bytes lock.name ∷ owner_cell lock.owner ∷ owner_state workers lock.owner ∷
    since_text (owner_seconds workers lock.owner) ∷
    decimal (count_by (waits_for (string_bytes lock.name)) workers) ∷
    number_or (codes "-") (lock_rate before millis number lock) ∷ []

abbrev pub top_header : List (List ℕ)
top_header =
    codes "LOCK" ∷ codes "OWNER" ∷ codes "STATE" ∷ codes "SINCE" ∷ codes "WAITING" ∷ codes "JOBS/S" ∷ []

-- a row for each lock, below a header; the rates are those since the locks were as before, some milliseconds ago
abbrev pub top_rows : ServerStatus → List ReportedLock → Option ℕ → List (List (List ℕ))
top_rows status before millis =
    top_header ∷ numbered_rows (top_row status.workers.items before millis) 0 status.locks.items
