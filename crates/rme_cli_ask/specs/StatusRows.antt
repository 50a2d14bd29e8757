-- The line about the leader, and the rows of the tables of locks and workers.
use Rattle.std.specs.Prelude.{ℕ, ◌&&◌, Bool, true, false, List, [], ◌∷◌, ◌++◌, codes, decimal, if◌then◌else◌, Option, Some, None, slice_get, string_bytes, String}
use Rattle.std.specs.List.{flat_map}
use Rattle.std.specs.Str.{bytes_eq}
use Rattle.std.specs.declared.alloc.Global.{Global}
use Rattle.rme_ask_client.specs.JobAnswers.{reported_stance_word}
use Rattle.rme_ask_client.specs.declared.job_answers.ReportedStance.{ReportedStance}
use Rattle.rme_ask_client.specs.declared.job_answers.ReportedStance.TheVariants.{Ready, Climb, Held}
use Rattle.rme_ask_client.specs.declared.status_answer.CellsAnswer.{CellsAnswer}
use Rattle.rme_ask_client.specs.declared.status_answer.ReportedLeader.{ReportedLeader}
use Rattle.rme_ask_client.specs.declared.status_answer.ReportedLock.{ReportedLock}
use Rattle.rme_ask_client.specs.declared.status_answer.ServerStatus.{ServerStatus}
use Rattle.rme_ask_client.specs.declared.status_answer.ReportedWorker.{ReportedWorker}
use Rattle.rme_cli_ask.specs.Ages.{age_text}
pub use Rattle.rme_cli_ask.specs.Tables.{row_view, rows_view}
use Rattle.rme_cli_ask.specs.Tables.{lock_table, numbered_rows, table_text}
use Rattle.rme_cli_messages.specs.EscapedTexts.{escaped_text}

-- a number, or this text for `None`
abbrev pub number_or : List ℕ → Option ℕ → List ℕ
number_or nothing None = nothing
number_or nothing (Some number) = decimal number

-- the number of an owner, or `nobody`
abbrev pub owner_cell : Option ℕ → List ℕ
owner_cell owner = number_or (codes "nobody") owner

-- whether a session has the worker of a number
abbrev pub attached_or_not : Option ReportedWorker → Bool
attached_or_not None = false
attached_or_not (Some worker) = worker.attached

abbrev pub has_session : List ReportedWorker → ℕ → Bool
has_session workers number = attached_or_not (slice_get workers number)

-- `held` if a session has the owner, else `DEAD`
abbrev pub owner_state : List ReportedWorker → Option ℕ → List ℕ
owner_state workers None = codes "-"
owner_state workers (Some owner) = if has_session workers owner then codes "held" else codes "DEAD"

-- numbers, separated by commas
abbrev pub next_number_text : ℕ → List ℕ
next_number_text number = codes "," ++ decimal number

abbrev pub number_list_text : List ℕ → List ℕ
number_list_text [] = []
number_list_text (number ∷ numbers) = decimal number ++ flat_map next_number_text numbers

abbrev pub cell_list_text : List ℕ → Bool → List ℕ
cell_list_text cells true = number_list_text cells
cell_list_text cells false = number_list_text cells ++ codes " unsettled"

-- whether a worker waits for the lock of this name
abbrev pub is_climb : ReportedStance → Bool
is_climb Ready = false
is_climb Climb = true
is_climb Held = false

abbrev pub is_lock_named : List ℕ → Option (String Global) → Bool
is_lock_named lock None = false
is_lock_named lock (Some name) = bytes_eq (string_bytes name) lock

abbrev pub waits_for : List ℕ → ReportedWorker → Bool
waits_for lock worker = is_lock_named lock worker.lock && is_climb worker.stance

-- ---- the rows

abbrev pub lock_table_row : List ReportedWorker → ReportedLock → List (List ℕ)
lock_table_row workers lock =
    string_bytes lock.name ∷ owner_cell lock.owner ∷ owner_state workers lock.owner ∷
    cell_list_text lock.cells.items lock.settled ∷ decimal lock.sections ∷ []

abbrev pub lock_header : List (List ℕ)
lock_header = codes "LOCK" ∷ codes "OWNER" ∷ codes "STATE" ∷ codes "CELLS" ∷ codes "SECTIONS" ∷ []

-- a row for each lock, below a header
abbrev pub lock_rows : ServerStatus → List (List (List ℕ))
lock_rows status = lock_header ∷ numbered_rows (λ number. lock_table_row status.workers.items) 0 status.locks.items

abbrev pub session_word : Bool → List ℕ
session_word attached = if attached then codes "yes" else codes "none"

abbrev pub lock_or_nothing : Option (String Global) → List ℕ
lock_or_nothing None = codes "-"
lock_or_nothing (Some lock) = string_bytes lock

-- the time since a stance changed
abbrev pub since_text : Option ℕ → List ℕ
since_text None = codes "-"
since_text (Some seconds) = age_text seconds

-- the name that a client gave
abbrev pub client_text : Option (String Global) → List ℕ
client_text None = codes "-"
client_text (Some name) = escaped_text (string_bytes name)

abbrev pub worker_row : ℕ → ReportedWorker → List (List ℕ)
worker_row number worker =
    decimal number ∷ session_word worker.attached ∷ reported_stance_word worker.stance ∷ lock_or_nothing worker.lock ∷
    decimal worker.number ∷ number_or (codes "-") worker.blocked_by ∷ since_text worker.seconds ∷
    client_text worker.client ∷ []

abbrev pub worker_header : List (List ℕ)
worker_header =
    codes "WORKER" ∷ codes "SESSION" ∷ codes "STANCE" ∷ codes "LOCK" ∷ codes "JOB" ∷ codes "BLOCKED BY" ∷
    codes "SINCE" ∷ codes "AS" ∷ []

-- a row for each worker, below a header
abbrev pub worker_rows : List ReportedWorker → List (List (List ℕ))
worker_rows workers = worker_header ∷ numbered_rows worker_row 0 workers

-- the tables of the locks and of the workers, with an empty line between
abbrev pub status_tables_text : ServerStatus → List ℕ
status_tables_text status =
    table_text (lock_rows status) ++ (codes "\n" ++ table_text (worker_rows status.workers.items))

-- the line that says who leads the log, and an empty one; nothing where the server does not tell it
abbrev pub leader_line : Option ReportedLeader → List ℕ
leader_line None = []
leader_line (Some leader) =
    codes "leader " ++ (escaped_text (string_bytes leader.address) ++ (codes " term " ++ (decimal leader.term ++
    codes "\n\n")))

abbrev pub status_text : ServerStatus → List ℕ
status_text status = leader_line status.leader ++ status_tables_text status

abbrev pub owner_rows : List ℕ → Option ℕ → List (List (List ℕ))
owner_rows lock owner = lock_table lock (codes "OWNER") (owner_cell owner)

abbrev pub cells_rows : List ℕ → CellsAnswer → List (List (List ℕ))
cells_rows lock answer = lock_table lock (codes "CELLS") (cell_list_text answer.cells.items answer.settled)
