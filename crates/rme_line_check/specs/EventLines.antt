-- The event of a transcript's line. The names are those of the transcript's first line.
use Rattle.std.specs.Prelude.{ℕ, ◌==◌, ◌&&◌, List, bytes_eq, codes, if◌then◌else◌, Option, Some, None, option_map, option_and_then}
use Rattle.serde_json.specs.Data.{Data}
use Rattle.serde_json.specs.Events.{items_len, members_len}
use Rattle.serde_json.specs.Find.{as_array, as_object, as_str, at, get}
use Rattle.rme_program.specs.declared.note.Note.{Note}
use Rattle.rme_program.specs.declared.note.Note.TheVariants.{Quiet, Asked, Blocked, Entered, Reentered, Finished, Left, Ready, Withdrew}
use Rattle.rme_line_text.specs.declared.event.EventLine.{EventLine}
use Rattle.rme_line_text.specs.declared.event.EventLine.TheVariants as line
use Rattle.rme_line_io.specs.Names.{name_number}
use Rattle.rme_wire.specs.Commands.{worker_member}
use Rattle.rme_wire.specs.Operations.{script_of_value}
use Rattle.rme_wire.specs.Values.{whole_u32, json_value_of, whole_u64, do_member}

-- a text that is the name of a lock
abbrev pub lock_of_name : List (List ℕ) → Data → Option ℕ
lock_of_name names d = option_and_then (name_number names) (as_str d)

-- `{"do":"submit","lock":..,"number":..,"script":..,"worker":..}`
unfoldable pub handed_line_of : List (List ℕ) → ℕ → Data → Option EventLine
handed_line_of names count d =
    if count == 5 then option_and_then (λ worker. option_and_then
    (λ number. option_and_then (λ lock. option_map
    (λ script. line.Submit record {
      worker = worker;
      job = record { lock = lock; script = script };
      number = number;
    })
    (option_and_then script_of_value (get (codes "script") d)))
    (option_and_then (lock_of_name names) (get (codes "lock") d)))
    (option_and_then whole_u32 (get (codes "number") d))) (worker_member d) else None

-- `{"do":WORD,"worker":..}`
abbrev pub event_by : List ℕ → ℕ → Option EventLine
event_by word worker =
    if bytes_eq word (codes "crash") then Some (line.Crash worker)
    else (if bytes_eq word (codes "restart") then Some (line.Restart worker)
    else (if bytes_eq word (codes "withdraw") then Some (line.Withdraw worker)
    else None))

unfoldable pub worker_event : List ℕ → ℕ → Data → Option EventLine
worker_event word count d = if count == 2 then option_and_then (event_by word) (worker_member d) else None

-- `["quiet"]`, `["blocked"]`, `["ready"]`
unfoldable pub bare_note : List ℕ → Option Note
bare_note word =
    if bytes_eq word (codes "quiet") then Some Quiet
    else (if bytes_eq word (codes "blocked") then Some Blocked
    else (if bytes_eq word (codes "ready") then Some Ready
    else None))

-- `["asked",k]`, `["withdrew",k]`, `["entered",lock]`, `["reentered",lock]`, `["left",lock]`
unfoldable pub note_with_value : List (List ℕ) → List ℕ → Data → Option Note
note_with_value names word d =
    if bytes_eq word (codes "asked") then option_map Asked (whole_u32 d)
    else (if bytes_eq word (codes "withdrew") then option_map Withdrew (whole_u32 d)
    else (if bytes_eq word (codes "entered") then option_map Entered (lock_of_name names d)
    else (if bytes_eq word (codes "reentered") then option_map Reentered (lock_of_name names d)
    else (if bytes_eq word (codes "left") then option_map Left (lock_of_name names d)
    else None))))

-- `["finished",lock,number,place,reply]`
unfoldable pub finished_note_of : List (List ℕ) → ℕ → Data → Option Note
finished_note_of names worker d =
    option_and_then (λ lock. option_and_then
    (λ number. option_and_then (λ place. option_map
    (λ reply. Finished record { worker = worker; lock = lock; number = number; place = place; reply = reply })
    (option_and_then whole_u64 (at 4 d))) (option_and_then whole_u32 (at 3 d))) (option_and_then whole_u32 (at 2 d)))
    (option_and_then (lock_of_name names) (at 1 d))

-- a note after its name, of a list with this number of items
abbrev pub note_named : List (List ℕ) → ℕ → ℕ → List ℕ → Data → Option Note
note_named names worker count word d =
    if count == 1 then bare_note word
    else (if count == 2 then option_and_then (note_with_value names word) (at 1 d)
    else (if count == 5 && bytes_eq word (codes "finished") then finished_note_of names worker d
    else None))

-- the note of a value, for this worker
unfoldable pub note_of_value : List (List ℕ) → ℕ → Data → Option Note
note_of_value names worker d =
    option_and_then (λ items. option_and_then (λ word. note_named names worker (items_len items) word d)
    (option_and_then as_str (at 0 d))) (as_array d)

-- `{"do":"note","note":[..],"worker":..}`
unfoldable pub note_line_of : List (List ℕ) → ℕ → Data → Option EventLine
note_line_of names count d =
    if count == 3 then option_and_then (λ worker. option_map (line.Note worker)
    (option_and_then (note_of_value names worker) (get (codes "note") d))) (worker_member d) else None

-- the event line of an object with this number of keys, whose `do` is this word
unfoldable pub event_named : List (List ℕ) → List ℕ → ℕ → Data → Option EventLine
event_named names word count d =
    if bytes_eq word (codes "submit") then handed_line_of names count d
    else (if bytes_eq word (codes "note") then note_line_of names count d
    else worker_event word count d)

-- the event line of a value, an object with a member `do`
unfoldable pub event_of_value : List (List ℕ) → Data → Option EventLine
event_of_value names d =
    option_and_then (λ members. option_and_then (λ word. event_named names word (members_len members) d) (do_member d))
    (as_object d)

abbrev pub event_of_line : List (List ℕ) → List ℕ → Option EventLine
event_of_line names bytes = option_and_then (event_of_value names) (json_value_of bytes)
