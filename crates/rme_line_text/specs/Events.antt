-- The events of a transcript's lines, and their texts.
use Rattle.std.specs.Prelude.{ℕ, List, ◌++◌, codes, decimal}
use Rattle.rme_words.specs.declared.shape.Shape.{Shape}
use Rattle.rme_program.specs.declared.note.Note.{Note}
use Rattle.rme_program.specs.declared.event.Answer.{Answer}
use Rattle.rme_program.specs.declared.event.Answer.TheVariants as answer
use Rattle.rme_program.specs.declared.event.Event.{Event}
use Rattle.rme_program.specs.declared.event.Event.TheVariants as event
use Rattle.rme_line_text.specs.declared.event.EventLine.{EventLine}
use Rattle.rme_line_text.specs.declared.event.EventLine.TheVariants.{Submit, Crash, Restart, Withdraw, Note as Noted}
use Rattle.rme_line_text.specs.declared.event.HandedJob.{HandedJob}
use Rattle.rme_line_text.specs.Texts.{lock_name, names_text, note_text, ops_text, script_end}

-- the request to the worker
abbrev pub line_event : EventLine → Event
line_event (Submit handed) = event.Submit handed.worker handed.job
line_event (Crash worker) = event.Crash worker
line_event (Restart worker) = event.Restart worker
line_event (Withdraw worker) = event.Withdraw worker
line_event (Noted worker note) = event.Step worker

-- its answer
abbrev pub line_answer : EventLine → Answer
line_answer (Submit handed) = answer.Handed handed.number
line_answer (Crash worker) = answer.Crashed
line_answer (Restart worker) = answer.Restarted
line_answer (Withdraw worker) = answer.Withdrawing
line_answer (Noted worker note) = answer.Stepped note

-- the text of a submission before its script's operations
abbrev pub handed_front : List ℕ → ℕ → List ℕ
handed_front name number =
    codes "{\"do\":\"submit\",\"lock\":\"" ++ (name ++ (codes "\",\"number\":" ++
    (decimal number ++ codes ",\"script\":[")))

-- `{"do":"submit","lock":..,"number":..,"script":[..],"worker":..}`
abbrev pub handed_text : List (List ℕ) → HandedJob → List ℕ
handed_text names h =
    handed_front (lock_name names h.job.lock) h.number ++ (ops_text h.job.script.ops ++ script_end h.worker)

-- the text of a note's line after the note
abbrev pub worker_end : ℕ → List ℕ
worker_end worker = codes ",\"worker\":" ++ (decimal worker ++ codes "}")

-- `{"do":"note","note":[..],"worker":..}`
abbrev pub note_line_text : List (List ℕ) → ℕ → Note → List ℕ
note_line_text names worker note = codes "{\"do\":\"note\",\"note\":" ++ (note_text names note ++ worker_end worker)

abbrev pub event_text : List (List ℕ) → EventLine → List ℕ
event_text names (Submit handed) = handed_text names handed
event_text names (Crash worker) = codes "{\"do\":\"crash\",\"worker\":" ++ (decimal worker ++ codes "}")
event_text names (Restart worker) = codes "{\"do\":\"restart\",\"worker\":" ++ (decimal worker ++ codes "}")
event_text names (Withdraw worker) = codes "{\"do\":\"withdraw\",\"worker\":" ++ (decimal worker ++ codes "}")
event_text names (Noted worker note) = note_line_text names worker note

-- the text of an opening before and after its names
abbrev pub opening_front : ℕ → ℕ → List ℕ
opening_front cells jobs =
    codes "{\"cells\":" ++ (decimal cells ++
    (codes ",\"do\":\"open\",\"jobs\":" ++ (decimal jobs ++ codes ",\"locks\":[")))

abbrev pub opening_end : ℕ → List ℕ
opening_end workers = codes "],\"workers\":" ++ (decimal workers ++ codes "}")

-- `{"cells":..,"do":"open","jobs":..,"locks":[..],"workers":..}`
abbrev pub opening_text : List (List ℕ) → Shape → List ℕ
opening_text names shape = opening_front shape.cells shape.jobs ++ (names_text names ++ opening_end shape.workers)
