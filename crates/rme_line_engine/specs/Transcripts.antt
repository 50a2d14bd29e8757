-- The transcript of each line: the events that a world accepted, in order, and their answers.
use Rattle.std.specs.Prelude.{◌≡◌, ℕ, List, [], ◌∷◌, ◌++◌, map, Option, Some, None}
use Rattle.rme_program.specs.declared.note.Note.{Note}
use Rattle.rme_line_text.specs.declared.event.EventLine.{EventLine}
use Rattle.rme_line_text.specs.declared.event.EventLine.TheVariants as line
use Rattle.rme_line_text.specs.declared.reply.Reply.{Reply}
use Rattle.rme_line_text.specs.declared.reply.Reply.TheVariants.{Done, Handed, Stepped, Walked as WalkedTo}
use Rattle.rme_line_text.specs.Events.{event_text, opening_text}
use Rattle.rme_wire.specs.declared.command.Command.{Command}
use Rattle.rme_wire.specs.declared.command.Command.TheVariants.{Submit, Step, Walk, Crash, Restart, Withdraw}
use Rattle.rme_wire.specs.declared.request.Request.{Request}
use Rattle.rme_wire.specs.declared.request.Request.TheVariants.{Load, Open, World}
use Rattle.rme_wire.specs.Requests.{request_of_line}
use Rattle.rme_line_io.specs.Pieces.{InputLine, text, too_long}
use Rattle.rme_line_engine.specs.declared.tallied.TalliedWorld.{TalliedWorld}
use Rattle.rme_line_engine.specs.Lines.{RequestEffect, with_newline}
use Rattle.rme_line_engine.specs.EngineStates.{EngineState}
use Rattle.rme_line_engine.specs.WorldWalks.{walk_notes_of}

-- a worker's steps with these notes, without quiet ones
abbrev pub note_events : ℕ → List Note → List EventLine
note_events worker [] = []
note_events worker (note ∷ notes) = map (line.Note worker) (walk_notes_of note) ++ note_events worker notes

-- the events of a command, from its reply: none for a refused command, and none for a look-up
abbrev pub transcript_events_of : Command → Reply → List EventLine
transcript_events_of (Submit worker job) (Handed number) =
    line.Submit record { worker = worker; job = job; number = number } ∷ []
transcript_events_of (Step worker) (Stepped note) = note_events worker (note ∷ [])
transcript_events_of (Walk walk) (WalkedTo walked) = note_events walk.worker walked.notes
transcript_events_of (Crash worker) (Done done) = line.Crash worker ∷ []
transcript_events_of (Restart worker) (Done done) = line.Restart worker ∷ []
transcript_events_of (Withdraw worker) (Done done) = line.Withdraw worker ∷ []
transcript_events_of other reply = []

-- the lines of events, each with its newline
abbrev pub events_text : List (List ℕ) → List EventLine → List ℕ
events_text names [] = []
events_text names (event ∷ events) = with_newline (event_text names event) ++ events_text names events

-- the line of an opening that was not refused
abbrev pub opening_line_text : List (List ℕ) → Option TalliedWorld → Reply → List ℕ
opening_line_text names (Some opened) (Done done) = with_newline (opening_text names opened.world.shape)
opening_line_text names world reply = []

-- a transcript begins with an opening: `load` is no command of one
abbrev pub unless_load : Option Request → Option Request
unless_load None = None
unless_load (Some (Open given)) = Some (Open given)
unless_load (Some (Load given)) = None
unless_load (Some (World command)) = Some (World command)

-- the lines of a request's events, from its reply and the state afterwards
abbrev pub request_events_text : EngineState → Option Request → Reply → List ℕ
request_events_text new None reply = []
request_events_text new (Some (Load given)) reply = []
request_events_text new (Some (Open given)) reply = opening_line_text new.names new.world reply
request_events_text new (Some (World command)) reply = events_text new.names (transcript_events_of command reply)

-- the transcript of a line: its request, if it is no loading, is executed and answered as in other runs, and its events
-- are written; nothing is written for a line that is too long
abbrev pub LineTranscriptBytes : EngineState → InputLine → List ℕ → EngineState → Type 0
LineTranscriptBytes old too_long bytes new = (bytes ≡ []) × (new ≡ old)
LineTranscriptBytes old (text line) bytes new =
    (reply : Reply) × RequestEffect old (unless_load (request_of_line old.names line)) reply new
    × (bytes ≡ request_events_text new (unless_load (request_of_line old.names line)) reply)
