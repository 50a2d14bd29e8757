-- The text of each event in the log of a server.
use Rattle.std.specs.Prelude.{ℕ, List, ◌++◌, codes, decimal, Option, Some, None}
use Rattle.rme_session_loop.specs.declared.session_event.SessionEvent.{SessionEvent}
use Rattle.rme_session_loop.specs.declared.session_event.SessionEvent.TheVariants.{Attached, TakesOver, Detached, Ended, Withdrawn, Checkpoint}
use Rattle.rme_cli_listen.specs.declared.event_line.SessionEventLine.{SessionEventLine}
use Rattle.rme_cli_listen.specs.declared.event_line.EventOrigin.{EventOrigin}

abbrev pub connection_text : Option ℕ → List ℕ
connection_text (Some connection) = codes "connection " ++ decimal connection
connection_text None = codes "the server"

abbrev pub origin_text : EventOrigin → Option (List ℕ)
origin_text origin = Some (connection_text origin.0)

abbrev pub event_sentence : List ℕ → SessionEvent → List ℕ
event_sentence by (Attached worker) = by ++ (codes " attached worker " ++ decimal worker)
event_sentence by (TakesOver worker) = by ++ (codes " takes over worker " ++ decimal worker)
event_sentence by (Detached worker) = by ++ (codes " let worker " ++ (decimal worker ++ codes " go"))
event_sentence by (Ended worker) = by ++ (codes " ended, worker " ++ (decimal worker ++ codes " is free"))
event_sentence by (Withdrawn worker) = codes "withdrew the job of worker " ++ decimal worker
event_sentence by (Checkpoint epoch) = codes "checkpoint, epoch " ++ decimal epoch

abbrev pub session_event_text : SessionEventLine → Option (List ℕ)
session_event_text line = Some (event_sentence (connection_text line.connection) line.event)
