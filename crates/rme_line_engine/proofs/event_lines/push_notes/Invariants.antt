-- The written text, with that of the remaining notes, is the text of all.
use Rattle.std.proofs.Common.{string_bytes, drop}
use Rattle.rme_line_engine.proofs.ToldLemmas.{Told}
use Rattle.rme_line_engine.proofs.event_lines.push_notes.Given as goal

abbrev pub invariant-loop-note : goal.invariant-loop-note
invariant-loop-note l = Told l.names l.worker (string_bytes l.fn.out) l.notes (string_bytes l.out) (drop l.note-index l.notes)
