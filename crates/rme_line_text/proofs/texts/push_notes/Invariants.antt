-- The written text, with that of the rest, is the text of all.
use Rattle.std.proofs.Common.{string_bytes, drop}
use Rattle.rme_line_text.specs.Texts.{note_text}
use Rattle.rme_line_text.proofs.TextLemmas.{Separates}
use Rattle.rme_line_text.proofs.texts.push_notes.Given as goal

abbrev pub invariant-loop-note : goal.invariant-loop-note
invariant-loop-note l = Separates (note_text l.names) (string_bytes l.fn.out) l.notes (string_bytes l.out) l.later (drop l.note-index l.notes)
