-- The written text, with that of the rest, is the text of all.
use Rattle.std.proofs.Common.{string_bytes, drop}
use Rattle.rme_line_text.specs.Texts.{entry_text}
use Rattle.rme_line_text.proofs.TextLemmas.{Separates}
use Rattle.rme_line_text.proofs.texts.push_entries.Given as goal

abbrev pub invariant-loop-i : goal.invariant-loop-i
invariant-loop-i l = Separates (entry_text l.names) (string_bytes l.fn.out) l.entries.entries (string_bytes l.out) l.later (drop l.i l.entries.entries)
