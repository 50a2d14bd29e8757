-- The written text, with that of the rest, is the text of all.
use Rattle.std.proofs.Common.{string_bytes, drop}
use Rattle.rme_line_text.specs.Texts.{quoted_text}
use Rattle.rme_line_text.proofs.TextLemmas.{Separates}
use Rattle.rme_line_text.proofs.texts.push_names.Given as goal

abbrev pub invariant-loop-number : goal.invariant-loop-number
invariant-loop-number l = Separates quoted_text (string_bytes l.fn.out) l.names (string_bytes l.out) l.later (drop l.number l.names)
