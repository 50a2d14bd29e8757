-- The written text, with that of the rest, is the text of all.
use Rattle.std.proofs.Common.{string_bytes, drop}
use Rattle.rme_line_text.specs.Texts.{quoted_text}
use Rattle.rme_line_text.proofs.TextLemmas.{Separates}
use Rattle.rme_space_orders.proofs.space_reply.push_space_names.Given as goal

abbrev pub invariant-loop-name : goal.invariant-loop-name
invariant-loop-name l = Separates quoted_text (string_bytes l.fn.text) l.names (string_bytes l.text) l.later (drop l.name-index l.names)
