-- The written text, with that of the rest, is the text of all.
use Rattle.std.proofs.Common.{string_bytes, drop}
use Rattle.rme_line_text.specs.Texts.{op_text}
use Rattle.rme_line_text.proofs.TextLemmas.{Separates}
use Rattle.rme_line_text.proofs.texts.push_ops.Given as goal

abbrev pub invariant-loop-index : goal.invariant-loop-index
invariant-loop-index l = Separates op_text (string_bytes l.fn.out) l.script.ops (string_bytes l.out) l.later (drop l.index l.script.ops)
