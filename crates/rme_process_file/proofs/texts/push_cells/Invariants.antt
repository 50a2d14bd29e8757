-- The written text, with that of the rest, is the text of all.
use Rattle.std.proofs.Common.{string_bytes, drop, decimal}
use Rattle.rme_line_text.proofs.TextLemmas.{Separates}
use Rattle.rme_process_file.proofs.texts.push_cells.Given as goal

abbrev pub invariant-loop-index : goal.invariant-loop-index
invariant-loop-index l = Separates decimal (string_bytes l.fn.out) l.row (string_bytes l.out) l.later (drop l.index l.row)
