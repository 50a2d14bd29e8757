-- The written text, with that of the rest, is the text of all.
use Rattle.std.proofs.Common.{string_bytes, drop, decimal}
use Rattle.rme_line_text.proofs.TextLemmas.{Separates}
use Rattle.rme_durable_lookups.proofs.status.push_cell_values.Given as goal

abbrev pub invariant-loop-cell : goal.invariant-loop-cell
invariant-loop-cell l = Separates decimal (string_bytes l.fn.out) l.row (string_bytes l.out) l.later (drop l.cell l.row)
