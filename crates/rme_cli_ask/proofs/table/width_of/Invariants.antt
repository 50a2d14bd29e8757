use Rattle.std.proofs.Common.{◌≡◌, take}
use Rattle.rme_cli_ask.specs.Tables.{rows_view, width_of}
use Rattle.rme_cli_ask.proofs.table.width_of.Given as goal

abbrev pub invariant-loop-row : goal.invariant-loop-row
invariant-loop-row l = l.width ≡ width_of (rows_view (take l.row-index l.rows)) l.column
