use Rattle.std.proofs.Common.{◌≡◌, ◌++◌, take, string_bytes}
use Rattle.std.specs.List.{flat_map}
use Rattle.rme_cli_ask.specs.Tables.{row_line, rows_view}
use Rattle.rme_cli_ask.proofs.table.push_table.Given as goal

abbrev pub invariant-loop-row : goal.invariant-loop-row
invariant-loop-row l =
    string_bytes l.out ≡ string_bytes l.fn.out ++ flat_map (row_line (rows_view l.rows)) (rows_view (take l.row-index l.rows))
