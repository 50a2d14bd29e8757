use Rattle.std.proofs.Common.{◌≡◌, ◌++◌, drop, string_bytes}
use Rattle.rme_cli_ask.specs.Tables.{cells_view, table_row_text, rows_view}
use Rattle.rme_cli_ask.proofs.table.push_row.Given as goal

abbrev pub invariant-loop-column : goal.invariant-loop-column
invariant-loop-column l =
    string_bytes l.out ++ table_row_text (rows_view l.rows) l.column (cells_view (drop l.column l.cells))
    ≡ string_bytes l.fn.out ++ table_row_text (rows_view l.rows) 0 (cells_view l.cells)
