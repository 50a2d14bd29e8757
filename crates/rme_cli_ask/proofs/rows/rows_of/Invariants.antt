use Rattle.std.proofs.Common.{◌≡◌, ◌∷◌, take}
use Rattle.rme_cli_ask.specs.Tables.{numbered_rows, rows_view, titles_view}
use Rattle.rme_cli_ask.proofs.rows.rows_of.Given as goal

abbrev pub invariant-loop-number : goal.invariant-loop-number
invariant-loop-number g l = rows_view l.rows.items ≡ titles_view l.titles ∷ numbered_rows (g.V.RowOf.cells_of l.view) 0 (take l.number l.items)
