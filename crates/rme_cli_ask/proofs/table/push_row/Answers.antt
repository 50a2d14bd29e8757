use Rattle.std.proofs.Common.{◌≡◌, ◌++◌, codes, string_bytes, rules, arith}
use Rattle.rme_cli_ask.specs.Tables.{padded_text, rows_view, width_of}
use Rattle.rme_cli_ask.proofs.Tables.{cell_last, cell_more}
use Rattle.rme_cli_ask.proofs.table.push_row.Goals.{then-column-cells+in_ok-push_padded+in_ok-push_str, else-column-cells+in_ok-push_str-2}
use Rattle.rme_cli_ask.proofs.table.push_row.Goals as goal

pub loop-column-preserved : goal.loop-column-preserved
loop-column-preserved c = elim c.if-column-cells.branch [
  | then-column-cells+in_ok-push_padded+in_ok-push_str w ↦
      let put : string_bytes c.if-column-cells.out
      ≡ (string_bytes c.loop-column.out ++ padded_text (width_of (rows_view c.args.rows.now) c.loop-column.column) (string_bytes c.index-cells-column.result))
      ++ codes "  " = search (rules, w) in
      cell_more (rows_view c.args.rows.now) c.args.cells.now c.loop-column.column c.index-cells-column.result _ (string_bytes c.loop-column.out)
      (string_bytes c.if-column-cells.out) (omega (arith, w)) c.index-cells-column.is c.loop-column.invariant put
  | else-column-cells+in_ok-push_str-2 w ↦
      let put : string_bytes c.if-column-cells.out ≡ string_bytes c.loop-column.out ++ string_bytes c.index-cells-column.result = search (rules, w) in
      cell_last (rows_view c.args.rows.now) c.args.cells.now c.loop-column.column c.index-cells-column.result _ (string_bytes c.loop-column.out)
      (string_bytes c.if-column-cells.out) c.loop-column-test.true (omega (arith, w)) c.index-cells-column.is c.loop-column.invariant put
]
