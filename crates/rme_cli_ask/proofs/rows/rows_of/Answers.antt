use Rattle.std.proofs.Common.{◌≡◌, ◌++◌, ◌∷◌, [], rules}
use Rattle.rme_cli_ask.specs.Tables.{titles_view}
use Rattle.rme_cli_ask.proofs.MoreRows.{numbered_more}
use Rattle.rme_cli_ask.proofs.rows.rows_of.Goals as goal

pub loop-number-preserved : goal.loop-number-preserved
loop-number-preserved g c =
    let pushed : c.push.new.self.items ≡ c.loop-number.rows.items ++ c.in_ok-row.field-0 ∷ [] = search rules in
    rw pushed (numbered_more (g.V.RowOf.cells_of c.args.view.now) (titles_view c.args.titles.now) c.loop-number.rows.items c.in_ok-row.field-0 c.args.items.now
    c.loop-number.number c.index-items-number.result c.loop-number-test.true c.index-items-number.is c.loop-number.invariant c.in_ok-row.ensures)
