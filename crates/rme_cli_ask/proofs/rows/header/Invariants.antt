use Rattle.std.proofs.Common.{◌≡◌, take}
use Rattle.rme_cli_ask.specs.Tables.{row_view, titles_view}
use Rattle.rme_cli_ask.proofs.rows.header.Given as goal

abbrev pub invariant-loop-title : goal.invariant-loop-title
invariant-loop-title l = row_view l.row ≡ titles_view (take l.title-index l.titles)
