use Rattle.std.proofs.Common.{rules}
use Rattle.rme_cli_ask.proofs.look_ups.cells_answer_text.Goals as goal

pub returns-clause-shows : goal.returns-clause-shows
returns-clause-shows c =
    record { cells = c.in_ok-cells.cells; says = c.in_ok-cells.ensures.said; shows = search rules }
