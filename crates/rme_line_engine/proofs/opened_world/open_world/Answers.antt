use Rattle.std.proofs.Common.{ap, ◌∙◌}
use Rattle.rme_world.specs.WorldViews.{WorldView}
use Rattle.rme_line_engine.specs.Tallies.{empty_tally}
use Rattle.rme_line_engine.proofs.opened_world.open_world.Goals as goal

pub returns-clause-ok : goal.returns-clause-ok
returns-clause-ok c =
    let given = c.in-Ok.ensures.ok in
    let tallied = c.new-2.ensures ∙ ap (λ (w : WorldView). record { world = w; tally = empty_tally }) c.in-Ok-new.ensures.opens in
    (given.0, given.1, (c.in-Ok.given.1, given.2, tallied))
