use Rattle.rme_cli_ask.proofs.look_ups.status_answer_text.Goals as goal

pub returns-clause-shows : goal.returns-clause-shows
returns-clause-shows c =
    record { status = c.in_ok-status.status; says = c.in_ok-status.ensures.said; shows = c.in_ok-status_text.ensures }
