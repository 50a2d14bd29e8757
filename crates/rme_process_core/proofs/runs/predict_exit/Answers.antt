use Rattle.rme_process_core.proofs.runs.predict_exit.Goals as goal

pub returns-then-height-gt1-clause-foretells : goal.returns-then-height-gt1-clause-foretells
returns-then-height-gt1-clause-foretells c = λ start begun leads.
    c.predict_node_releases.ensures.foretells start begun (c.predict_root_release.ensures.leads c.if-context-ne-LEFT.true c.if-height-gt1.true start begun leads)
