use Rattle.rme_process_core.proofs.runs.predict_climb.Goals as goal

pub returns-then-context-ne-ENTERED-clause-foretells : goal.returns-then-context-ne-ENTERED-clause-foretells
returns-then-context-ne-ENTERED-clause-foretells c = λ start begun leads. c.predict_section.ensures.foretells start begun (c.predict_swaps.ensures.leads c.if-context-ne-ENTERED.true start begun leads)
