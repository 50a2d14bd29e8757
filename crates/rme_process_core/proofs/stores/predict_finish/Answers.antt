use Rattle.rme_process_core.proofs.stores.predict_finish.Goals as goal

pub returns-then-context-ne-FINISHED-clause-foretells : goal.returns-then-context-ne-FINISHED-clause-foretells
returns-then-context-ne-FINISHED-clause-foretells c = c.predict_exit.ensures.foretells c.args.private.now c.args.private.now.begun (c.predict_section_rest.ensures.leads c.if-context-ne-FINISHED.true)
