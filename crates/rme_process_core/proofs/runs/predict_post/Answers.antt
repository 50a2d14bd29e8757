use Rattle.std.proofs.Common.{◌+◌}
use Rattle.rme_process_core.proofs.runs.predict_post.Goals as goal

pub returns-then-context-ne-ASKED-clause-foretells : goal.returns-then-context-ne-ASKED-clause-foretells
returns-then-context-ne-ASKED-clause-foretells c = c.predict_climb.ensures.foretells c.args.private.now (c.args.private.now.begun + 1) (c.predict_slate_stores.ensures.leads c.if-context-ne-ASKED.true)
