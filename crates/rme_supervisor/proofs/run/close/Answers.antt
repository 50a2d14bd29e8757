use Rattle.rme_supervisor.proofs.Ending.{no_memory}
use Rattle.rme_supervisor.proofs.run.close.Goals as goal

pub returns-in-Err-clause-fault : goal.returns-in-Err-clause-fault
returns-in-Err-clause-fault c =
    let un = c.in-Err.ensures.unclosed in
    (no_memory c.args.service c.args.attended.downs.items c.in-Err.unclosed c.requires.all un, un.service, un.downs_back)
