use Rattle.rme_table.proofs.Owners.{held_draft}
use Rattle.rme_table.proofs.kinds.Held.job.Goals as goal

pub returns-clause-draft : goal.returns-clause-draft
returns-clause-draft c = held_draft c.self.inside.seat c.args.self.now _ _ _ c.read_job.result c.self.view_is c.self.invariant c.requires.pending c.read_job.ensures.job
