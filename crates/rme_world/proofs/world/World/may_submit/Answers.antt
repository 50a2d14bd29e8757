use Rattle.std.proofs.Common.{◌∙◌}
use Rattle.rme_world.proofs.Refusing.{job_refused}
use Rattle.rme_world.proofs.world.World.may_submit.Goals as goal

pub returns-in-None-clause-may : goal.returns-in-None-clause-may
returns-in-None-clause-may c =
    job_refused c.args.self.now c.args.worker c.args.job.now c.in-Ok.private c.shape.result c.refusal.result c.shape.ensures c.in-Ok.ensures.found c.in-Resting.is c.refusal.ensures.exact ∙ c.in-None.is

pub returns-in-Some-clause-refused : goal.returns-in-Some-clause-refused
returns-in-Some-clause-refused c =
    job_refused c.args.self.now c.args.worker c.args.job.now c.in-Ok.private c.shape.result c.refusal.result c.shape.ensures c.in-Ok.ensures.found c.in-Resting.is c.refusal.ensures.exact ∙ c.in-Some.is
