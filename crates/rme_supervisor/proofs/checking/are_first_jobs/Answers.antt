use Rattle.std.proofs.Common.{rules, sym, ◌∙◌}
use Rattle.rme_supervisor.specs.Plans.{planned_jobs}
use Rattle.rme_supervisor.proofs.Following.{first_more}
use Rattle.rme_supervisor.proofs.checking.are_first_jobs.Goals as goal

pub loop-i-preserved : goal.loop-i-preserved
loop-i-preserved c =
    first_more c.args.entries.now.entries (planned_jobs c.args.rounds c.args.plan.now) c.loop-i.i c.in-Some.entry c.in-Some-job.job.now (sym c.get.ensures ∙ c.in-Some.is) (search rules) (search rules) c.loop-i.invariant
