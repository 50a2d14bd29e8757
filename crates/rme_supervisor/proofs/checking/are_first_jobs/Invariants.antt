use Rattle.std.specs.Prelude.{◌≡◌, take}
use Rattle.rme_supervisor.specs.Plans.{planned_jobs}
use Rattle.rme_supervisor.specs.Supervised.{jobs_of_entries}
use Rattle.rme_supervisor.proofs.checking.are_first_jobs.Given as goal

abbrev pub invariant-loop-i : goal.invariant-loop-i
invariant-loop-i l = jobs_of_entries (take l.i l.entries.entries) ≡ take l.i (planned_jobs l.rounds l.plan)
