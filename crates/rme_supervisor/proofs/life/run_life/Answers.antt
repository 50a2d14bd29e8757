use Rattle.std.specs.Prelude.{Err}
use Rattle.rme_supervisor.proofs.Fallen.{fared_on}
use Rattle.rme_supervisor.proofs.life.run_life.Goals as goal

pub returns-clause-falls : goal.returns-clause-falls
returns-clause-falls g c =
    fared_on c.args.trail.now.falls c.recover_to_ready.new.trail.falls c.run_jobs.new.trail.falls c.args.down c.in-Ok.ready (Err c.run_jobs.result) c.in-Ok.ensures.falls c.run_jobs.ensures.falls
