-- The worker is the same, it has not fallen, and it may make the same number of sweeps.
use Rattle.std.specs.Prelude.{◌≡◌}
use Rattle.rme_supervisor.specs.Falling.{CountdownWasAsked}
use Rattle.rme_supervisor.specs.Stops.{SweepsWereTried, SeatIsOfWorker}
use Rattle.rme_supervisor.proofs.life.run_jobs.Given as goal

abbrev pub invariant-loop : goal.invariant-loop
invariant-loop g l = record {
  own : SeatIsOfWorker l.initial.ready.ident l.initial.ready.part.worker l.ready;
  falls : CountdownWasAsked l.fn.trail.falls l.trail.falls l.initial.ready l.ready 0;
  tries : SweepsWereTried l.fn.trail.tries l.trail.tries l.initial.ready l.ready;
  most : l.trail.tries.most ≡ l.fn.trail.tries.most;
}
