use Rattle.std.proofs.Common.{ℕ, ◌∙◌, sym, subst}
use Rattle.std.specs.Prelude.{Err}
use Rattle.rme_supervisor.specs.Stops.{StopIsAStall, gate_view}
use Rattle.rme_supervisor.proofs.Fallen.{asked_on, fared_on}
use Rattle.rme_supervisor.proofs.Stalling.{stalls_so, tried_on}
use Rattle.rme_supervisor.proofs.life.run_jobs.Goals as goal

pub loop-preserved : goal.loop-preserved
loop-preserved g c =
    let so = c.loop.invariant in
    let made = c.in-Ok.ensures in record {
      own = record { ident_is = made.stop.ident_is ∙ sym c.requires.ours; own = made.stop.own ∙ so.own.own };
      falls = asked_on c.args.trail.now.falls c.loop.trail.falls c.run_next_job.new.trail.falls c.args.ready c.loop.ready c.in-Ok.next 0 so.falls made.falls;
      tries = tried_on c.args.trail.now.tries c.loop.trail.tries c.run_next_job.new.trail.tries c.args.ready c.loop.ready c.in-Ok.next so.most so.tries made.tries;
      most = made.most ∙ so.most;
    }

pub returns-in-Err-clause-falls : goal.returns-in-Err-clause-falls
returns-in-Err-clause-falls g c =
    fared_on c.args.trail.now.falls c.loop.trail.falls c.run_next_job.new.trail.falls c.args.ready c.loop.ready (Err c.in-Err.stop) c.loop.invariant.falls c.in-Err.ensures.falls

pub returns-in-Err-clause-stalls : goal.returns-in-Err-clause-stalls
returns-in-Err-clause-stalls g c =
    let gate = gate_view (g.G.Gate.answered c.args.orders.now.gate.now) g.G.Gate.lets_all c.args.orders.now.service.now.shape in
    let new = c.run_next_job.new.trail.tries in
    let P : ℕ → Type 0 = λ worker. StopIsAStall gate worker new c.in-Err.stop in
    subst P c.loop.invariant.own.own (stalls_so gate c.loop.ready c.in-Some-job.job.now c.loop.trail.tries.most new c.in-Err.stop c.in-Err.ensures.stalls)
