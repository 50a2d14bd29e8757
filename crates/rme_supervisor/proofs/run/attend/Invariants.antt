use Rattle.rme_supervisor.specs.Stops.{gate_view, run_at_gate}
use Rattle.rme_supervisor.proofs.run.attend.Given as goal

abbrev pub ghosts-run-K-RunTag : goal.ghosts-run-K-RunTag
ghosts-run-K-RunTag g a = record { run = run_at_gate a.context.now.schedule.rounds a.context.now.schedule.plans.now a.downs.items (gate_view (g.G.Gate.answered a.context.now.gate.now) g.G.Gate.lets_all a.context.now.service.now.shape) }

abbrev pub ghosts-run-K-Tag : goal.ghosts-run-K-Tag
ghosts-run-K-Tag g a = record { ident = a.context.now.service.now }
