use Rattle.std.proofs.Common.{sym, ◌∙◌}
use Rattle.rme_world.proofs.Stopping.{found_up}
use Rattle.rme_session_world.proofs.Viewing.{sees_climb, sees_held, sees_ready}
use Rattle.rme_session_world.proofs.session_of_worker.worker_session.Goals as goal

pub returns-in-Ready-clause-sight : goal.returns-in-Ready-clause-sight
returns-in-Ready-clause-sight c =
    sees_ready c.args.world.now c.args.worker c.in-Some.private c.known.ensures.kept (found_up c.args.world.now c.args.worker c.in-Some.private (sym c.known.ensures.known ∙ c.in-Some.is))
    c.read_last_receipt.result (sym c.phase.ensures ∙ c.in-Ready.is) c.read_last_receipt.ensures

pub returns-in-Enter-clause-sight : goal.returns-in-Enter-clause-sight
returns-in-Enter-clause-sight c =
    sees_climb c.args.world.now c.args.worker c.in-Some.private c.known.ensures.kept (found_up c.args.world.now c.args.worker c.in-Some.private (sym c.known.ensures.known ∙ c.in-Some.is))
    c.pending.result (sym c.phase.ensures ∙ c.in-Enter.is) c.pending.ensures.pending c.pending.ensures.job

pub returns-in-Section-clause-sight : goal.returns-in-Section-clause-sight
returns-in-Section-clause-sight c =
    sees_held c.args.world.now c.args.worker c.in-Some.private c.known.ensures.kept (found_up c.args.world.now c.args.worker c.in-Some.private (sym c.known.ensures.known ∙ c.in-Some.is))
    c.pending-in-Section.result (sym c.phase.ensures ∙ c.in-Section.is) c.pending-in-Section.ensures.pending c.pending-in-Section.ensures.job
