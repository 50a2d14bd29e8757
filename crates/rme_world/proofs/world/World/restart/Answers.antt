use Rattle.std.proofs.Common.{refl}
use Rattle.rme_world.proofs.Calls.{refused_run, restart_run, restarts_by, restart_begins}
use Rattle.rme_world.proofs.Happening.{restart_kept}
use Rattle.rme_world.proofs.world.World.restart.Goals as goal

pub returns-in-Err : goal.returns-in-Err
returns-in-Err c = record { accepted = tt; refused = c.in-Err.ensures.refused; unchanged = refl; headline = refused_run _ _ _ c.down.ensures.kept; begins = tt }

pub put-requires-clause-kept : goal.put-requires-clause-kept
put-requires-clause-kept c = rw c.restart.ensures (restart_kept c.args.self.now c.args.worker c.down.ensures.kept c.in_default.ensures.found)

pub returns : goal.returns
returns c =
    let restarts = restarts_by _ _ _ c.in_default.ensures.found (rw c.restart.ensures at c.put.ensures) in
    record { accepted = restarts; refused = tt; unchanged = tt; headline = restart_run _ _ _ c.down.ensures.kept restarts; begins = restart_begins _ _ _ c.down.ensures.kept restarts }
