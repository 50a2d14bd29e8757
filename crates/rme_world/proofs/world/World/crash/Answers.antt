use Rattle.std.proofs.Common.{refl}
use Rattle.rme_world.proofs.Calls.{refused_run, crash_run, crashes_by}
use Rattle.rme_world.proofs.Happening.{crash_kept}
use Rattle.rme_world.proofs.world.World.crash.Goals as goal

pub returns-in-Err : goal.returns-in-Err
returns-in-Err c = record { accepted = tt; refused = c.in-Err.ensures.refused _; unchanged = refl; headline = refused_run _ _ _ c.up.ensures.kept }

pub put-requires-clause-kept : goal.put-requires-clause-kept
put-requires-clause-kept c = rw c.counts_at.ensures.counts (crash_kept c.args.self.now c.args.worker c.up.ensures.kept c.in_default.field-0 c.in_default.ensures.found)

pub returns : goal.returns
returns c =
    let crashes = crashes_by _ _ _ c.in_default.field-0 _ c.in_default.ensures.found c.counts_at.ensures.counts c.put.ensures in
    record { accepted = crashes; refused = tt; unchanged = tt; headline = crash_run _ _ _ c.up.ensures.kept crashes }
