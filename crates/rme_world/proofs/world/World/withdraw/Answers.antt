use Rattle.std.proofs.Common.{refl}
use Rattle.rme_world.proofs.Calls.{refused_run, withdraw_run, withdraws_by, withdraw_begins, withdraw_bounds, not_climbing}
use Rattle.rme_world.proofs.Happening.{withdraw_kept}
use Rattle.rme_world.proofs.world.World.withdraw.Goals as goal

pub returns-in-Err : goal.returns-in-Err
returns-in-Err c = record { accepted = tt; refused = c.in-Err.ensures.refused _; unchanged = refl; headline = refused_run _ _ _ c.up.ensures.kept; begins = tt; bound = tt }

pub returns-in_default : goal.returns-in_default
returns-in_default c = record {
  accepted = tt;
  refused = not_climbing c.args.self.now c.args.worker c.in-Ok.private c.in-Ok.ensures.found c.in_default.not-Climbing;
  unchanged = refl;
  headline = refused_run _ _ _ c.up.ensures.kept;
  begins = tt;
  bound = tt;
}

pub put-requires-clause-kept : goal.put-requires-clause-kept
put-requires-clause-kept c =
    rw (c.withdraw.ensures, c.begin-counts.ensures, c.counts_at.ensures.counts) (withdraw_kept c.args.self.now c.args.worker c.up.ensures.kept c.in-Ok.private c.in-Climbing.field-0 c.in-Ok.ensures.found c.in-Climbing.is)

pub returns : goal.returns
returns c =
    let withdraws = withdraws_by _ _ _ c.in-Ok.private c.in-Climbing.field-0 c.in-Ok.ensures.found c.in-Climbing.is (rw (c.withdraw.ensures, c.begin-counts.ensures, c.counts_at.ensures.counts) at c.put.ensures) in
    record {
      accepted = withdraws;
      refused = tt;
      unchanged = tt;
      headline = withdraw_run _ _ _ c.up.ensures.kept withdraws;
      begins = withdraw_begins _ _ _ c.up.ensures.kept withdraws;
      bound = withdraw_bounds _ _ _ c.up.ensures.kept withdraws;
    }
