use Rattle.std.proofs.Common.{refl, arith}
use Rattle.rme_world.proofs.Calls.{refused_run, submit_run, submit_begins, roomy_submits, kept_room}
use Rattle.rme_world.proofs.Happening.{hand_kept}
use Rattle.rme_world.proofs.Refusing.{submit_refused, submit_memory}
use Rattle.rme_world.proofs.world.World.submit_with_room.Goals as goal

pub submit_checked-requires-clause-kept : goal.submit_checked-requires-clause-kept
submit_checked-requires-clause-kept c =
    hand_kept _ c.args.worker c.may_submit.ensures.kept c.args.job c.in-Ok.private c.in-Ok.ensures.found c.in-Ok.ensures.ready.0 c.in-Ok.ensures.ready.1 c.in-Ok.ensures.ready.2 c.requires

pub returns-in-Ok-clause-call : goal.returns-in-Ok-clause-call
returns-in-Ok-clause-call c =
    let submits = roomy_submits c.args.self.now c.args.self.now c.args.worker c.args.job c.in-Ok.private refl c.in-Ok.ensures.found c.in-Ok.ensures.ready.2
    c.submit_checked.new.self c.submit_checked.result (omega arith) c.in-Ok.ensures.may c.submit_checked.ensures.number c.submit_checked.ensures.hands in
    record {
      accepted = submits;
      refused = tt;
      unchanged = tt;
      headline = submit_run _ _ _ _ _ c.may_submit.ensures.kept submits;
      room = kept_room _ _
          (hand_kept _ c.args.worker c.may_submit.ensures.kept c.args.job c.in-Ok.private c.in-Ok.ensures.found c.in-Ok.ensures.ready.0 c.in-Ok.ensures.ready.1 c.in-Ok.ensures.ready.2 c.requires)
          c.submit_checked.ensures.hands;
      begins = submit_begins _ _ _ _ _ c.may_submit.ensures.kept submits;
    }

pub returns-in-Err-clause-call : goal.returns-in-Err-clause-call
returns-in-Err-clause-call c = record {
  accepted = tt;
  refused = submit_refused c.args.self.now c.args.worker c.args.job c.in-Err.refusal c.in-Err.ensures.refused;
  unchanged = refl;
  headline = refused_run _ _ _ c.may_submit.ensures.kept;
  room = c.may_submit.ensures.kept.room;
  begins = tt;
}

pub returns-in-Err-clause-memory : goal.returns-in-Err-clause-memory
returns-in-Err-clause-memory c = submit_memory c.args.self.now c.args.worker c.args.job c.in-Err.refusal c.in-Err.ensures.refused
