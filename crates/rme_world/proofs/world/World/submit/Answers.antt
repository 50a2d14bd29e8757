use Rattle.std.proofs.Common.{refl}
use Rattle.rme_world.proofs.Calls.{refused_run, submit_run, submit_begins, roomy_kept, roomy_submits, kept_room}
use Rattle.rme_world.proofs.Refusing.{submit_refused}
use Rattle.rme_world.proofs.world.World.submit.Goals as goal

pub returns-in-Err : goal.returns-in-Err
returns-in-Err c = record {
  accepted = tt;
  refused = submit_refused c.args.self.now c.args.worker c.args.job c.in-Err.refusal c.in-Err.ensures.refused;
  unchanged = refl;
  headline = refused_run _ _ _ c.may_submit.ensures.kept;
  room = c.may_submit.ensures.kept.room;
  begins = tt;
}

pub returns-then-not-make_room : goal.returns-then-not-make_room
returns-then-not-make_room c = rw (c.if-not-make_room.ensures.unchanged refl) record {
  accepted = tt;
  refused = rw c.in-Ok.ensures.may refl;
  unchanged = refl;
  headline = refused_run _ _ _ c.may_submit.ensures.kept;
  room = c.may_submit.ensures.kept.room;
  begins = tt;
}

pub submit_checked-requires-clause-kept : goal.submit_checked-requires-clause-kept
submit_checked-requires-clause-kept c =
    roomy_kept c.args.self.now c.make_room.new.self c.args.worker c.args.job c.in-Ok.private c.make_room.ensures.room c.in-Ok.ensures.found c.in-Ok.ensures.ready.2
    c.make_room.ensures.kept c.in-Ok.ensures.ready.0 c.in-Ok.ensures.ready.1 (rw c.shape.ensures at (c.if-not-make_room.ensures.made refl))

pub returns : goal.returns
returns c =
    let submits = roomy_submits c.args.self.now c.make_room.new.self c.args.worker c.args.job c.in-Ok.private c.make_room.ensures.room c.in-Ok.ensures.found c.in-Ok.ensures.ready.2
    c.submit_checked.new.self c.submit_checked.result c.make_room.ensures.roomier c.in-Ok.ensures.may c.submit_checked.ensures.number c.submit_checked.ensures.hands in
    record {
      accepted = submits;
      refused = tt;
      unchanged = tt;
      headline = submit_run _ _ _ _ _ c.may_submit.ensures.kept submits;
      room = kept_room _ _
          (roomy_kept c.args.self.now c.make_room.new.self c.args.worker c.args.job c.in-Ok.private c.make_room.ensures.room c.in-Ok.ensures.found c.in-Ok.ensures.ready.2
          c.make_room.ensures.kept c.in-Ok.ensures.ready.0 c.in-Ok.ensures.ready.1 (rw c.shape.ensures at (c.if-not-make_room.ensures.made refl))) c.submit_checked.ensures.hands;
      begins = submit_begins _ _ _ _ _ c.may_submit.ensures.kept submits;
    }
