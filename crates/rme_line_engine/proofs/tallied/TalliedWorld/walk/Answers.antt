use Rattle.std.proofs.Common.{◌≡◌, ◌+◌, ◌-◌, Ok, Err, arith, refl}
use Rattle.rme_line_text.specs.declared.walked.WalkEnd.TheVariants as end
use Rattle.rme_line_engine.proofs.NoteLemmas.{not_blocked, room_first, room_for, room_more}
use Rattle.rme_line_engine.proofs.WalkLemmas.{completes_ended, completes_first, completes_more, completes_over, completes_refused}
use Rattle.rme_line_engine.proofs.tallied.TalliedWorld.walk.Goals as goal

pub loop-init : goal.loop-init
loop-init c =
    let walk = c.args.walk in record {
      completes = completes_first walk.worker walk.until walk.max (walk.max - 0) c.args.self.now c.new-notes.result (omega arith) c.new-notes.ensures;
      room = room_first c.args.self.now.world walk.worker c.new-notes.result c.new-notes.ensures;
    }

pub push_if_not_quiet-requires : goal.push_if_not_quiet-requires
push_if_not_quiet-requires c other = room_for c.loop.self.world c.step.new.self.world c.args.walk.worker c.loop.notes c.in-Ok.note c.in-Ok.ensures.stepped.accepted c.loop.invariant.room other

pub returns-in-Err : goal.returns-in-Err
returns-in-Err c =
    let walk = c.args.walk in
    let left = walk.max - c.loop.counter in
    let e : left ≡ (walk.max - (c.loop.counter + 1)) + 1 = omega arith in
    (c.loop.notes, Err c.in-Err.refusal, completes_refused walk.worker walk.until walk.max left _ c.args.self.now c.loop.self c.step.new.self c.loop.notes c.in-Err.refusal c.loop.invariant.completes e c.in-Err.ensures, refl)

pub returns-in-Some : goal.returns-in-Some
returns-in-Some c =
    let walk = c.args.walk in
    let left = walk.max - c.loop.counter in
    let e : left ≡ (walk.max - (c.loop.counter + 1)) + 1 = omega arith in
    let ends = c.in-Some.ensures in (
      c.push_if_not_quiet.new.notes,
      Ok c.in-Some.end,
      completes_ended walk.worker walk.until walk.max left _ c.args.self.now c.loop.self c.step.new.self c.loop.notes c.push_if_not_quiet.new.notes c.in-Ok.note ends.0 c.in-Some.end c.loop.invariant.completes e
          c.in-Ok.ensures ends.1 ends.2 c.push_if_not_quiet.ensures,
      refl,
    )

pub loop-preserved : goal.loop-preserved
loop-preserved c =
    let walk = c.args.walk in
    let left = walk.max - c.loop.counter in
    let e : left ≡ (walk.max - (c.loop.counter + 1)) + 1 = omega arith in
    let goes = c.in_default.ensures in record {
      completes = completes_more walk.worker walk.until walk.max left _ c.args.self.now c.loop.self c.step.new.self c.loop.notes c.push_if_not_quiet.new.notes c.in-Ok.note goes.0 c.loop.invariant.completes e
          c.in-Ok.ensures goes.1 goes.2 c.push_if_not_quiet.ensures;
      room = room_more c.loop.self.world c.step.new.self.world walk.worker c.loop.notes c.in-Ok.note c.in-Ok.ensures.stepped.accepted c.loop.invariant.room c.push_if_not_quiet.new.notes
          (not_blocked walk.until c.in-Ok.note goes.0 goes.2) c.push_if_not_quiet.ensures;
    }

pub returns : goal.returns
returns c =
    let walk = c.args.walk in
    (c.loop.notes, Ok end.Max, completes_over walk.worker walk.until walk.max (walk.max - c.loop.counter) c.args.self.now c.loop.self c.loop.notes c.loop.invariant.completes (omega arith), refl)
