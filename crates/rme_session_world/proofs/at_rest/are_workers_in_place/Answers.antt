use Rattle.std.proofs.Common.{◌≡◌, length, ap, arith}
use Rattle.rme_words.specs.declared.shape.Shape.{Shape}
use Rattle.rme_session_world.proofs.Places.{all_tended}
use Rattle.rme_session_world.proofs.at_rest.are_workers_in_place.Goals as goal

pub returns : goal.returns
returns c =
    λ _. (let same : c.shape-workers.result.workers ≡ c.args.world.now.shape.workers = ap (λ (s : Shape). s.workers) c.shape-workers.ensures in
    let long : length c.args.holders.now ≡ c.args.world.now.shape.workers = omega (arith, same, c.if-holders-workers.false) in
    all_tended c.args.world.now c.args.holders.now long (λ worker holder less at. c.loop-worker.invariant worker holder (omega (arith, less, same, c.loop-worker-test.false, c.loop-worker.auto)) at))
