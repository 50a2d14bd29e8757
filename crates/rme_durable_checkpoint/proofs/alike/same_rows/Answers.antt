use Rattle.std.proofs.Common.{arith}
use Rattle.std.proofs.lemmas.List.{same_lists}
use Rattle.rme_durable_checkpoint.proofs.alike.same_rows.Goals as goal

pub returns : goal.returns
returns c =
    λ _. same_lists c.args.one.now c.args.other.now c.if-one-other.false (λ place none within. c.loop-place.invariant place none (omega (arith, within, c.loop-place-test.false, c.loop-place.auto)))
