use Rattle.std.proofs.Common.{◌<◌, [], length, arith, sym, ◌∙◌}
use Rattle.std.proofs.lemmas.List.{get_or_default, same_lists}
use Rattle.rme_durable_checkpoint.proofs.alike.same_names.Goals as goal

pub returns : goal.returns
returns c = λ _. same_lists c.args.one.now c.args.other.now (sym c.len.ensures.count ∙ c.if-len.false ∙ c.len-2.ensures.count) (λ lock none within.
    let long = sym c.len.ensures.count ∙ c.if-len.false ∙ c.len-2.ensures.count in
    let other : lock < length c.args.other.now = omega (arith, within, long) in
    let same = c.loop-lock.invariant lock (omega (arith, within, c.loop-lock-test.false, c.loop-lock.auto, c.len-lock-end.ensures.count)) in
    get_or_default c.args.one.now lock none [] within ∙ same ∙ sym (get_or_default c.args.other.now lock none [] other))
