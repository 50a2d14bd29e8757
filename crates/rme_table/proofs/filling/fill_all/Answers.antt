use Rattle.std.proofs.Common.{refl, ap, arith}
use Rattle.std.proofs.lemmas.List.{length-set}
use Rattle.std.proofs.lemmas.Option.{slice_get_within}
use Rattle.rme_words.specs.declared.shape.Shape.{Shape}
use Rattle.rme_table.proofs.Filled.{one_filled}
use Rattle.rme_table.proofs.filling.fill_all.Goals as goal

pub loop-lock-preserved : goal.loop-lock-preserved
loop-lock-preserved c = one_filled c.args.bank.now c.args.entries.now c.loop-lock.lock c.loop-lock.locks.items _ c.fill.new.room c.loop-lock.invariant refl (length-set c.loop-lock.locks.items c.loop-lock.lock c.fill.new.room) c.fill.ensures

pub returns-clause-filled : goal.returns-clause-filled
returns-clause-filled c lock closed at =
    let within = slice_get_within c.loop-lock.locks.items lock closed at in
    let all = ap (λ (s : Shape). s.locks) c.shape-lock-end.ensures in
    c.loop-lock.invariant.filled lock closed at (omega (arith, within, c.loop-lock.invariant.count, all, c.loop-lock-test.false))
