use Rattle.std.proofs.Common.{refl, ap, arith}
use Rattle.std.proofs.lemmas.List.{length-set}
use Rattle.std.proofs.lemmas.Option.{slice_get_within}
use Rattle.rme_words.specs.declared.shape.Shape.{Shape}
use Rattle.rme_table.proofs.Counts.{one_counted}
use Rattle.rme_table.proofs.counting.count_locks.Goals as goal

pub loop-lock-preserved : goal.loop-lock-preserved
loop-lock-preserved c = one_counted c.args.bank.now c.loop-lock.lock c.loop-lock.locks.items _ c.count_lock.new.room c.loop-lock.invariant refl (length-set c.loop-lock.locks.items c.loop-lock.lock c.count_lock.new.room) c.count_lock.ensures

pub returns-clause-counted : goal.returns-clause-counted
returns-clause-counted c lock counted at =
    let within = slice_get_within c.loop-lock.locks.items lock counted at in
    let all = ap (λ (s : Shape). s.locks) c.shape-lock-end.ensures in
    c.loop-lock.invariant.filled lock counted at (omega (arith, within, c.loop-lock.invariant.count, all, c.loop-lock-test.false))
