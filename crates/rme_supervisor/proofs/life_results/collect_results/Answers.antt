use Rattle.std.proofs.Common.{rules, ◌≡◌, ◌+◌, subst, ℕ}
use Rattle.std.specs.Vec.Iter.{into_iter_len}
use Rattle.rme_supervisor.specs.LifeResults.{ResultsHaveRoom}
use Rattle.rme_supervisor.proofs.life_results.collect_results.Goals as goal

pub loop-slot-preserved-in-Some-into_inner : goal.loop-slot-preserved-in-Some-into_inner
loop-slot-preserved-in-Some-into_inner g c =
    let rest : into_iter_len c.loop-slot.slot-iterator ≡ 1 + into_iter_len c.next.new.self = search rules in
    (c.push.ensures.room _ (subst (λ (n : ℕ). ResultsHaveRoom n c.loop-slot.settled) rest c.loop-slot.invariant.0), c.push.ensures.settled, search rules)
