use Rattle.std.proofs.Common.{rules, ◌≡◌, ◌∷◌, suc, refl}
use Rattle.std.specs.Vec.Iter.{into_iter_items}
use Rattle.rme_session_threads.proofs.slots.fill_slots.Goals as goal

pub invariant_of-kept : goal.invariant_of-kept
invariant_of-kept g c =
    let rest : into_iter_items c.loop-down.down-iterator ≡ c.in-Some.down ∷ into_iter_items c.next.new.self = search rules in
    record { ours = c.loop-down.invariant.3 0 c.in-Some.down (rw rest refl) }

pub loop-down-preserved : goal.loop-down-preserved
loop-down-preserved g c =
    let rest : into_iter_items c.loop-down.down-iterator ≡ c.in-Some.down ∷ into_iter_items c.next.new.self = search rules in
    (search rules, search rules, search rules, λ k seat at. c.loop-down.invariant.3 (suc k) seat (rw rest at))
