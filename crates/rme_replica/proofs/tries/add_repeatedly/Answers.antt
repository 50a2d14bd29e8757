use Rattle.rme_replica.proofs.Trying.{found_own}
use Rattle.rme_replica.proofs.tries.add_repeatedly.Goals as goal

pub returns-then-is_same-clause-made : goal.returns-then-is_same-clause-made
returns-then-is_same-clause-made g c =
    let answered = rw c.in-Ok-Moved.field-0-is at c.in-Ok-Moved.ensures.answered in
    let same = rw c.in-Ok-Moved.field-0-is at c.if-is_same.ensures in
    found_own _ _ c.in-Ok-Moved.found _ _ _ (g.E.LogEngine.log c.add.new.self) c.requires.has c.requires.next c.loop.invariant answered same
