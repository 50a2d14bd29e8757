use Rattle.std.proofs.Common.{[], ℕ, List, refl, subst, arith}
use Rattle.std.proofs.lemmas.List.{take_rest}
use Rattle.rme_process_core.specs.Runs.{SomeValuesTaken, noted}
use Rattle.rme_process_core.proofs.Led.{takes_none}
use Rattle.rme_process_core.proofs.Folding.{takes_some}
use Rattle.rme_process_core.proofs.accepting.accept_all_values.Goals as goal

pub loop-at-init : goal.loop-at-init
loop-at-init c = record { within = omega arith; private = c.requires.private; notes = []; takes = takes_none c.args.shape.now c.args.private.now; told = refl; few = omega arith }

pub loop-at-preserved : goal.loop-at-preserved
loop-at-preserved c =
    let values : List ℕ = c.args.values.now in let at = c.loop-at.at in let count = c.in-Some.taken in
    let P : List ℕ → Type 0 = λ vs. SomeValuesTaken c.args.shape.now (noted c.loop-at.private c.loop-at.outcome) vs count (noted c.accept_some_values.new.private c.accept_some_values.new.outcome) in
    takes_some c.args.shape.now c.args.private.now c.loop-at.private c.loop-at.outcome values at c.loop-at.invariant count c.accept_some_values.new.private c.accept_some_values.new.outcome (subst P (take_rest values at) c.in-Some.ensures.taken)
