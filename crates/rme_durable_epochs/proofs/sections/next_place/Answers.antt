use Rattle.std.proofs.Common.{◌≡◌, ◌+◌, ℕ, arith, length, sym, subst, ◌∙◌}
use Rattle.rme_machine.specs.Histories.{place_of}
use Rattle.std.specs.Prelude.{drop}
use Rattle.rme_durable_epochs.proofs.Places.{place_counted, place_whole, sections_few}
use Rattle.rme_durable_epochs.proofs.sections.next_place.Goals as goal

pub loop-at-preserved : goal.loop-at-preserved
loop-at-preserved c =
    let es = c.args.history.now.entries in
    let receipt = c.in-Some.receipt in
    let is = sym c.in-Some.is ∙ c.receipt.ensures in
    let counted = place_counted es c.loop-at.at c.loop-at.count c.args.lock receipt is c.loop-at.invariant.1 in
    let few = sections_few receipt c.args.lock in
    let own = c.sections_of_lock-count.ensures in
    (omega (arith, few, own, c.loop-at.invariant.0), subst (λ (n : ℕ). (c.loop-at.count + n) + place_of (drop (c.loop-at.at + 1) es) c.args.lock ≡ place_of es c.args.lock) (sym own) counted)

pub returns : goal.returns
returns c =
    let es = c.args.history.now.entries in
    let at : c.loop-at.at ≡ length es = omega (arith, c.loop-at-test.false, c.loop-at.auto.at-end, c.len-at-end.ensures) in
    place_whole es c.loop-at.at c.loop-at.count c.args.lock at c.loop-at.invariant.1
