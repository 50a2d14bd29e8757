use Rattle.std.proofs.Common.{◌≡◌, length, ap, sym, ◌∙◌, arith, refl}
use Rattle.std.specs.Prelude.{List, option_map, slice_get}
use Rattle.rme_program.specs.declared.note.Entry.{Entry}
use Rattle.rme_durable_epochs.proofs.Places.{count_few, counts_begin, counts_next, counts_whole}
use Rattle.rme_durable_epochs.proofs.sections.Sections.of.Goals as goal

pub loop-at-init : goal.loop-at-init
loop-at-init c = counts_begin c.args.world.now.history _ refl

pub count_section-requires : goal.count_section-requires
count_section-requires c =
    let few = count_few c.args.world.now.history c.loop-at.at c.loop-at.counts c.in-Some.receipt.lock c.loop-at.invariant in
    omega (arith, few, c.loop-at-test.true, c.len-at-end.type_inv)

pub loop-at-preserved : goal.loop-at-preserved
loop-at-preserved c =
    let is = sym c.in-Some.is ∙ c.receipt.ensures ∙ ap (λ (es : List Entry). option_map (λ (e : Entry). e.receipt) (slice_get es c.loop-at.at)) c.history-history.ensures in
    counts_next c.args.world.now.history c.loop-at.at c.loop-at.counts c.count_section.new.counts c.in-Some.receipt is c.loop-at.invariant c.count_section.ensures.length c.count_section.ensures.counts

pub returns : goal.returns
returns c =
    let at : c.loop-at.at ≡ length c.args.world.now.history = omega (arith, c.loop-at-test.false, c.loop-at.auto.at-end, c.len-at-end.ensures, ap (λ (es : List Entry). length es) c.history-history.ensures) in
    counts_whole c.args.world.now.history c.loop-at.at c.loop-at.counts at c.loop-at.invariant
