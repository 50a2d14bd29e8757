use Rattle.std.proofs.Common.{◌≤◌, length, sym, ◌∙◌, arith, string_bytes}
use Rattle.std.proofs.lemmas.List.{length-map}
use Rattle.rme_wire.proofs.OpeningLemmas.{are_few, may_add_next, texts_next}
use Rattle.rme_wire.proofs.opening.names_of.Goals as goal

pub loop-text-init : goal.loop-text-init
loop-text-init c = record { added = c.in_ok-names.ensures; left = (are_few _ c.requires).1 }

pub loop-text-preserved : goal.loop-text-preserved
loop-text-preserved c =
    let xs = c.args.texts.now in
    let few : length xs ≤ 16 = omega (arith, (are_few _ c.requires).0, length-map xs string_bytes) in
    let next = may_add_next xs c.loop-text.text-index c.text-item.result (omega arith) c.text-item.is few c.loop-text.invariant.left in
    record { added = c.in-Ok.ensures.2 ∙ rw (c.as_str.ensures.value, c.loop-text.invariant.added) (sym (texts_next xs c.loop-text.text-index c.text-item.result (omega arith) c.text-item.is)); left = next.1 }
