use Rattle.std.proofs.Common.{◌+◌, length-set, take, drop, Some, arith, rules, refl, sym, ap, ◌∙◌}
use Rattle.std.proofs.lemmas.List.{drop_all}
use Rattle.rme_line_json.specs.View.{value_view, items_view}
use Rattle.rme_wire.specs.Operations.{script_of_value}
use Rattle.rme_wire.proofs.OperationLemmas.{reads_kept, reads_passed, reads_stuck, reads_all, view_drop}
use Rattle.rme_wire.proofs.operation.script_of_value.Goals as goal
use Rattle.rme_wire.proofs.operation.script_of_value.Goals.{then-count-lt-TELLING, else-count-lt-TELLING}

pub returns-in_err-items : goal.returns-in_err-items
unfolding script_of_value
returns-in_err-items c = search rules

pub returns-in_err-op : goal.returns-in_err-op
unfolding script_of_value
returns-in_err-op c =
    let items = c.deref-item-items.result.now in
    let here = view_drop items c.loop-item.item-index c.item-item.result (omega arith) c.item-item.is in
    let reads = rw here at c.loop-item.invariant.reads in
    let stuck = reads_stuck (items_view items) (take c.loop-item.count c.loop-item.ops) (value_view c.item-item.result) (items_view (drop (c.loop-item.item-index + 1) items)) reads (sym c.in_err-op.ensures) in
    c.from_residual-in_err-op.ensures ∙ sym stuck ∙ rw (c.deref-item-items.ensures.value, ← c.in_ok-items.ensures) refl

pub loop-item-preserved : goal.loop-item-preserved
loop-item-preserved c =
    let items = c.deref-item-items.result.now in
    let here = view_drop items c.loop-item.item-index c.item-item.result (omega arith) c.item-item.is in
    let reads = rw here at c.loop-item.invariant.reads in
    let op = sym c.in_ok-op.ensures in
    elim c.if-count-lt-TELLING.branch [
      | then-count-lt-TELLING w ↦
          rw (w.ops-is, w.count-is) record {
            few = omega arith;
            room = omega (arith, length-set c.loop-item.ops c.loop-item.count c.in_ok-op.op);
            reads = reads_kept (items_view items) c.loop-item.ops c.loop-item.count _ _ _ reads op (omega arith);
          }
      | else-count-lt-TELLING w ↦
          rw (w.ops-is, w.count-is) record {
            few = omega arith;
            room = c.loop-item.invariant.room;
            reads = reads_passed (items_view items) c.loop-item.ops c.loop-item.count _ _ _ reads op (omega arith) (omega arith);
          }
    ]

pub returns : goal.returns
unfolding script_of_value
returns c =
    let items = c.deref-item-items.result.now in
    let none_left = drop_all c.loop-item.item-index items (omega arith) in
    let reads = rw none_left at c.loop-item.invariant.reads in
    let all = reads_all (items_view items) (take c.loop-item.count c.loop-item.ops) reads in
    let made = ap Some c.of.ensures in made ∙ sym all ∙ rw (c.deref-item-items.ensures.value, ← c.in_ok-items.ensures) refl
