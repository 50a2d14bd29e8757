use Rattle.std.proofs.Common.{Some, ◌+◌, ◌∷◌, [], string_bytes, drop, arith, sym, ap, ◌∙◌}
use Rattle.std.proofs.lemmas.List.{drop_all, map-append}
use Rattle.rme_line_json.specs.View.{value_view, items_view}
use Rattle.rme_wire.proofs.OperationLemmas.{view_drop}
use Rattle.rme_wire.proofs.OpeningLemmas.{texts, texts_all, texts_more, texts_stuck}
use Rattle.rme_space_orders.proofs.space_line.texts_of_items.Goals as goal

pub returns-in_default : goal.returns-in_default
returns-in_default c =
    let items = c.args.items.now in
    let here = view_drop items c.loop-item.item-index c.item-item.result (omega arith) c.item-item.is in
    let reads = rw here at c.loop-item.invariant in
    sym (texts_stuck (items_view items) (texts c.loop-item.texts.items) (value_view c.item-item.result) (items_view (drop (c.loop-item.item-index + 1) items)) reads (sym c.in_default.ensures))

pub loop-item-preserved : goal.loop-item-preserved
loop-item-preserved c =
    let items = c.args.items.now in
    let here = view_drop items c.loop-item.item-index c.item-item.result (omega arith) c.item-item.is in
    let reads = rw here at c.loop-item.invariant in
    let longer = ap texts c.in_ok-push.ensures.items ∙ map-append string_bytes c.loop-item.texts.items (c.in_ok-from_str.field-0 ∷ []) in
    texts_more (items_view items) (texts c.loop-item.texts.items) (texts c.push.new.self.items) (value_view c.item-item.result) (items_view (drop (c.loop-item.item-index + 1) items))
    (string_bytes c.in_ok-from_str.field-0) reads (sym c.in-Some.ensures ∙ ap Some (sym c.in_ok-from_str.ensures.ok)) longer

pub returns : goal.returns
returns c =
    let none_left = drop_all c.loop-item.item-index c.args.items.now (omega arith) in
    let reads = rw none_left at c.loop-item.invariant in sym (texts_all (items_view c.args.items.now) (texts c.loop-item.texts.items) reads)
