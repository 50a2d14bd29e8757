-- The texts that were read, followed by the remaining ones, are all of them.
use Rattle.std.proofs.Common.{drop}
use Rattle.rme_line_json.specs.View.{items_view}
use Rattle.rme_wire.proofs.OpeningLemmas.{ReadsTexts, texts}
use Rattle.rme_space_orders.proofs.space_line.texts_of_items.Given as goal

abbrev pub invariant-loop-item : goal.invariant-loop-item
invariant-loop-item l = ReadsTexts (items_view l.items) (texts l.texts.items) (items_view (drop l.item-index l.items))
