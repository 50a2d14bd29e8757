-- The operations that were read, followed by the remaining ones, are the whole script.
use Rattle.std.proofs.Common.{◌≡◌, ◌≤◌, length, take, drop}
use Rattle.rme_line_json.specs.View.{items_view}
use Rattle.rme_wire.proofs.OperationLemmas.{Reads}
use Rattle.rme_wire.proofs.operation.script_of_value.Given as goal

abbrev pub invariant-loop-item : goal.invariant-loop-item
invariant-loop-item l = record {
  few : l.count ≤ 9;
  room : length l.ops ≡ 9;
  reads : Reads (items_view l.item-items) (take l.count l.ops) (items_view (drop l.item-index l.item-items));
}
