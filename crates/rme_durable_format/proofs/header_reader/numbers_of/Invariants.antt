-- The items before the next have the numbers that were read.
use Rattle.std.proofs.Common.{drop}
use Rattle.rme_line_json.specs.View.{items_view}
use Rattle.rme_durable_format.specs.Headers.{IsJobCount}
use Rattle.rme_durable_format.proofs.Telling.{SoFar}
use Rattle.rme_durable_format.proofs.header_reader.numbers_of.Given as goal

abbrev pub invariant-loop-item : goal.invariant-loop-item
invariant-loop-item l = SoFar IsJobCount (items_view l.items) l.numbers.items (items_view (drop l.item-index l.items))
