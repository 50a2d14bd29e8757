-- The items before the next have the places that were read.
use Rattle.std.proofs.Common.{drop}
use Rattle.rme_line_json.specs.View.{items_view}
use Rattle.rme_durable_format.specs.Headers.{IsPlaceCount}
use Rattle.rme_durable_format.proofs.Telling.{SoFar}
use Rattle.rme_durable_format.proofs.header_reader.places_of.Given as goal

abbrev pub invariant-loop-item : goal.invariant-loop-item
invariant-loop-item l = SoFar IsPlaceCount (items_view l.items) l.places.items (items_view (drop l.item-index l.items))
