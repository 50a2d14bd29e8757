-- The names are the texts before the index, and the remaining ones are new.
use Rattle.std.proofs.Common.{◌≡◌, map, string_bytes, take, drop, true}
use Rattle.rme_wire.specs.Openings.{are_new_names}
use Rattle.rme_wire.proofs.opening.names_of.Given as goal

abbrev pub invariant-loop-text : goal.invariant-loop-text
invariant-loop-text l = record {
  added : l.names ≡ map string_bytes (take l.text-index l.texts);
  left : are_new_names (map string_bytes (take l.text-index l.texts)) (map string_bytes (drop l.text-index l.texts)) ≡ true;
}
