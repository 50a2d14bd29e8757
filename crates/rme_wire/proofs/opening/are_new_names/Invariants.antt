-- The answer for the remaining texts, after those that were read, is the answer for all.
use Rattle.std.proofs.Common.{◌≡◌, [], map, string_bytes, take, drop}
use Rattle.rme_wire.specs.Openings.{are_new_names}
use Rattle.rme_wire.proofs.opening.are_new_names.Given as goal

abbrev pub invariant-loop-index : goal.invariant-loop-index
invariant-loop-index l = are_new_names (map string_bytes (take l.index l.texts)) (map string_bytes (drop l.index l.texts)) ≡ are_new_names [] (map string_bytes l.texts)
