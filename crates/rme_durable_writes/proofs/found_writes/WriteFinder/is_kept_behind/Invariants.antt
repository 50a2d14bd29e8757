use Rattle.std.proofs.Common.{◌↔◌, suc, length}
use Rattle.rme_durable_writes.specs.Reading.{IsKeptByFirst, IsKeptWithin}
use Rattle.rme_durable_writes.proofs.found_writes.WriteFinder.is_kept_behind.Given as goal

abbrev pub invariant-loop-behind : goal.invariant-loop-behind
invariant-loop-behind l = record {
  same : IsKeptWithin l.fn.bytes (suc l.number) ↔ IsKeptWithin l.rest (suc l.number);
  first : IsKeptByFirst l.rest (suc l.number) → ⊥;
}

abbrev pub decreases-loop-behind : goal.decreases-loop-behind
decreases-loop-behind l = length l.rest
