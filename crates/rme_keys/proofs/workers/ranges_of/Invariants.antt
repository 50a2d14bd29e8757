use Rattle.std.proofs.Common.{drop}
use Rattle.rme_keys.specs.Workers.{IsRangeText}
use Rattle.rme_keys.proofs.InTurn.{ReadSoFar, bytes_of}
use Rattle.rme_keys.proofs.workers.ranges_of.Given as goal

-- the texts before the next were read
abbrev pub invariant-loop-text : goal.invariant-loop-text
invariant-loop-text l = ReadSoFar IsRangeText (bytes_of l.texts) l.ranges.items (bytes_of (drop l.text-index l.texts))
