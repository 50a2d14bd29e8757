use Rattle.std.proofs.Common.{drop}
use Rattle.rme_keys.specs.Spaces.{IsPatternText}
use Rattle.rme_keys.proofs.InTurn.{ReadSoFar, bytes_of}
use Rattle.rme_keys.proofs.spaces.patterns_of.Given as goal

-- the texts before the next were read
abbrev pub invariant-loop-text : goal.invariant-loop-text
invariant-loop-text l = ReadSoFar IsPatternText (bytes_of l.texts) l.patterns.items (bytes_of (drop l.text-index l.texts))
