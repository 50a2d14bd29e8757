use Rattle.std.proofs.Common.{take}
use Rattle.rme_keys.specs.KeyFiles.{IsKeyFile}
use Rattle.rme_keys.proofs.InTurn.{bytes_of}
use Rattle.rme_keys.proofs.keys.keys_of_lines.Given as goal

-- the keys of the lines so far
abbrev pub invariant-loop-index : goal.invariant-loop-index
invariant-loop-index l = IsKeyFile (bytes_of (take l.index l.lines)) l.keys.items
