-- The operations read, with those found from here, are the whole script.
use Rattle.std.proofs.Common.{◌≡◌, ◌≤◌, length, take}
use Rattle.rme_session_protocol.proofs.TokenLemmas.{OpsSoFar}
use Rattle.rme_session_protocol.proofs.tokens.take_script.Given as goal

abbrev pub invariant-operations : goal.invariant-operations
invariant-operations l = record {
  few : l.count ≤ 8;
  room : length l.ops ≡ 8;
  so : OpsSoFar l.initial.reader (take l.count l.ops) l.reader;
}

abbrev pub decreases-operations : goal.decreases-operations
decreases-operations l = length l.reader
