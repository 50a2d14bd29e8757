use Rattle.std.proofs.Common.{◌≡◌, take, drop}
use Rattle.rme_process_core.proofs.fast_forwarding.matches_slate.Given as goal

abbrev pub invariant-loop-at : goal.invariant-loop-at
invariant-loop-at l = take l.at (drop 2 l.values) ≡ take l.at l.guess.words
