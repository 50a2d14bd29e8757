use Rattle.std.proofs.Common.{◌≡◌, take}
use Rattle.rme_process_core.proofs.expected_slate.ExpectedSlate.is_slate.Given as goal

abbrev pub invariant-loop-at : goal.invariant-loop-at
invariant-loop-at l = take l.at l.words ≡ take l.at l.self.words
