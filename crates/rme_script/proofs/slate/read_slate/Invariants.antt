use Rattle.std.proofs.Common.{◌≡◌}
use Rattle.rme_script.proofs.Readings.{Reading}
use Rattle.rme_script.proofs.slate.read_slate.Given as goal

abbrev pub invariant-loop-i : goal.invariant-loop-i
invariant-loop-i l = (l.script.n ≡ l.n) × Reading l.n l.words l.i l.script.ops
