use Rattle.std.specs.Prelude.{◌≡◌, ℕ, ◌+◌, ◌<◌, slice_get, Some}
use Rattle.rme_supervisor.proofs.checking.is_rising.Given as goal

abbrev pub invariant-loop-i : goal.invariant-loop-i
invariant-loop-i l = (at : ℕ) (count next : ℕ) → at + 1 < l.i → slice_get l.counts at ≡ Some count → slice_get l.counts (at + 1) ≡ Some next → count < next
