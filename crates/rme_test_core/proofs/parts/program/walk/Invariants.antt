use Rattle.std.proofs.Common.{◌≡◌}
use Rattle.rme_program.specs.Conditions.{IsPrivate}
use Rattle.rme_test_core.proofs.parts.program.walk.Given as goal

abbrev pub invariant-loop-step : goal.invariant-loop-step
invariant-loop-step g l = (l.bank.shape ≡ l.initial.bank.shape) × IsPrivate l.bank.shape l.private
