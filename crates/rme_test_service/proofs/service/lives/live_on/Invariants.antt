use Rattle.std.specs.Prelude.{◌≡◌}
use Rattle.rme_test_service.proofs.service.lives.live_on.Given as goal

abbrev pub invariant-loop : goal.invariant-loop
invariant-loop l = l.down.ident ≡ l.service
