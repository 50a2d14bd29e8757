use Rattle.std.specs.Prelude.{◌≡◌}
use Rattle.rme_test_service.proofs.service.lives.live.Given as goal

abbrev pub invariant-loop : goal.invariant-loop
invariant-loop l = l.ready.ident ≡ l.service
