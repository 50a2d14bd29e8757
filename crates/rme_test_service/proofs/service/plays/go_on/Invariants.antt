use Rattle.std.specs.Prelude.{◌≡◌}
use Rattle.rme.specs.Calls.{seat_of_stance}
use Rattle.rme_test_service.proofs.service.plays.go_on.Given as goal

abbrev pub invariant-loop-call : goal.invariant-loop-call
invariant-loop-call g l = (seat_of_stance l.stance).ident ≡ l.service
