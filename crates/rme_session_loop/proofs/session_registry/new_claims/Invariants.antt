use Rattle.std.proofs.Common.{◌≡◌, length}
use Rattle.rme_session_loop.proofs.session_registry.new_claims.Given as goal

abbrev pub invariant-loop : goal.invariant-loop
invariant-loop g l = length l.claims.items ≡ l.counter
