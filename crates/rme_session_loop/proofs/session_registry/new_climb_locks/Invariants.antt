use Rattle.std.proofs.Common.{◌≡◌, length}
use Rattle.rme_session_loop.proofs.session_registry.new_climb_locks.Given as goal

abbrev pub invariant-loop : goal.invariant-loop
invariant-loop l = length l.climb_locks.items ≡ l.counter
