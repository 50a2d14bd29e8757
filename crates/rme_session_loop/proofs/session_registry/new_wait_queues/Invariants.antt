use Rattle.std.proofs.Common.{◌≡◌, length}
use Rattle.rme_session_loop.proofs.session_registry.new_wait_queues.Given as goal

abbrev pub invariant-loop : goal.invariant-loop
invariant-loop l = length l.queues.items ≡ l.counter
