use Rattle.std.proofs.Common.{◌≡◌}
use Rattle.rme_bench.proofs.jobs.life.enter.Given as goal

abbrev pub invariant-loop : goal.invariant-loop
invariant-loop l = l.climb.ident ≡ l.service
