-- The workers so far have the lives that they had.
use Rattle.std.proofs.Common.{◌≡◌, ℕ, ◌<◌}
use Rattle.rme_durable_format.specs.Lives.{life_of}
use Rattle.rme_durable_checkpoint.proofs.alike.are_lives_kept.Given as goal

abbrev pub invariant-loop-worker : goal.invariant-loop-worker
invariant-loop-worker l = (worker : ℕ) → worker < l.worker → life_of l.fn.other worker ≡ life_of l.fn.one worker
