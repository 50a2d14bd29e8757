-- The locks so far have the same owners.
use Rattle.std.proofs.Common.{◌≡◌, ℕ, ◌<◌}
use Rattle.rme_tree.specs.Nodes.{owner_in}
use Rattle.rme_world.specs.WorldViews.{world_memory}
use Rattle.rme_durable_checkpoint.proofs.validation.same_owners.Given as goal

abbrev pub invariant-loop-lock : goal.invariant-loop-lock
invariant-loop-lock l = (lock : ℕ) → lock < l.lock → owner_in l.fn.other.shape (world_memory l.fn.other) lock ≡ owner_in l.fn.one.shape (world_memory l.fn.one) lock
