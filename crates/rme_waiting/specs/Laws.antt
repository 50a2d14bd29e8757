-- The laws of waiting workers in a world. Each is the contract of a function of the module `laws`.
use Rattle.std.specs.Prelude.{◌≡◌, ◌≢◌, ◌↔◌, ℕ, ◌<◌, IsSome, Some}
use Rattle.rme_tree.specs.Nodes.{lock_nodes}
use Rattle.rme_program.specs.declared.private.Private.{Private}
use Rattle.rme_program.specs.declared.stage.Ascent.{Ascent}
use Rattle.rme_program.specs.declared.stage.Stage.TheVariants.{Climbing}
use Rattle.rme_world.specs.Queries.{WorkerIsBlocked}
use Rattle.rme_world.specs.WorldInvariants.{WorldInvariant}
use Rattle.rme_world.specs.WorldViews.{WorldView, world_memory, world_privates}
use Rattle.rme_waiting.specs.Waiting.{WaitsForLock, blocked_by, next_node}

-- A waiting worker, up or down, waits for another exactly if the next node that it needs is taken.
abbrev pub TakenNodeLaw : Type 0
TakenNodeLaw =
    (seen : WorldView) (worker lock : ℕ) → WorldInvariant seen → worker < seen.shape.workers
    → WaitsForLock seen.shape (world_memory seen) worker lock
    → IsSome (blocked_by seen.shape (world_memory seen) worker)
    ↔ (lock_nodes (world_memory seen) lock (next_node seen.shape (world_memory seen) worker lock) ≢ 0)

-- A worker that is up and climbs waits for another exactly if its next own step would be blocked.
abbrev pub BlockedStepLaw : Type 0
BlockedStepLaw =
    (seen : WorldView) (worker : ℕ) (private : Private) (ascent : Ascent) → WorldInvariant seen
    → worker < seen.shape.workers → world_privates seen worker ≡ Some private → private.stage ≡ Climbing ascent
    → IsSome (blocked_by seen.shape (world_memory seen) worker) ↔ WorkerIsBlocked seen worker
