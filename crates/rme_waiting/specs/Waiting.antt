-- WHO WAITS FOR WHOM, from the words that survive a crash: it is the same whether the workers are up or down.
use Rattle.std.specs.Prelude.{◌≡◌, ◌≢◌, ℕ, suc, ◌<◌, Bool, true, ◌==◌, ◌&&◌, nat_lt, Option, Some, None, if◌then◌else◌}
use Rattle.rme_words.specs.declared.shape.Shape.{Shape}
use Rattle.rme_words.specs.declared.address.Address.{Address}
use Rattle.rme_tree.specs.Paths.{node, held_levels, HoldsNode, first_number_passing}
use Rattle.rme_tree.specs.Nodes.{lock_nodes, held_levels_in, owner_in}
use Rattle.rme_machine.specs.Views.{WorkerWords, worker_words, is_pending}

-- A worker waits for a lock: it has asked for a job of that lock, which is neither finished nor withdrawn, and it does
-- not own the lock.
pub record WaitsForLock (shape : Shape) (memory : Address → ℕ) (worker lock : ℕ) : Type 0 where
  pub pending : is_pending (worker_words memory worker) ≡ true
  pub asked : (worker_words memory worker).slate_lock ≡ lock
  pub is_lock : lock < shape.locks
  pub outside : owner_in shape memory lock ≢ Some worker

-- The node above the levels that a worker holds in a lock: the next one that it needs.
abbrev pub next_node : Shape → (Address → ℕ) → ℕ → ℕ → ℕ
next_node shape memory worker lock = node shape.leaves worker (suc (held_levels_in shape memory worker lock))

-- A WORKER WAITS FOR ANOTHER: it waits for a lock, and the other holds the next node that it needs there.
pub record WaitsForWorker (shape : Shape) (memory : Address → ℕ) (worker other : ℕ) : Type 0 where
  pub lock : ℕ
  pub waits : WaitsForLock shape memory worker lock
  pub holds : HoldsNode (lock_nodes memory lock) shape.leaves shape.height other (next_node shape memory worker lock)

-- The same as a function: another worker holds the next node of this one if its path passes there, and it holds more
-- levels.
unfoldable pub holds_next_node : (ℕ → ℕ) → Shape → ℕ → ℕ → Bool
holds_next_node words shape worker other =
    (node shape.leaves other (suc (held_levels words shape.leaves worker shape.height)) == node shape.leaves worker
    (suc (held_levels words shape.leaves worker shape.height)))
    && nat_lt (held_levels words shape.leaves worker shape.height) (held_levels words shape.leaves other shape.height)

-- The worker that holds the next node of a worker in a lock, if there is one.
abbrev pub next_node_holder : Shape → (Address → ℕ) → ℕ → ℕ → Option ℕ
next_node_holder shape memory worker lock =
    first_number_passing shape.workers (holds_next_node (lock_nodes memory lock) shape worker)

-- Whether a worker has a pending job of a lock.
abbrev pub has_pending_lock : Shape → WorkerWords → Bool
has_pending_lock shape own = is_pending own && nat_lt own.slate_lock shape.locks

-- The worker that a worker waits for, if it waits and there is one.
unfoldable pub blocked_by : Shape → (Address → ℕ) → ℕ → Option ℕ
blocked_by shape memory worker =
    if has_pending_lock shape (worker_words memory worker) then next_node_holder shape memory worker
    (worker_words memory worker).slate_lock else None
