-- The clauses `nodes`, `one lock each` and `numbers`, in terms of single nodes and levels held, from the invariant.
use Rattle.std.proofs.Common.{◌≡◌, ℕ, ◌<◌, ◌↔◌, List, sym, ◌∙◌}
use Rattle.rme_words.specs.declared.shape.Shape.{Shape}
use Rattle.rme_words.specs.declared.address.Address.{Address}
use Rattle.rme_tree.specs.HeldTrees.{EveryNodeIsHeld, IsLocalTree}
use Rattle.rme_tree.specs.Nodes.{lock_nodes, held_levels_in}
use Rattle.rme_tree.proofs.Local.{local_law}
use Rattle.rme_program.specs.declared.note.Entry.{Entry}
use Rattle.rme_machine.specs.Views.{WorkerWords, worker_words, current_lock}
use Rattle.rme_machine.specs.AbstractState.{Privates}
use Rattle.rme_machine.specs.Invariant.{Invariant}

-- `nodes`, for one lock: each node by its own word and its child's word.
pub local_rooted : (s : Shape) (mem : Address → ℕ) (lock : ℕ) → IsLocalTree (lock_nodes mem lock) s.leaves s.workers ↔ EveryNodeIsHeld (lock_nodes mem lock) s.leaves s.height s.workers
local_rooted s mem lock = local_law (lock_nodes mem lock) s.leaves s.height s.workers s.counted.tree.is_power s.counted.tree.enough

-- `nodes`, for all locks.
pub nodes_clause : (s : Shape) (mem : Address → ℕ) (privs : Privates) (es : List Entry) (lock : ℕ) → Invariant s mem privs es → lock < s.locks
    → IsLocalTree (lock_nodes mem lock) s.leaves s.workers
nodes_clause s mem privs es lock fact below = (local_rooted s mem lock).1 (fact.rooted lock below)

-- A worker is at each lock in which it holds a node, so two such locks are one.
pub one_by_stake : (s : Shape) (own : WorkerWords) (held : ℕ → ℕ) (one other : ℕ)
    → ((lock : ℕ) → lock < s.locks → 0 < held lock → (0 < own.begun) × (current_lock own ≡ lock))
    → one < s.locks → other < s.locks → 0 < held one → 0 < held other → one ≡ other
one_by_stake s own held one other stake below_one below_other holds_one holds_other = sym (stake one below_one holds_one).1 ∙ (stake other below_other holds_other).1

-- `one lock each`.
pub one_lock_each : (s : Shape) (mem : Address → ℕ) (privs : Privates) (es : List Entry) (worker one other : ℕ) → Invariant s mem privs es → worker < s.workers
    → one < s.locks → other < s.locks → 0 < held_levels_in s mem worker one → 0 < held_levels_in s mem worker other → one ≡ other
one_lock_each s mem privs es worker one other fact is_worker =
    one_by_stake s (worker_words mem worker) (held_levels_in s mem worker) one other (fact.accounts worker is_worker).stake

-- `numbers`, of a worker that holds a node: the lock is its slate's while its job is pending, and otherwise its
-- receipt's.
pub record IsStaked (own : WorkerWords) (lock : ℕ) : Type 0 where
  pub some : 0 < own.begun
  pub pending : own.done < own.begun → own.slate_lock ≡ lock
  pub past : own.done ≡ own.begun → own.at ≡ lock
