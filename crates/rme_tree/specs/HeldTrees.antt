-- Trees in which every node that is not free has a holder, and the effect of one step of a worker on such a tree.
use Rattle.std.specs.Prelude.{◌≡◌, ◌≢◌, ℕ, suc, ◌+◌, ◌-◌, ◌*◌, ◌<◌, ◌≤◌, ◌⊎◌, Some, None}
use Rattle.rme_tree.specs.Paths.{node, side, held_levels, owner, HoldsNode}

-- A worker that holds this node.
pub record NodeHolder (words : ℕ → ℕ) (leaves height workers place : ℕ) : Type 0 where
  pub worker : ℕ
  pub is_worker : worker < workers
  pub holds : HoldsNode words leaves height worker place

-- Every node of the tree that is not 0 has a holder.
abbrev pub EveryNodeIsHeld : (ℕ → ℕ) → ℕ → ℕ → ℕ → Type 0
EveryNodeIsHeld words leaves height workers =
    (place : ℕ) → 1 ≤ place → place < leaves → words place ≢ 0 → NodeHolder words leaves height workers place

-- The child of a node on a side.
abbrev pub child_node : ℕ → ℕ → ℕ
child_node place on = 2 * place + on - 1

-- The clause `nodes` for one node: its word is 0, 1 or 2, and a word other than 0 names a side whose child is a
-- worker's leaf, or a node that is not 0.
pub record IsLocalNode (words : ℕ → ℕ) (leaves workers place : ℕ) : Type 0 where
  pub side_word : words place ≤ 2
  pub named : words place ≢ 0
      → ((worker : ℕ) × (worker < workers) × (child_node place (words place) ≡ leaves + worker))
      ⊎ ((child_node place (words place) < leaves) × (words (child_node place (words place)) ≢ 0))

-- The clause `nodes` of one lock's tree. It is equivalent to `EveryNodeIsHeld`, without naming a holder.
abbrev pub IsLocalTree : (ℕ → ℕ) → ℕ → ℕ → Type 0
IsLocalTree words leaves workers = (place : ℕ) → 1 ≤ place → place < leaves → IsLocalNode words leaves workers place

-- No node of the tree is taken.
abbrev pub IsFreeTree : (ℕ → ℕ) → ℕ → Type 0
IsFreeTree words leaves = (place : ℕ) → 1 ≤ place → place < leaves → words place ≡ 0

-- One word has this value, and every other word is unchanged.
pub record NodeStoreEffect (old new : ℕ → ℕ) (place value : ℕ) : Type 0 where
  pub at : new place ≡ value
  pub off : (other : ℕ) → other ≢ place → new other ≡ old other

-- The size of a tree, and the number of workers that use it.
pub record TreeSize : Type 0 where
  pub leaves : ℕ
  pub height : ℕ
  pub workers : ℕ

abbrev pub tree_size : ℕ → ℕ → ℕ → TreeSize
tree_size leaves height workers = record { leaves = leaves; height = height; workers = workers }

-- A step of one worker on a tree: it now holds `levels` levels, every other worker holds the same levels as before, and
-- every node that is not 0 still has a holder.
pub record TreeStep (size : TreeSize) (old new : ℕ → ℕ) (worker levels : ℕ) : Type 0 where
  pub self : held_levels new size.leaves worker size.height ≡ levels
  pub others : (other : ℕ) → other < size.workers → other ≢ worker
      → held_levels new size.leaves other size.height ≡ held_levels old size.leaves other size.height
  pub rooted : EveryNodeIsHeld new size.leaves size.height size.workers

-- Another worker holds the node above this worker's levels, from the other side.
pub record HeldByOther (words : ℕ → ℕ) (leaves height workers worker levels : ℕ) : Type 0 where
  pub other_side : words (node leaves worker (suc levels)) + side leaves worker (suc levels) ≡ 3
  pub blocker : ℕ
  pub is_worker : blocker < workers
  pub is_other : blocker ≢ worker
  pub there : node leaves blocker (suc levels) ≡ node leaves worker (suc levels)
  pub holds : suc levels ≤ held_levels words leaves blocker height

-- The effect of a step of one worker on the ownership: it becomes the owner, it was the owner and now there is none, or
-- the owner is unchanged.
pub record OwnerStep (size : TreeSize) (old new : ℕ → ℕ) (worker levels : ℕ) : Type 0 where
  pub entered : levels ≡ size.height → owner new size.leaves size.height size.workers ≡ Some worker
  pub left : held_levels old size.leaves worker size.height ≡ size.height → levels ≢ size.height
      → owner new size.leaves size.height size.workers ≡ None
  pub kept : held_levels old size.leaves worker size.height ≢ size.height → levels ≢ size.height
      → owner new size.leaves size.height size.workers ≡ owner old size.leaves size.height size.workers
