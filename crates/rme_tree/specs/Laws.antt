-- The laws of one step on a tree, for every height. Each is the contract of a function of the module `laws`.
use Rattle.std.specs.Prelude.{◌≡◌, ◌≢◌, ℕ, suc, ◌+◌, ◌/◌, ◌%◌, ◌^◌, ◌<◌, ◌≤◌, ◌↔◌, Some}
use Rattle.rme_tree.specs.Paths.{node, side, held_levels, owner, OwnsTree, Blocks}
use Rattle.rme_tree.specs.HeldTrees.{EveryNodeIsHeld, IsLocalTree, IsFreeTree, NodeStoreEffect, TreeStep, HeldByOther, OwnerStep, tree_size}

-- The order of nodes and sides: the leaf, the parents, and the root at the top level.
abbrev pub PathLaw : Type 0
PathLaw = (leaves height worker : ℕ) → leaves ≡ 2 ^ height → worker < leaves
    → (node leaves worker 0 ≡ leaves + worker)
    × ((level : ℕ) → node leaves worker (suc level) ≡ node leaves worker level / 2)
    × ((level : ℕ) → side leaves worker (suc level) ≡ 1 + node leaves worker level % 2)
    × (node leaves worker height ≡ 1)

-- A worker that holds `levels` levels takes the next node, which is free, from its own side.
abbrev pub NodeTakeLaw : Type 0
NodeTakeLaw =
    (old new : ℕ → ℕ) (leaves height workers worker levels : ℕ) → leaves ≡ 2 ^ height → workers ≤ leaves
    → worker < workers
    → levels < height → held_levels old leaves worker height ≡ levels → old (node leaves worker (suc levels)) ≡ 0
    → NodeStoreEffect old new (node leaves worker (suc levels)) (side leaves worker (suc levels))
    → EveryNodeIsHeld old leaves height workers → TreeStep (tree_size leaves height workers) old new worker (suc levels)

-- A worker that holds `levels + 1` levels releases the topmost one.
abbrev pub NodeClearLaw : Type 0
NodeClearLaw =
    (old new : ℕ → ℕ) (leaves height workers worker levels : ℕ) → leaves ≡ 2 ^ height → workers ≤ leaves
    → worker < workers
    → levels < height → held_levels old leaves worker height ≡ suc levels
    → NodeStoreEffect old new (node leaves worker (suc levels)) 0
    → EveryNodeIsHeld old leaves height workers → TreeStep (tree_size leaves height workers) old new worker levels

-- If the next node is not free, another worker holds it from the other side.
abbrev pub NodeBlockedLaw : Type 0
NodeBlockedLaw =
    (words : ℕ → ℕ) (leaves height workers worker levels : ℕ) → leaves ≡ 2 ^ height → workers ≤ leaves
    → worker < workers
    → levels < height → held_levels words leaves worker height ≡ levels → words (node leaves worker (suc levels)) ≢ 0
    → EveryNodeIsHeld words leaves height workers → HeldByOther words leaves height workers worker levels

-- If that node is not free, another worker blocks this one.
abbrev pub BlockerLaw : Type 0
BlockerLaw =
    (words : ℕ → ℕ) (leaves height workers worker : ℕ) → leaves ≡ 2 ^ height → workers ≤ leaves → worker < workers
    → held_levels words leaves worker height < height
    → words (node leaves worker (suc (held_levels words leaves worker height))) ≢ 0
    → EveryNodeIsHeld words leaves height workers
    → (other : ℕ) × (other < workers) × (other ≢ worker) × Blocks words leaves height other worker

-- Two owners are the same worker, whatever the words are.
abbrev pub SameOwnerLaw : Type 0
SameOwnerLaw = (words : ℕ → ℕ) (leaves height one other : ℕ) → leaves ≡ 2 ^ height → one < leaves → other < leaves
    → OwnsTree words leaves height one → OwnsTree words leaves height other → one ≡ other

-- The clause on nodes by sides and children is equivalent to every node having a holder.
abbrev pub LocalTreeLaw : Type 0
LocalTreeLaw = (words : ℕ → ℕ) (leaves height workers : ℕ) → leaves ≡ 2 ^ height → workers ≤ leaves
    → IsLocalTree words leaves workers ↔ EveryNodeIsHeld words leaves height workers

-- In a free tree every node has a holder, and no worker holds a level.
abbrev pub FreeTreeLaw : Type 0
FreeTreeLaw =
    (words : ℕ → ℕ) (leaves height workers : ℕ) → leaves ≡ 2 ^ height → workers ≤ leaves → IsFreeTree words leaves
    → EveryNodeIsHeld words leaves height workers
    × ((worker : ℕ) → worker < leaves → held_levels words leaves worker height ≡ 0)

-- The owner is the worker that holds every level of its path, whatever the words are.
abbrev pub OwnerLaw : Type 0
OwnerLaw =
    (words : ℕ → ℕ) (leaves height workers worker : ℕ) → leaves ≡ 2 ^ height → workers ≤ leaves → worker < workers
    → (owner words leaves height workers ≡ Some worker) ↔ (held_levels words leaves worker height ≡ height)

-- A step changes the ownership according to the levels that its worker holds.
abbrev pub OwnerStepLaw : Type 0
OwnerStepLaw =
    (old new : ℕ → ℕ) (leaves height workers worker levels : ℕ) → leaves ≡ 2 ^ height → workers ≤ leaves
    → worker < workers
    → TreeStep (tree_size leaves height workers) old new worker levels
    → OwnerStep (tree_size leaves height workers) old new worker levels

-- A worker holds the same levels if no word of its path changed.
abbrev pub SameLevelsLaw : Type 0
SameLevelsLaw = (old new : ℕ → ℕ) (leaves worker height : ℕ)
    → ((i : ℕ) → i < height → new (node leaves worker (suc i)) ≡ old (node leaves worker (suc i)))
    → held_levels new leaves worker height ≡ held_levels old leaves worker height

-- Trees with the same words have the same holders and the same owner.
abbrev pub SameTreeLaw : Type 0
SameTreeLaw = (old new : ℕ → ℕ) (leaves height workers : ℕ) → ((place : ℕ) → new place ≡ old place)
    → ((worker : ℕ) → held_levels new leaves worker height ≡ held_levels old leaves worker height)
    × (owner new leaves height workers ≡ owner old leaves height workers)
    × (EveryNodeIsHeld old leaves height workers → EveryNodeIsHeld new leaves height workers)
