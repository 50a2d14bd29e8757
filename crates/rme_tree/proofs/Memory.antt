-- The effect of a store of one word of a memory on the trees of its locks.
use Rattle.std.proofs.Common.{◌≡◌, ◌≢◌, ℕ, suc, ◌<◌, sym, subst}
use Rattle.rme_words.specs.declared.shape.Shape.{Shape}
use Rattle.rme_words.specs.declared.address.Address.{Address}
use Rattle.rme_words.specs.declared.address.Address.TheVariants.{Node}
use Rattle.rme_words.specs.Words.{StoreEffect}
use Rattle.rme_tree.specs.Paths.{node, side}
use Rattle.rme_tree.specs.HeldTrees.{NodeStoreEffect, EveryNodeIsHeld, TreeStep, HeldByOther, tree_size}
use Rattle.rme_tree.specs.Nodes.{lock_nodes, held_levels_in}
use Rattle.rme_tree.specs.NodeStores.{SameNodes, NodeStoreLaw}
use Rattle.rme_tree.proofs.Steps.{take, clear, blocked}

pub put_node : (old new : Address → ℕ) (lock place value : ℕ) → StoreEffect old new (Node lock place) value → NodeStoreEffect (lock_nodes old lock) (lock_nodes new lock) place value
put_node old new lock place value wrote = record {
  at = wrote.at;
  off = λ other apart. wrote.off (Node lock other) (λ same. apart (cc));
}

pub other_lock : (old new : Address → ℕ) (lock place value other : ℕ) → StoreEffect old new (Node lock place) value → other ≢ lock → SameNodes old new other
other_lock old new lock place value other wrote apart v = wrote.off (Node other v) (λ same. apart (cc))

pub no_node : (old new : Address → ℕ) (address : Address) (value : ℕ) → StoreEffect old new address value
    → ((lock place : ℕ) → address ≢ Node lock place) → (lock : ℕ) → SameNodes old new lock
no_node old new address value wrote apart lock v = wrote.off (Node lock v) (λ same. apart lock v (sym same))

pub store_law : NodeStoreLaw
store_law old new address value wrote = (
  (λ lock place e.
      let P : Address → Type 0 = λ a. StoreEffect old new a value in
      let at : StoreEffect old new (Node lock place) value = subst P e wrote in
      record { here = put_node old new lock place value at; elsewhere = λ other apart. other_lock old new lock place value other at apart }),
  no_node old new address value wrote,
)

-- The laws of a step, for a lock's nodes in a memory of a shape.
module _ (s : Shape) (old new : Address → ℕ) (lock w k : ℕ) (is_worker : w < s.workers) (less : k < s.height)
    (root : EveryNodeIsHeld (lock_nodes old lock) s.leaves s.height s.workers) where
  pub take_in : held_levels_in s old w lock ≡ k → old (Node lock (node s.leaves w (suc k))) ≡ 0
      → StoreEffect old new (Node lock (node s.leaves w (suc k))) (side s.leaves w (suc k))
      → TreeStep (tree_size s.leaves s.height s.workers) (lock_nodes old lock) (lock_nodes new lock) w (suc k)
  take_in holds free wrote =
      take (lock_nodes old lock) (lock_nodes new lock) s.leaves s.height s.workers w k s.counted.tree.is_power s.counted.tree.enough is_worker less
      holds free (put_node old new lock _ _ wrote) root

  pub clear_in : held_levels_in s old w lock ≡ suc k → StoreEffect old new (Node lock (node s.leaves w (suc k))) 0
      → TreeStep (tree_size s.leaves s.height s.workers) (lock_nodes old lock) (lock_nodes new lock) w k
  clear_in holds wrote =
      clear (lock_nodes old lock) (lock_nodes new lock) s.leaves s.height s.workers w k s.counted.tree.is_power s.counted.tree.enough is_worker less
      holds (put_node old new lock _ _ wrote) root

pub blocked_in : (s : Shape) (mem : Address → ℕ) (lock w k : ℕ) → w < s.workers → k < s.height
    → EveryNodeIsHeld (lock_nodes mem lock) s.leaves s.height s.workers → held_levels_in s mem w lock ≡ k → mem (Node lock (node s.leaves w (suc k))) ≢ 0
    → HeldByOther (lock_nodes mem lock) s.leaves s.height s.workers w k
blocked_in s mem lock w k is_worker less root holds taken =
    blocked (lock_nodes mem lock) s.leaves s.height s.workers w k s.counted.tree.is_power s.counted.tree.enough is_worker less holds taken root
