-- What a store does to the trees of a memory.
use Rattle.std.specs.Prelude.{◌≡◌, ◌≢◌, ℕ}
use Rattle.rme_words.specs.declared.address.Address.{Address}
use Rattle.rme_words.specs.declared.address.Address.TheVariants.{Node}
use Rattle.rme_words.specs.Words.{StoreEffect}
use Rattle.rme_tree.specs.HeldTrees.{NodeStoreEffect}
use Rattle.rme_tree.specs.Nodes.{lock_nodes}

-- The trees are unchanged.
abbrev pub SameNodes : (Address → ℕ) → (Address → ℕ) → ℕ → Type 0
SameNodes old new lock = (place : ℕ) → lock_nodes new lock place ≡ lock_nodes old lock place

-- The effect of a store on the trees: a store of a node changes that node of that lock's tree, and a store of any other
-- word changes no tree.
pub record NodeStoreInTree (old new : Address → ℕ) (lock place value : ℕ) : Type 0 where
  pub here : NodeStoreEffect (lock_nodes old lock) (lock_nodes new lock) place value
  pub elsewhere : (other : ℕ) → other ≢ lock → SameNodes old new other

abbrev pub NodeStoreLaw : Type 0
NodeStoreLaw = (old new : Address → ℕ) (address : Address) (value : ℕ) → StoreEffect old new address value
    → ((lock place : ℕ) → address ≡ Node lock place → NodeStoreInTree old new lock place value)
    × (((lock place : ℕ) → address ≢ Node lock place) → (lock : ℕ) → SameNodes old new lock)
