-- The nodes of a memory, and the owner and the levels held in a lock of a shape.
use Rattle.std.specs.Prelude.{ℕ, Option}
use Rattle.rme_words.specs.declared.shape.Shape.{Shape}
use Rattle.rme_words.specs.declared.address.Address.{Address}
use Rattle.rme_words.specs.declared.address.Address.TheVariants.{Node}
use Rattle.rme_tree.specs.Paths.{held_levels, owner}

-- The words of a lock's nodes.
abbrev pub lock_nodes : (Address → ℕ) → ℕ → ℕ → ℕ
lock_nodes memory lock = λ place. memory (Node lock place)

-- The number of levels that a worker holds in a lock.
abbrev pub held_levels_in : Shape → (Address → ℕ) → ℕ → ℕ → ℕ
held_levels_in shape memory worker lock = held_levels (lock_nodes memory lock) shape.leaves worker shape.height

-- A lock's owner.
abbrev pub owner_in : Shape → (Address → ℕ) → ℕ → Option ℕ
owner_in shape memory lock = owner (lock_nodes memory lock) shape.leaves shape.height shape.workers
