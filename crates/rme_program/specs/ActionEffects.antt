-- The effect of an action on a memory.
use Rattle.std.specs.Prelude.{◌≡◌, ◌≢◌, ℕ}
use Rattle.rme_words.specs.declared.address.Address.{Address}
use Rattle.rme_words.specs.Words.{StoreEffect}
use Rattle.rme_program.specs.declared.action.Action.{Action}
use Rattle.rme_program.specs.declared.action.Action.TheVariants.{Load, Store, Swap}

-- The one word that an action touches.
abbrev pub action_address : Action → Address
action_address (Load address) = address
action_address (Store address value) = address
action_address (Swap address old new) = address

-- The action takes the first memory to the second, with this value found: the loaded value, or the value that a swap
-- met. A store's found value is unconstrained.
abbrev pub ActionEffect : (Address → ℕ) → (Address → ℕ) → Action → ℕ → Type 0
ActionEffect old new (Load address) found = (found ≡ old address) × (new ≡ old)
ActionEffect old new (Store address value) found = StoreEffect old new address value
ActionEffect old new (Swap address from to) found =
    (found ≡ old address) × (found ≡ from → StoreEffect old new address to) × (found ≢ from → new ≡ old)
