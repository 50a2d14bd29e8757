-- The answer of a test.
use Rattle.std.proofs.Common.{◌≡◌, refl}
use Rattle.std.specs.Prelude.{true, false, ◌↔◌, IsTrue}

-- False for a property that does not hold, and true for one that does.
pub no_to : {P : Type 0} → (P → ⊥) → IsTrue false ↔ P
no_to none = (λ is. absurd (cc), λ holds. absurd (none holds))

pub yes_to : {P : Type 0} → P → IsTrue true ↔ P
yes_to holds = (λ is. holds, λ is. refl)

-- A property whose test answered false does not hold.
pub refuted : {P : Type 0} → IsTrue false ↔ P → P → ⊥
refuted told holds = let clash : false ≡ true = told.1 holds in absurd (cc)
