-- What a directory of spaces was asked for, and what it answered.
use Rattle.std.specs.Prelude.{ℕ, List, Option, Result}
use Rattle.rme_session_spaces.specs.declared.directory.SpacePage.{SpacePage}
use Rattle.rme_space_orders.specs.NewSpaces.{SpaceRequest}
use Rattle.rme_words.specs.declared.refusal.Refusal.{Refusal}

-- THE CALLS OF A DIRECTORY: for each of its four calls, which answers it gives to what it is asked for. A space is
-- created or dropped, a visit to the space of a name is begun, the spaces behind a name are listed; or the call is
-- refused.
pub record DirectoryCalls (V : Type 0) : Type 1 where
  pub created : SpaceRequest → Result (Unit {0}) Refusal → Type 0
  pub entered : List ℕ → Result V Refusal → Type 0
  pub listed : Option (List ℕ) → Result SpacePage Refusal → Type 0
  pub removed : List ℕ → Result (Unit {0}) Refusal → Type 0
