-- THE SPACE OF AN ENTRY AND OF A VISIT, by its name.
use Rattle.std.specs.Prelude.{◌≡◌, ℕ, List}
use Rattle.std.specs.Arc.{arc_value}
use Rattle.rme_session_spaces.specs.declared.entry.Arrival.{Arrival}
use Rattle.rme_session_spaces.specs.declared.entry.Arrival.TheVariants.{Guest, Close, Nothing}
use Rattle.rme_session_spaces.specs.declared.entry.SpaceEntry.{SpaceEntry}
use Rattle.rme_session_spaces.specs.declared.registry.Removing.{Removing}
use Rattle.rme_session_spaces.specs.declared.registry.Removing.TheVariants.{Begun, Visited, Closing}
use Rattle.rme_session_spaces.specs.declared.visit.SpaceVisit.{SpaceVisit}

abbrev pub entry_name : {G : Type 0} → SpaceEntry G → List ℕ
entry_name entry = entry.name

-- The name of the space that a visit leads to.
abbrev pub visit_name : {G : Type 0} → SpaceVisit G → List ℕ
visit_name visit = entry_name (arc_value visit.entry)

-- What comes for the space of this name: a guest has a visit to it.
abbrev pub ComesTo : {G : Type 0} → List ℕ → Arrival G → Type 0
ComesTo name (Guest guest visit) = visit_name visit ≡ name
ComesTo name Close = Unit {0}
ComesTo name Nothing = Unit {0}

-- The entry that is removed, or closed before, is that of the space of this name.
abbrev pub RemovesNamed : {G : Type 0} → List ℕ → Removing G → Type 0
RemovesNamed name (Begun entry) = entry_name (arc_value entry) ≡ name
RemovesNamed name Visited = Unit {0}
RemovesNamed name (Closing entry) = entry_name (arc_value entry) ≡ name
