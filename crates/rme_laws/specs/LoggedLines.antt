-- The lines of events, and a recovered world.
use Rattle.std.specs.Prelude.{◌≡◌, ℕ, List, [], ◌∷◌, Some, None, true}
use Rattle.rme_wire.specs.declared.command.Command.{Command}
use Rattle.rme_wire.specs.declared.command.Command.TheVariants.{Walk}
use Rattle.rme_line_engine.specs.EngineStates.{EngineState}
use Rattle.rme_line_engine.specs.declared.tallied.TalliedWorld.{TalliedWorld}
use Rattle.rme_durable_format.specs.CommandLines.{IsCommandLine}
use Rattle.rme_durable_format.specs.Recovery.{changes_world}
use Rattle.rme_world.specs.WorldViews.{WorldView}
use Rattle.rme_laws.specs.AlikeWorlds.{AreWorldsAlike}

-- A command of the kind that orders are logged as: it changes a world, and a walk of own steps names no note at which it
-- ends.
abbrev pub IsOrderCommand : Command → Type 0
IsOrderCommand (Walk walk) = walk.until ≡ None
IsOrderCommand command = changes_world command ≡ true

-- There is one line for each command, in the same order. It asks for the command, with these names of the locks.
abbrev pub AreCommandLines : List (List ℕ) → List Command → List (List ℕ) → Type 0
AreCommandLines names [] [] = Unit {0}
AreCommandLines names (command ∷ commands) (line ∷ lines) =
    IsOrderCommand command × IsCommandLine names command line × AreCommandLines names commands lines
AreCommandLines names commands lines = ⊥

-- An alike world is open, and its locks have these names.
pub record HasAlikeWorldOpen (names : List (List ℕ)) (world : WorldView) (state : EngineState) : Type 0 where
  pub tallied : TalliedWorld
  pub is : state ≡ record { names = names; world = Some tallied }
  pub alike : AreWorldsAlike world tallied.world
