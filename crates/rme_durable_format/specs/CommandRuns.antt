-- The events of a file's lines.
use Rattle.std.specs.Prelude.{◌≡◌, ◌≤◌, ℕ, List, replicate}
use Rattle.rme_program.specs.declared.event.Event.{Event}
use Rattle.rme_program.specs.declared.event.Event.TheVariants as event
use Rattle.rme_wire.specs.declared.command.Command.{Command}
use Rattle.rme_wire.specs.declared.command.Command.TheVariants.{Walk}
use Rattle.rme_durable_format.specs.BatchCommands.{asked_events}

-- The events of a command; those of a walk are the steps that it made before it ended.
abbrev pub IsCommandRun : Command → List Event → Type 0
IsCommandRun (Walk walk) events = (steps : ℕ) × (steps ≤ walk.max) × (events ≡ replicate steps (event.Step walk.worker))
IsCommandRun command events = events ≡ asked_events command
