-- A world with a tally of its steps.
use Rattle.std.specs.Prelude.{◌≡◌, ℕ, ◌≤◌, max, Some, Result, Ok, Err}
use Rattle.rme_words.specs.declared.refusal.Refusal.{Refusal}
use Rattle.rme_words.specs.declared.shape.Shape.{Shape}
use Rattle.rme_program.specs.declared.kinds.Phase.{Phase}
use Rattle.rme_program.specs.declared.note.Note.{Note}
use Rattle.rme_history.specs.declared.tally.Tally.{Tally}
use Rattle.rme_history.specs.Tallies.{TallySees, tally_of_phase}
use Rattle.rme_world.specs.Counting.{phase_count}
use Rattle.rme_world.specs.Queries.{world_phase}
use Rattle.rme_world.specs.Opening.{world_at_opening}
use Rattle.rme_world.specs.WorldViews.{WorldView, worker_counts}
use Rattle.rme_line_engine.specs.declared.tallied.TalliedWorld.{TalliedWorld}
use Rattle.rme_world.specs.Calls.{StepContract}

abbrev pub empty_tally : Tally
empty_tally = record { recover = 0; post = 0; enter = 0; section = 0; exit = 0 }

-- a world with an empty tally
abbrev pub untallied : WorldView → TalliedWorld
untallied world = record { world = world; tally = empty_tally }

-- the initial world, with an empty tally
abbrev pub tallied_opening : Shape → TalliedWorld
tallied_opening shape = untallied (world_at_opening shape)

-- the own steps of a worker in a phase, which the call `steps` of a world answers
abbrev pub phase_steps_of : WorldView → ℕ → Phase → ℕ
phase_steps_of world worker phase = phase_count (worker_counts world worker) phase

-- a tally sees the steps of all phases of a worker: of each it stores the greater number
abbrev pub TallySeesPhases : Tally → WorldView → ℕ → Tally → Type 0
TallySeesPhases old world worker new =
    (phase : Phase) → tally_of_phase new phase ≡ max (tally_of_phase old phase) (phase_steps_of world worker phase)

-- after an accepted step a tally sees the steps of the phase in which it was made; a refused step does not change it
abbrev pub TallySeesStep : Tally → Result Note Refusal → WorldView → WorldView → ℕ → Tally → Type 0
TallySeesStep old (Ok note) before after worker new =
    (phase : Phase) × (world_phase before worker ≡ Some phase)
    × TallySees old new phase (phase_steps_of after worker phase)
TallySeesStep old (Err refusal) before after worker new = new ≡ old

-- a step of a worker, seen by the tally
pub record TalliedStep (old : TalliedWorld) (worker : ℕ) (result : Result Note Refusal) (new : TalliedWorld) : Type 0
  where
    pub stepped : StepContract old.world worker result new.world
    pub fed : TallySeesStep old.tally result old.world new.world worker new.tally

-- COMPLETE: a tally has seen all counts of a world's workers
abbrev pub TallyIsComplete : Tally → WorldView → Type 0
TallyIsComplete tally world =
    (worker : ℕ) (phase : Phase) → phase_steps_of world worker phase ≤ tally_of_phase tally phase
