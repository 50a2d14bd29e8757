-- The law of the tally: the contract of the function of the module `laws`.
use Rattle.std.specs.Prelude.{ℕ, List, Option, Some, None, Ok}
use Rattle.rme_line_io.specs.Pieces.{InputLine}
use Rattle.rme_program.specs.declared.note.Note.{Note}
use Rattle.rme_line_engine.specs.declared.tallied.TalliedWorld.{TalliedWorld}
use Rattle.rme_line_engine.specs.Lines.{LineAnswer}
use Rattle.rme_line_engine.specs.EngineStates.{EngineState}
use Rattle.rme_line_engine.specs.Tallies.{TallyIsComplete, TallySeesPhases, TalliedStep}

-- the tally of the open world, if one is open, is complete
abbrev pub OpenTallyIsComplete : Option TalliedWorld → Type 0
OpenTallyIsComplete None = Unit {0}
OpenTallyIsComplete (Some tallied) = TallyIsComplete tallied.tally tallied.world

-- The tally of every run equals the one that sees the steps of all phases of a worker after each accepted step.
pub record TallyLaw : Type 0 where
  -- it is complete, since every line leaves it complete
  pub kept : (old new : EngineState) (line : InputLine) (answer : List ℕ) → OpenTallyIsComplete old.world
      → LineAnswer old line answer new → OpenTallyIsComplete new.world
  -- and then only the phase of the step has to be seen
  pub fed : (old new : TalliedWorld) (worker : ℕ) (note : Note) → TallyIsComplete old.tally old.world
      → TalliedStep old worker (Ok note) new
      → TallySeesPhases old.tally new.world worker new.tally
