-- The greatest number of steps seen of each phase.
use Rattle.std.specs.Prelude.{◌≡◌, ◌≢◌, ℕ, max}
use Rattle.rme_program.specs.declared.kinds.Phase.{Phase}
use Rattle.rme_program.specs.declared.kinds.Phase.TheVariants.{Recover, Post, Enter, Section, Exit, Ready}
use Rattle.rme_history.specs.declared.tally.Tally.{Tally}

-- The count of a phase. Phase Ready has no steps.
abbrev pub tally_of_phase : Tally → Phase → ℕ
tally_of_phase tally Recover = tally.recover
tally_of_phase tally Post = tally.post
tally_of_phase tally Enter = tally.enter
tally_of_phase tally Section = tally.section
tally_of_phase tally Exit = tally.exit
tally_of_phase tally Ready = 0

-- Steps of a phase are seen: its count becomes the greater of the two, unless it is Ready, and the other counts stay.
pub record TallySees (old new : Tally) (phase : Phase) (steps : ℕ) : Type 0 where
  pub greater : phase ≢ Ready → tally_of_phase new phase ≡ max (tally_of_phase old phase) steps
  pub others : (other : Phase) → other ≢ phase → tally_of_phase new other ≡ tally_of_phase old other
