-- The counts of own steps.
use Rattle.std.specs.Prelude.{◌≡◌, ◌≢◌, ℕ, ◌+◌, ◌*◌, ◌≤◌}
use Rattle.rme_words.specs.declared.shape.Shape.{Shape}
use Rattle.rme_program.specs.declared.kinds.Phase.{Phase}
use Rattle.rme_program.specs.declared.kinds.Phase.TheVariants.{Recover, Post, Enter, Section, Exit, Ready}
use Rattle.rme_program.specs.declared.note.Note.{Note}
use Rattle.rme_program.specs.declared.note.Note.TheVariants.{Blocked}
use Rattle.rme_program.specs.declared.stage.Stage.{Stage}
use Rattle.rme_program.specs.Phases.{phase_of, steps_left}
use Rattle.rme_program.specs.Progress.{StepsTaken, max_stay_steps}
use Rattle.rme_world.specs.declared.counts.Counts.{Counts}

-- The count of one phase.
abbrev pub phase_count : Counts → Phase → ℕ
phase_count counts Recover = counts.recover
phase_count counts Post = counts.post
phase_count counts Enter = counts.enter
phase_count counts Section = counts.section
phase_count counts Exit = counts.exit
phase_count counts Ready = 0

-- The counts with the count of one phase replaced.
abbrev pub with_phase_count : Counts → Phase → ℕ → Counts
with_phase_count counts Recover n = record counts { recover = n }
with_phase_count counts Post n = record counts { post = n }
with_phase_count counts Enter n = record counts { enter = n }
with_phase_count counts Section n = record counts { section = n }
with_phase_count counts Exit n = record counts { exit = n }
with_phase_count counts Ready n = counts

-- One more step in a phase.
abbrev pub with_step_counted : Counts → Phase → Counts
with_step_counted counts phase = with_phase_count counts phase (phase_count counts phase + 1)

-- The counts when a stay begins: 0 for its phase.
abbrev pub with_stay_begun : Counts → Phase → Counts
with_stay_begun counts phase = with_phase_count counts phase 0

abbrev pub no_counts : Counts
no_counts = record { recover = 0; post = 0; enter = 0; section = 0; exit = 0 }

-- The counts after a step that was made in phase `before` and left the worker in phase `after`. A blocked step changes
-- no count. Any other step counts for the stay in which it was made; if it ends that stay, the next stay begins at 0.
pub record CountsAfterStep (old : Counts) (before after : Phase) (note : Note) (new : Counts) : Type 0 where
  pub blocked : note ≡ Blocked → new ≡ old
  pub goes_on : note ≢ Blocked → after ≡ before → new ≡ with_step_counted old before
  pub ends : note ≢ Blocked → after ≢ before → new ≡ with_stay_begun (with_step_counted old before) after

-- The greatest number of steps of a stay: h + 3 of Recover, 3 + 3n of Post, h of Enter, 11 + 3n + 4t of a section, h +
-- 3 of a withdrawing Exit, with n at most 8 operations and t at most all cells.
abbrev pub max_phase_steps : Shape → Phase → ℕ
max_phase_steps shape Recover = shape.height + 3
max_phase_steps shape Post = 27
max_phase_steps shape Enter = shape.height
max_phase_steps shape Section = 35 + 4 * shape.cells
max_phase_steps shape Exit = shape.height + 3
max_phase_steps shape Ready = 0

-- An upper bound for the steps in the row of a stay that begins at this stage: h + 3 of Recover, 3 + 3n of Post, h - j
-- of Enter, 35 + 4C of a section, h + 2 of Exit, j of its partial and 4 + j of its withdrawing form, with j levels
-- held.
abbrev pub max_row_steps : Shape → Stage → ℕ
max_row_steps shape stage = max_stay_steps shape stage stage

-- The steps made in a worker's stay, plus the upper bound of the steps left of it.
abbrev pub steps_made_and_left : Shape → Counts → Stage → ℕ
steps_made_and_left shape counts stage = phase_count counts (phase_of stage) + steps_left shape stage

-- `count` is the number of steps made in the stay of a worker at this stage. The stay began at `first`; the steps made
-- and the steps left are together at most the steps of the whole stay.
pub record IsStayCount (shape : Shape) (stage : Stage) (count : ℕ) : Type 0 where
  pub first : Stage
  pub taken : StepsTaken shape first stage count
  pub within : count + steps_left shape stage ≤ max_stay_steps shape first stage
  pub short : count + steps_left shape stage ≤ max_phase_steps shape (phase_of stage)
