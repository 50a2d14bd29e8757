-- In reading order: the masks of cells, the effect of an action on a memory, the next action of each stage and its
-- outcome, the preconditions of `next` and `after`, and the phases. Then the step table: its rows, the place of a
-- worker in a row, the stays that walk the rows, the progress of each step, the laws of rows, whole walks, and the
-- meaning of notes.
pub mod Masks
pub mod ActionEffects
pub mod Steps
pub mod Conditions
pub mod Phases
pub mod Table
pub mod StepsMade
pub mod Stays
pub mod Progress
pub mod RowLaws
pub mod StepSequences
pub mod NoteLaws
