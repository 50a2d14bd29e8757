-- The answer to an own step, from the report of the step.
use Rattle.std.specs.Prelude.{Result, Ok, Err}
use Rattle.rme_words.specs.declared.refusal.Refusal.{Refusal}
use Rattle.rme_program.specs.declared.note.Note.{Note}
use Rattle.rme_world.specs.declared.step.StepReport.{StepReport}

abbrev pub note_of_report : Result StepReport Refusal → Result Note Refusal
note_of_report (Ok stride) = Ok stride.note
note_of_report (Err refusal) = Err refusal
