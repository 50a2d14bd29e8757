-- The part of one worker, and its changes: by an own step, and by what precedes a call's first step.
use Rattle.std.specs.Prelude.{ℕ, ◌+◌, List, [], ◌∷◌, ◌++◌, Option, Some, None}
use Rattle.rme_words.specs.declared.shape.Shape.{Shape}
use Rattle.rme_script.specs.declared.job.Job.{Job}
use Rattle.rme_script.specs.Programs.{Program}
use Rattle.rme_program.specs.declared.note.Entry.{Entry}
use Rattle.rme_program.specs.declared.note.Note.{Note}
use Rattle.rme_program.specs.declared.note.Note.TheVariants.{Quiet, Asked, Blocked, Entered, Reentered, Finished, Left, Ready, Withdrew}
use Rattle.rme_program.specs.declared.private.Private.{Private}
use Rattle.rme_program.specs.Steps.{private_after, note_after, ready_private, restarted_private, submitted_private, withdrawing_private}
use Rattle.rme_machine.specs.Views.{no_script}
use Rattle.rme_machine.specs.AbstractState.{act_of_note}
use Rattle.rme_machine.specs.KnownSections.{section_after}
use Rattle.rme_service_steps.specs.declared.seat_record.Part.{Part}

-- The script of the job that was posted last.
abbrev pub draft_script : Option Job → Program
draft_script None = no_script
draft_script (Some job) = job.script

-- The entries after a step: a finished section adds one, with the draft's script.
abbrev pub entries_after : List Entry → Option Job → Note → List Entry
entries_after entries draft Quiet = entries
entries_after entries draft (Asked k) = entries
entries_after entries draft Blocked = entries
entries_after entries draft (Entered lock) = entries
entries_after entries draft (Reentered lock) = entries
entries_after entries draft (Finished receipt) =
    entries ++ record { receipt = receipt; script = draft_script draft } ∷ []
entries_after entries draft (Left lock) = entries
entries_after entries draft Ready = entries
entries_after entries draft (Withdrew k) = entries

-- A part after one own step, which loaded or found this value: the core's `after`, and one step more.
abbrev pub part_after_step : Shape → Part → ℕ → Part
part_after_step shape part value = record {
  worker = part.worker;
  private = private_after shape part.private value;
  draft = part.draft;
  entries = entries_after part.entries part.draft (note_after shape part.private value);
  steps = part.steps + 1;
  note = note_after shape part.private value;
  section = section_after (act_of_note (note_after shape part.private value)) part.section;
}

-- A part after own steps that found these values, in order.
abbrev pub part_after_steps : Shape → Part → List ℕ → Part
part_after_steps shape part [] = part
part_after_steps shape part (value ∷ values) = part_after_steps shape (part_after_step shape part value) values

-- The same with a change before the first step. Without a step the change is not made.
abbrev pub part_after_change : Shape → (Part → Part) → Part → List ℕ → Part
part_after_change shape lead part [] = part
part_after_change shape lead part (value ∷ values) =
    part_after_steps shape (part_after_step shape (lead part) value) values

-- The changes before a first step: none; Crash and Restart; Submit; Withdraw.
abbrev pub part_with_private : Part → Private → Part
part_with_private part private = record part { private = private }

abbrev pub unchanged_part : Part → Part
unchanged_part part = part

abbrev pub restarted_part : Part → Part
restarted_part part = part_with_private part (restarted_private part.worker)

abbrev pub submitted_part : Job → Part → Part
submitted_part job part = record part { private = submitted_private part.private job; draft = Some job }

abbrev pub withdrawing_part : Part → Part
withdrawing_part part = part_with_private part (withdrawing_private part.private)

-- A part whose worker has read the number of finished sections of its lock.
abbrev pub part_with_section : Part → ℕ → Part
part_with_section part section = record part { section = Some section }

-- The part of a worker at the opening: ready, with no job posted.
abbrev pub fresh_part : ℕ → Part
fresh_part worker =
    record {
      worker = worker;
      private = ready_private worker 0;
      draft = None;
      entries = [];
      steps = 0;
      note = Quiet;
      section = None;
    }
