-- Placeholders for a shape and a part, in a record whose parts were given to another.
use Rattle.std.specs.Prelude.{[], None, refl}
use native.Mathlib.Bridge.{IsLe, le_by_compare}
use Rattle.rme_words.specs.Shapes.{IsWithinLimits, IsTree}
use Rattle.rme_words.specs.declared.shape.Shape.{Shape}
use Rattle.rme_script.specs.declared.job.Job.{Job}
use Rattle.rme_machine.specs.Views.{no_script}
use Rattle.rme_program.specs.declared.note.Note.TheVariants.{Quiet}
use Rattle.rme_program.specs.Steps.{ready_private}
use Rattle.rme_service_steps.specs.declared.seat_record.Part.{Part}

pub least_limits : IsWithinLimits 3 1 1 1
unfolding IsLe
least_limits = record {
  some_worker = le_by_compare 1 3 tt;
  few_workers = le_by_compare 3 256 tt;
  some_lock = le_by_compare 1 1 tt;
  few_locks = le_by_compare 1 16 tt;
  some_cell = le_by_compare 1 1 tt;
  few_cells = le_by_compare 1 16 tt;
  some_job = le_by_compare 1 1 tt;
  few_jobs = le_by_compare 1 1000000 tt;
}

pub least_tree : IsTree 3 4 2
unfolding IsLe
least_tree = record {
  is_power = refl;
  some_level = le_by_compare 1 2 tt;
  few_levels = le_by_compare 2 8 tt;
  few_leaves = le_by_compare 4 256 tt;
  enough = le_by_compare 3 4 tt;
  least = λ more. le_by_compare 5 6 tt;
}

abbrev pub no_shape : Shape
no_shape =
    record {
      workers = 3;
      locks = 1;
      cells = 1;
      jobs = 1;
      leaves = 4;
      height = 2;
      counted = record
          { limits = least_limits; tree = least_tree };
    }

abbrev pub no_part : Part
no_part = record {
  worker = 0;
  private = ready_private 0 0;
  draft = None;
  entries = [];
  steps = 0;
  note = Quiet;
  section = None;
}

abbrev pub no_job : Job
no_job = record { lock = 0; script = no_script }
