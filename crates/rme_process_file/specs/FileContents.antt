-- The locks and the workers of a file, from its words.
use Rattle.std.specs.Prelude.{ℕ, ◌+◌, ◌/◌, ◌%◌, Bool, true, false, ◌==◌, ◌&&◌, not, nat_lt, List, Option, Some, None, if◌then◌else◌}
use Rattle.std.specs.List.{list_all}
use Rattle.rme_words.specs.declared.shape.Shape.{Shape}
use Rattle.rme_words.specs.declared.address.Address.TheVariants.{Turn}
use Rattle.rme_tree.specs.Nodes.{owner_in}
use Rattle.rme_script.specs.declared.job.Job.{Job}
use Rattle.rme_script.specs.Programs.{Program}
use Rattle.rme_script.specs.Scripts.{op_is_within}
use Rattle.rme_machine.specs.Views.{WorkerWords, worker_words, lock_words, is_pending, slate_script, slate_job}
use Rattle.rme_waiting.specs.Waiting.{blocked_by}
use Rattle.rme_process_file.specs.declared.stance.FileStance.{FileStance}
use Rattle.rme_process_file.specs.declared.stance.FileStance.TheVariants.{Ready, Climb, Held}
use Rattle.rme_process_file.specs.ProcessFiles.{ProcessFileView, file_memory}

-- The words of a worker, the owner of a lock and its cells.
abbrev pub worker_words_in : ProcessFileView → ℕ → WorkerWords
worker_words_in file worker = worker_words (file_memory file) worker

abbrev pub lock_owner_in : ProcessFileView → ℕ → Option ℕ
lock_owner_in file lock = owner_in file.shape (file_memory file) lock

abbrev pub cells_in : ProcessFileView → ℕ → List ℕ
cells_in file lock = (lock_words file.shape (file_memory file) lock).cells

-- Whether the cells of a lock are settled: it has no owner, or its owner's job is done.
abbrev pub is_owner_settled : (ℕ → WorkerWords) → Option ℕ → Bool
is_owner_settled owns None = true
is_owner_settled owns (Some worker) = not (is_pending (owns worker))

abbrev pub is_lock_settled_in : ProcessFileView → ℕ → Bool
is_lock_settled_in file lock = is_owner_settled (worker_words_in file) (lock_owner_in file lock)

-- The number of finished sections of a lock. If the turn is odd, the last section is logged: it is finished once the
-- cells are settled.
abbrev pub sections_by : ℕ → Bool → ℕ
sections_by turn settled = turn / 2 + (if settled then turn % 2 else 0)

abbrev pub sections_in : ProcessFileView → ℕ → ℕ
sections_in file lock = sections_by (file_memory file (Turn lock)) (is_lock_settled_in file lock)

-- Whether a worker's slate has a job of the shape.
abbrev pub script_fits_cells : ℕ → Option Program → Bool
script_fits_cells cells None = false
script_fits_cells cells (Some script) = list_all (op_is_within cells) script.ops

unfoldable pub has_slate_job : Shape → WorkerWords → Bool
has_slate_job shape own = nat_lt own.slate_lock shape.locks && script_fits_cells shape.cells (slate_script own)

-- The job that a worker has asked for, until it is done or withdrawn. None if the slate has no job of the shape, which
-- does not happen while a job is pending.
abbrev pub pending_in : Shape → WorkerWords → Option Job
pending_in shape own = if is_pending own && has_slate_job shape own then Some (slate_job own) else None

-- The stance of a worker: it is inside the lock that it has asked for if it owns that lock, otherwise it waits for it.
abbrev pub is_owner_worker : Option ℕ → ℕ → Bool
is_owner_worker None worker = false
is_owner_worker (Some owner) worker = owner == worker

abbrev pub file_stance_of_job : ProcessFileView → ℕ → Option Job → FileStance
file_stance_of_job file worker None = Ready
file_stance_of_job file worker (Some job) =
    if is_owner_worker (lock_owner_in file job.lock) worker then Held job.lock else Climb job.lock

abbrev pub file_stance_in : ProcessFileView → ℕ → FileStance
file_stance_in file worker = file_stance_of_job file worker (pending_in file.shape (worker_words_in file worker))

-- The worker that a worker waits for, if it waits and there is one.
abbrev pub blocked_at_stance : ProcessFileView → ℕ → FileStance → Option ℕ
blocked_at_stance file worker Ready = None
blocked_at_stance file worker (Climb lock) = blocked_by file.shape (file_memory file) worker
blocked_at_stance file worker (Held lock) = None

abbrev pub blocked_by_in : ProcessFileView → ℕ → Option ℕ
blocked_by_in file worker = blocked_at_stance file worker (file_stance_in file worker)
