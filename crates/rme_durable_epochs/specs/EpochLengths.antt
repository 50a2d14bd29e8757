-- How long an epoch is: its sections, and the job numbers that its workers have used; and an owner without a job.
use Rattle.std.specs.Prelude.{◌≡◌, ◌<◌, ◌==◌, ℕ, ◌-◌, nat_lt, nat_le, Bool, false, List, get_or, length, Option, Some, None, if◌then◌else◌}
use Rattle.rme_program.specs.declared.note.Entry.{Entry}
use Rattle.rme_program.specs.declared.note.Receipt.{Receipt}
use Rattle.rme_machine.specs.Histories.{place_of}
use Rattle.rme_tree.specs.Nodes.{owner_in}
use Rattle.rme_machine.specs.Views.{is_pending}
use Rattle.rme_world.specs.Queries.{world_worker_words}
use Rattle.rme_world.specs.WorldViews.{WorldView, world_memory}

-- The jobs that a worker began in this epoch; none for a number of no worker.
abbrev pub begun_jobs : WorldView → ℕ → ℕ
begun_jobs seen worker = if nat_lt worker seen.shape.workers then (world_worker_words seen worker).begun else 0

-- The finished sections of the epoch, less one for each job of the checkpoint worker, which set the cells.
abbrev pub client_sections : WorldView → ℕ
client_sections seen = length seen.history - begun_jobs seen (seen.shape.workers - 1)

-- A worker, if there is one, has used all its job numbers of the epoch.
abbrev pub has_spent_jobs : WorldView → Option ℕ → Bool
has_spent_jobs seen None = false
has_spent_jobs seen (Some worker) = nat_le seen.shape.jobs (begun_jobs seen worker)

-- The owner of a lock, if it has no pending job: it crashed after its section, and before it had left the lock.
abbrev pub if_jobless : WorldView → Option ℕ → Option ℕ
if_jobless seen None = None
if_jobless seen (Some worker) =
    if nat_lt worker seen.shape.workers then (if is_pending (world_worker_words seen worker) then None else Some worker)
    else None

abbrev pub jobless_owner : WorldView → ℕ → Option ℕ
jobless_owner seen lock = if_jobless seen (owner_in seen.shape (world_memory seen) lock)

-- A receipt is of this lock.
abbrev pub sections_of_lock : Receipt → ℕ → ℕ
sections_of_lock receipt lock = if receipt.lock == lock then 1 else 0

-- The counts of a history's sections, by lock.
abbrev pub AreSectionCounts : List Entry → List ℕ → Type 0
AreSectionCounts history counts = (lock : ℕ) → lock < 16 → get_or counts lock 0 ≡ place_of history lock
