-- What every world keeps.
use Rattle.std.specs.Prelude.{◌≡◌, ℕ, ◌+◌, ◌<◌, ◌≤◌, List, [], ◌∷◌, Some, length}
use Rattle.rme_program.specs.declared.kinds.Phase.{Phase}
use Rattle.rme_program.specs.declared.private.Private.{Private}
use Rattle.rme_program.specs.Phases.{phase_of}
use Rattle.rme_machine.specs.declared.stance.JobStance.{JobStance}
use Rattle.rme_machine.specs.declared.stance.JobStance.TheVariants.{Idle, Handed, Waiting, Inside, Finished}
use Rattle.rme_machine.specs.Machine.{WorkerState}
use Rattle.rme_machine.specs.Invariant.{Invariant}
use Rattle.rme_world.specs.Counting.{IsStayCount, max_phase_steps, phase_count}
use Rattle.rme_world.specs.WorldViews.{WorldView, worker_counts, world_abstract_state, world_memory, world_privates}

-- The number of entries due: one for each job that is submitted, or asked for and neither finished nor withdrawn.
abbrev pub entries_due : JobStance → ℕ
entries_due Idle = 0
entries_due (Handed job) = 1
entries_due (Waiting k job) = 1
entries_due (Inside k job) = 1
entries_due (Finished k job) = 0

abbrev pub total_entries_due : List WorkerState → ℕ
total_entries_due [] = 0
total_entries_due (worker ∷ workers) = entries_due worker.stance + total_entries_due workers

-- The invariant of every world: each worker has a slot for its private state and its counts, the machine's invariant
-- holds, there is room for each entry that is due, and the counts are those of stays.
pub record WorldInvariant (seen : WorldView) : Type 0 where
  pub all_privates : length seen.privates ≡ seen.shape.workers
  pub all_counts : length seen.counts ≡ seen.shape.workers
  pub fact : Invariant seen.shape (world_memory seen) (world_privates seen) seen.history
  pub room : total_entries_due (world_abstract_state seen).workers ≤ seen.room
  pub stays : (worker : ℕ) (private : Private) → worker < seen.shape.workers → world_privates seen worker ≡ Some private
      → IsStayCount seen.shape private.stage (phase_count (worker_counts seen worker) (phase_of private.stage))
  pub short : (worker : ℕ) (phase : Phase) → worker < seen.shape.workers
      → phase_count (worker_counts seen worker) phase ≤ max_phase_steps seen.shape phase
