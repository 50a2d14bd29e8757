-- What the look-ups report.
use Rattle.std.specs.Prelude.{◌≡◌, ◌≢◌, ℕ, ◌+◌, ◌*◌, ◌<◌, ◌≤◌, false, Option, Some, slice_get}
use Rattle.std.specs.Option.{option_map}
use Rattle.rme_tree.specs.Nodes.{lock_nodes, held_levels_in, owner_in}
use Rattle.rme_tree.specs.HeldTrees.{HeldByOther}
use Rattle.rme_program.specs.declared.kinds.Phase.{Phase}
use Rattle.rme_program.specs.declared.kinds.Phase.TheVariants.{Recover}
use Rattle.rme_program.specs.declared.note.Entry.{Entry}
use Rattle.rme_program.specs.declared.note.Note.{Note}
use Rattle.rme_program.specs.declared.note.Note.TheVariants.{Quiet, Reentered}
use Rattle.rme_program.specs.Phases.{phase_of, steps_left}
use Rattle.rme_program.specs.declared.note.Receipt.{Receipt}
use Rattle.rme_program.specs.declared.private.Private.{Private}
use Rattle.rme_program.specs.declared.stage.Ascent.{Ascent}
use Rattle.rme_program.specs.declared.stage.Redo.TheVariants.{StoreDone}
use Rattle.rme_program.specs.declared.stage.Visit.{Visit}
use Rattle.rme_program.specs.declared.stage.Slate.{Slate}
use Rattle.rme_program.specs.declared.stage.Stage.TheVariants.{Resting, Posting, Climbing, Copying}
use Rattle.rme_program.specs.StepsMade.{section_steps}
use Rattle.rme_program.specs.Progress.{StageProgress}
use Rattle.rme_program.specs.Stays.{WorkerIsAtRow}
use Rattle.rme_program.specs.Steps.{withdrawn_place}
use Rattle.rme_machine.specs.Histories.{last_entry_of_worker, has_entry}
use Rattle.rme_machine.specs.AbstractCells.{state_owner}
use Rattle.rme_machine.specs.Views.{WorkerWords, worker_words, slate_job}
use Rattle.rme_world.specs.Counting.{phase_count, max_row_steps, steps_made_and_left}
use Rattle.rme_world.specs.WorldViews.{WorldView, worker_counts, world_memory, world_privates, world_abstract_state}

-- The words of a worker hold a receipt: its last job is done, and its number was not withdrawn.
pub record WordsHaveReceipt (own : WorkerWords) : Type 0 where
  pub done : own.done ≡ own.begun
  pub some : own.begun ≢ 0
  pub kept : own.place ≢ withdrawn_place

abbrev pub world_worker_words : WorldView → ℕ → WorkerWords
world_worker_words seen worker = worker_words (world_memory seen) worker

-- The receipt is that of the worker's last entry.
pub record IsLastReceipt (seen : WorldView) (worker : ℕ) (receipt : Receipt) : Type 0 where
  pub entry : Entry
  pub last : last_entry_of_worker seen.history worker ≡ Some entry
  pub same : receipt ≡ entry.receipt

-- A worker is up and has a step to make.
abbrev pub WorkerIsBusy : WorldView → ℕ → Type 0
WorkerIsBusy seen worker =
    (private : Private) × (slice_get seen.privates worker ≡ Some (Some private)) × (private.stage ≢ Resting)

-- A worker is up and in this phase.
abbrev pub WorkerIsInPhase : WorldView → ℕ → Phase → Type 0
WorkerIsInPhase seen worker phase =
    (private : Private) × (slice_get seen.privates worker ≡ Some (Some private)) × (phase_of private.stage ≡ phase)

-- The phase of a worker, if it is up.
abbrev pub world_phase : WorldView → ℕ → Option Phase
world_phase seen worker = option_map (λ (private : Private). phase_of private.stage) (world_privates seen worker)

-- A worker owns the lock of its slate, by the words and in the abstract state.
pub record WorkerOwnsItsLock (seen : WorldView) (worker : ℕ) : Type 0 where
  pub lock : (world_worker_words seen worker).slate_lock < seen.shape.locks
  pub owner : owner_in seen.shape (world_memory seen) (world_worker_words seen worker).slate_lock ≡ Some worker
  pub shown : state_owner (world_abstract_state seen) (world_worker_words seen worker).slate_lock ≡ Some worker

-- A worker is up and in phase Ready.
abbrev pub WorkerIsReady : WorldView → ℕ → Type 0
WorkerIsReady seen worker =
    (private : Private) × (slice_get seen.privates worker ≡ Some (Some private)) × (private.stage ≡ Resting)

-- A worker holds no node of any lock.
abbrev pub WorkerHoldsNoNode : WorldView → ℕ → Type 0
WorkerHoldsNoNode seen worker =
    (lock : ℕ) → lock < seen.shape.locks → held_levels_in seen.shape (world_memory seen) worker lock ≡ 0

-- A step brought a worker nearer to the end of its phase, or to a later phase.
abbrev pub MakesProgress : WorldView → WorldView → ℕ → Type 0
MakesProgress old new worker =
    (before after : Private) → slice_get old.privates worker ≡ Some (Some before)
    → slice_get new.privates worker ≡ Some (Some after)
    → StageProgress old.shape before.stage after.stage

-- A stay of a worker begins: no step of it is made, and the steps left are at most those of its row.
pub record WorkerStartsStay (seen : WorldView) (worker : ℕ) (private : Private) : Type 0 where
  pub none : phase_count (worker_counts seen worker) (phase_of private.stage) ≡ 0
  pub left : steps_left seen.shape private.stage ≤ max_row_steps seen.shape private.stage

-- A worker that is up begins a stay.
abbrev pub HasStartedStay : WorldView → ℕ → Type 0
HasStartedStay seen worker =
    (private : Private) → slice_get seen.privates worker ≡ Some (Some private) → WorkerStartsStay seen worker private

-- THE BOUND OF A STAY. While a stay lasts, the sum of the steps made in it and the bound of the steps left does not
-- grow. A step that leads to another phase begins a stay there. So a stay has at most the steps of the row with which
-- it began.
pub record StayBoundIsKept (old new : WorldView) (worker : ℕ) : Type 0 where
  pub lasts : (before after : Private) → slice_get old.privates worker ≡ Some (Some before)
      → slice_get new.privates worker ≡ Some (Some after)
      → phase_of after.stage ≡ phase_of before.stage
      → steps_made_and_left new.shape (worker_counts new worker) after.stage ≤ steps_made_and_left old.shape
      (worker_counts old worker) before.stage
  pub begins : (before after : Private) → slice_get old.privates worker ≡ Some (Some before)
      → slice_get new.privates worker ≡ Some (Some after)
      → phase_of after.stage ≢ phase_of before.stage → WorkerStartsStay new worker after

-- A worker that is up is at a place of a row of the step table, and its next action is the row's action there.
pub record WorldWorkerIsAtRow (seen : WorldView) (worker : ℕ) : Type 0 where
  pub private : Private
  pub found : slice_get seen.privates worker ≡ Some (Some private)
  pub row : WorkerIsAtRow seen.shape private

-- A worker has posted its job: the stay took all the steps of Post, three words and three for each operation.
pub record IsWholePost (seen : WorldView) (worker count : ℕ) : Type 0 where
  pub private : Private
  pub found : slice_get seen.privates worker ≡ Some (Some private)
  pub slate : Slate
  pub last : private.stage ≡ Posting slate
  pub steps : count ≡ 3 + 3 * slate.job.script.n

-- A worker that begins to withdraw its job has 4 + j steps left, where it holds j levels, fewer than all, of the lock
-- that it waits for.
pub record WorkerIsWithdrawing (seen : WorldView) (worker : ℕ) (private : Private) : Type 0 where
  pub lock : ℕ
  pub waits : (world_worker_words seen worker).slate_lock ≡ lock
  pub left : steps_left seen.shape private.stage ≡ 4 + held_levels_in seen.shape (world_memory seen) worker lock
  pub below : held_levels_in seen.shape (world_memory seen) worker lock < seen.shape.height

-- A worker has finished its section: the stay took all the steps of a section with this start, for the script of the
-- worker's slate and the cells of the mask.
pub record IsWholeSection (seen : WorldView) (worker count : ℕ) : Type 0 where
  pub private : Private
  pub found : slice_get seen.privates worker ≡ Some (Some private)
  pub visit : Visit
  pub mask : ℕ
  pub reply : ℕ
  pub last : private.stage ≡ Copying (StoreDone visit mask reply)
  pub steps : count ≡ section_steps seen.shape (slate_job (world_worker_words seen worker)).script mask visit.parity

-- The worker's last number was withdrawn: it has no entry, and the words hold no receipt.
pub record NumberIsWithdrawn (seen : WorldView) (worker number : ℕ) : Type 0 where
  pub last_number : number ≡ (world_worker_words seen worker).done
  pub no_entry : has_entry seen.history worker number ≡ false
  pub no_receipt : WordsHaveReceipt (world_worker_words seen worker) → ⊥

-- BOUNDED RE-ENTRY. Every own step of an owner's Recover is quiet except step h + 3, which re-enters.
pub record BoundedReentry (old new : WorldView) (worker lock : ℕ) (note : Note) : Type 0 where
  pub before : phase_count (worker_counts old worker) Recover < old.shape.height + 2
      → (note ≡ Quiet) × WorkerIsInPhase new worker Recover
  pub there : phase_count (worker_counts old worker) Recover ≡ old.shape.height + 2 → note ≡ Reentered lock
  pub within : phase_count (worker_counts old worker) Recover ≤ old.shape.height + 2

-- A worker climbs, and another worker holds the next node of its path from the other side.
pub record WorkerIsBlocked (seen : WorldView) (worker : ℕ) : Type 0 where
  pub private : Private
  pub found : slice_get seen.privates worker ≡ Some (Some private)
  pub ascent : Ascent
  pub climbs : private.stage ≡ Climbing ascent
  pub by : HeldByOther (lock_nodes (world_memory seen) ascent.lock) seen.shape.leaves seen.shape.height
      seen.shape.workers worker ascent.held
