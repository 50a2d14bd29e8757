-- THE CONTRACT OF EACH CALL OF A WORLD: one record for each call. Whatever speaks of a call cites its record.
use Rattle.std.specs.Prelude.{◌≡◌, ◌≢◌, ◌↔◌, ℕ, ◌+◌, ◌<◌, ◌≤◌, List, Bool, IsTrue, IsOk, IsSome, IfOk, IfErr, IfSome, OnOk, OnErr, Option, Some, Result, length, slice_get}
use Rattle.rme_words.specs.declared.refusal.Refusal.{Refusal}
use Rattle.rme_words.specs.declared.refusal.Refusal.TheVariants.{NoLock, NoWorker}
use Rattle.rme_tree.specs.Nodes.{owner_in}
use Rattle.rme_script.specs.declared.job.Job.{Job}
use Rattle.rme_program.specs.declared.event.Event.TheVariants as event
use Rattle.rme_program.specs.declared.event.Answer.TheVariants as answer
use Rattle.rme_program.specs.declared.kinds.Phase.{Phase}
use Rattle.rme_program.specs.declared.kinds.Phase.TheVariants.{Recover, Post, Section}
use Rattle.rme_program.specs.declared.note.Note.{Note}
use Rattle.rme_program.specs.declared.note.Note.TheVariants.{Blocked, Asked, Reentered, Finished, Withdrew}
use Rattle.rme_program.specs.declared.note.Receipt.{Receipt}
use Rattle.rme_program.specs.declared.private.Private.{Private}
use Rattle.rme_program.specs.Phases.{phase_of}
use Rattle.rme_machine.specs.AbstractCells.{AbstractCells, state_owner, is_lock_settled}
use Rattle.rme_machine.specs.Histories.{history_of_lock}
use Rattle.rme_machine.specs.Views.{lock_words}
use Rattle.rme_world.specs.Counting.{IsStayCount, phase_count, max_phase_steps}
use Rattle.rme_world.specs.WorldViews.{WorldView, worker_counts, world_memory, world_abstract_state}
use Rattle.rme_world.specs.WorldInvariants.{total_entries_due}
use Rattle.rme_world.specs.Refusals.{RefusalIsGiven, submit_refusal, step_refusal, crash_refusal, restart_refusal, withdraw_refusal}
use Rattle.rme_world.specs.Events.{SubmitChange, StepChange, CrashChange, RestartChange, WithdrawChange}
use Rattle.rme_world.specs.Queries.{BoundedReentry, MakesProgress, HasStartedStay, WordsHaveReceipt, WorkerHoldsNoNode, NumberIsWithdrawn, WorkerIsWithdrawing, WorkerIsInPhase, IsLastReceipt, WorkerIsReady, WorkerIsBlocked, IsWholePost, IsWholeSection, StayBoundIsKept, WorkerOwnsItsLock, WorldWorkerIsAtRow, world_worker_words}
use Rattle.rme_world.specs.Refinement.{IsEventRefinement, answer_of_call}

-- `submit`. Afterwards there is room for each entry that is due.
pub record SubmitContract (old : WorldView) (worker : ℕ) (job : Job) (result : Result ℕ Refusal) (new : WorldView) :
    Type 0 where
  pub accepted : IfOk result (λ number. SubmitChange old worker job number new)
  pub refused : IfErr result (λ refusal. RefusalIsGiven (submit_refusal old worker job) refusal)
  pub unchanged : OnErr result (new ≡ old)
  pub headline : IsEventRefinement old (event.Submit worker job) (answer_of_call answer.Handed result) new
  pub room : total_entries_due (world_abstract_state new).workers ≤ new.room
  pub begins : OnOk result (HasStartedStay new worker)

-- `step`.
pub record StepContract (old : WorldView) (worker : ℕ) (result : Result Note Refusal) (new : WorldView) : Type 0 where
  pub accepted : IfOk result (λ note. StepChange old worker note new)
  pub refused : IfErr result (λ refusal. step_refusal old worker ≡ Some refusal)
  pub unchanged : OnErr result (new ≡ old)
  pub headline : IsEventRefinement old (event.Step worker) (answer_of_call answer.Stepped result) new
  -- the step table
  pub row : OnOk result (WorldWorkerIsAtRow old worker)
  -- progress, and the bound of a stay
  pub blocked : IfOk result (λ note. note ≡ Blocked → WorkerIsBlocked old worker)
  pub comes_on : IfOk result (λ note. note ≢ Blocked → MakesProgress old new worker)
  pub bound : OnOk result (StayBoundIsKept old new worker)
  pub posted : IfOk result (λ note. (number : ℕ) → note ≡ Asked number
      → IsWholePost old worker (phase_count (worker_counts new worker) Post))
  pub section : IfOk result (λ note. (receipt : Receipt) → note ≡ Finished receipt
      → IsWholeSection old worker (phase_count (worker_counts new worker) Section))
  -- bounded re-entry
  pub reentry : IfOk result (λ note. (lock : ℕ) → note ≡ Reentered lock
      → phase_count (worker_counts new worker) Recover ≡ old.shape.height + 3)
  pub comes_back : IfOk result (λ note. (lock : ℕ) → lock < old.shape.locks
      → owner_in old.shape (world_memory old) lock ≡ Some worker → WorkerIsInPhase old worker Recover
      → BoundedReentry old new worker lock note)
  -- mutual exclusion: a worker that is in its section after the step owns its lock
  pub owns : OnOk result (WorkerIsInPhase new worker Section → WorkerOwnsItsLock new worker)
  -- withdrawal
  pub withdrew : IfOk result (λ note. (number : ℕ) → note ≡ Withdrew number → NumberIsWithdrawn new worker number)

-- `crash`.
pub record CrashContract (old : WorldView) (worker : ℕ) (result : Result (Unit {0}) Refusal) (new : WorldView) : Type 0
  where
    pub accepted : IfOk result (λ _. CrashChange old worker new)
    pub refused : IfErr result (λ refusal. crash_refusal old worker ≡ Some refusal)
    pub unchanged : OnErr result (new ≡ old)
    pub headline : IsEventRefinement old (event.Crash worker) (answer_of_call (λ _. answer.Crashed) result) new

-- `restart`.
pub record RestartContract (old : WorldView) (worker : ℕ) (result : Result (Unit {0}) Refusal) (new : WorldView) : Type
    0 where
  pub accepted : IfOk result (λ _. RestartChange old worker new)
  pub refused : IfErr result (λ refusal. restart_refusal old worker ≡ Some refusal)
  pub unchanged : OnErr result (new ≡ old)
  pub headline : IsEventRefinement old (event.Restart worker) (answer_of_call (λ _. answer.Restarted) result) new
  pub begins : OnOk result (HasStartedStay new worker)

-- `withdraw`. At most h + 3 steps are left.
pub record WithdrawContract (old : WorldView) (worker : ℕ) (result : Result (Unit {0}) Refusal) (new : WorldView) : Type
    0 where
  pub accepted : IfOk result (λ _. WithdrawChange old worker new)
  pub refused : IfErr result (λ refusal. withdraw_refusal old worker ≡ Some refusal)
  pub unchanged : OnErr result (new ≡ old)
  pub headline : IsEventRefinement old (event.Withdraw worker) (answer_of_call (λ _. answer.Withdrawing) result) new
  pub begins : OnOk result (HasStartedStay new worker)
  pub bound : OnOk result ((private : Private) → slice_get new.privates worker ≡ Some (Some private)
      → WorkerIsWithdrawing new worker private)

-- `owner`, from the words and equally from the abstract state.
pub record OwnerContract (seen : WorldView) (lock : ℕ) (result : Result (Option ℕ) Refusal) : Type 0 where
  pub accepted : IsOk result ↔ (lock < seen.shape.locks)
  pub owner : IfOk result (λ owner. owner ≡ owner_in seen.shape (world_memory seen) lock)
  pub shown : IfOk result (λ owner. owner ≡ state_owner (world_abstract_state seen) lock)
  pub refused : IfErr result (λ refusal. refusal ≡ NoLock)

-- `cells`, from the words and equally from the abstract state, and whether they are settled.
pub record CellsContract (seen : WorldView) (lock : ℕ) (result : Result (List ℕ × Bool) Refusal) : Type 0 where
  pub accepted : IsOk result ↔ (lock < seen.shape.locks)
  pub cells : IfOk result (λ shows. shows.0 ≡ (lock_words seen.shape (world_memory seen) lock).cells)
  pub shown : IfOk result (λ shows. AbstractCells seen.shape (world_abstract_state seen) lock shows.0)
  pub settled : IfOk result (λ shows. shows.1 ≡ is_lock_settled (world_abstract_state seen) lock)
  pub refused : IfErr result (λ refusal. refusal ≡ NoLock)

-- `finished`: the number of the lock's entries in the history.
pub record FinishedContract (seen : WorldView) (lock : ℕ) (result : Result ℕ Refusal) : Type 0 where
  pub accepted : IsOk result ↔ (lock < seen.shape.locks)
  pub finished : IfOk result (λ n. n ≡ length (history_of_lock seen.history lock))
  pub refused : IfErr result (λ refusal. refusal ≡ NoLock)

-- `ready`.
pub record ReadyContract (seen : WorldView) (worker : ℕ) (result : Result Bool Refusal) : Type 0 where
  pub accepted : IsOk result ↔ (worker < seen.shape.workers)
  pub ready : IfOk result (λ is. IsTrue is ↔ WorkerIsReady seen worker)
  pub holds_none : IfOk result (λ is. IsTrue is → WorkerHoldsNoNode seen worker)
  pub refused : IfErr result (λ refusal. refusal ≡ NoWorker)

-- `last`.
pub record LastContract (seen : WorldView) (worker : ℕ) (result : Result (Option Receipt) Refusal) : Type 0 where
  pub accepted : IsOk result ↔ (worker < seen.shape.workers)
  pub some : IfOk result (λ last. IsSome last ↔ WordsHaveReceipt (world_worker_words seen worker))
  pub receipt : IfOk result (λ last. IfSome last (λ receipt. IsLastReceipt seen worker receipt))
  pub refused : IfErr result (λ refusal. refusal ≡ NoWorker)

-- `steps`: the count, which is at most the limit of its phase. For the phase that the worker is in, the count and the
-- steps left together are at most the limit of that stay.
pub record StepsContract (seen : WorldView) (worker : ℕ) (phase : Phase) (result : Result ℕ Refusal) : Type 0 where
  pub accepted : IsOk result ↔ (worker < seen.shape.workers)
  pub steps : IfOk result (λ n. n ≡ phase_count (worker_counts seen worker) phase)
  pub most : IfOk result (λ n. n ≤ max_phase_steps seen.shape phase)
  pub stay : IfOk result (λ n. (private : Private) → slice_get seen.privates worker ≡ Some (Some private)
      → phase_of private.stage ≡ phase
      → IsStayCount seen.shape private.stage n)
  pub refused : IfErr result (λ refusal. refusal ≡ NoWorker)
