-- PROCESSES OVER ONE MEMORY. A process runs the step machine of one worker. Its calls touch no word. Between them it
-- makes the actions of its batch, each as one operation on one word. Calls and operations of other processes may come
-- between any two of its own.
use Rattle.std.specs.Prelude.{◌≡◌, ◌≢◌, ◌⊎◌, ℕ, ◌<◌, List, [], ◌∷◌, ◌++◌, Option, Some, None, IfSome, slice_index, slice_set}
use Rattle.rme_words.specs.declared.shape.Shape.{Shape}
use Rattle.rme_script.specs.Jobs.{IsJob}
use Rattle.rme_script.specs.Programs.{Program}
use Rattle.rme_script.specs.Slates.{script_from_words}
use Rattle.rme_program.specs.declared.event.Event.{Event}
use Rattle.rme_program.specs.declared.event.Event.TheVariants.{Submit, Crash, Restart, Withdraw}
use Rattle.rme_program.specs.declared.private.Private.{Private}
use Rattle.rme_program.specs.declared.stage.Ascent.{Ascent}
use Rattle.rme_program.specs.declared.stage.Stage.TheVariants.{Resting, Climbing}
use Rattle.rme_program.specs.Steps.{restarted_private, submitted_private, withdrawing_private}
use Rattle.rme_process_core.specs.declared.flat.FlatAction.{FlatAction}
use Rattle.rme_process_core.specs.declared.flat.Batch.{Batch}
use Rattle.rme_process_core.specs.declared.worker.CoreWorker.{CoreWorker}
use Rattle.rme_process_core.specs.Batches.{BatchContinues, IsLoadKind, Predicts, batch_actions}
use Rattle.rme_process_core.specs.Calls.{SubmittedSlate}
use Rattle.rme_process_core.specs.Folds.{private_after_values}
use Rattle.rme_process_core.specs.Workers.{HasNoBatch}

-- A process: its worker, the actions of its batch that are still to be made, and the values that the made ones found.
pub record Process : Type 0 where
  pub worker : CoreWorker
  pub left : List FlatAction
  pub found : List ℕ

-- A process with no batch outstanding, and one that has made no action of its batch.
abbrev pub idle_process : CoreWorker → Process
idle_process worker = record { worker = worker; left = []; found = [] }

abbrev pub process_with_batch : CoreWorker → List FlatAction → Process
process_with_batch worker actions = record { worker = worker; left = actions; found = [] }

-- The worker's private state after the operations that its process has made.
abbrev pub process_private : Process → Private
process_private process = private_after_values process.worker.shape process.worker.private process.found

-- A worker without a process is down.
abbrev pub private_if_running : Option Process → Option Private
private_if_running None = None
private_if_running (Some process) = Some (process_private process)

-- CALLS

-- An event of a worker that is no step of its own: the condition on its private state, and the new one.
abbrev pub PrivateEvent : Shape → ℕ → Event → Option Private → Option Private → Type 0
PrivateEvent shape worker (Submit who job) (Some old) new =
    (who ≡ worker) × (old.stage ≡ Resting) × (old.begun < shape.jobs) × IsJob shape job
    × (new ≡ Some (submitted_private old job))
PrivateEvent shape worker (Crash who) (Some old) new = (who ≡ worker) × (new ≡ None)
PrivateEvent shape worker (Restart who) None new = (who ≡ worker) × (new ≡ Some (restarted_private worker))
PrivateEvent shape worker (Withdraw who) (Some old) new =
    (who ≡ worker) × (ascent : Ascent) × (old.stage ≡ Climbing ascent) × (new ≡ Some (withdrawing_private old))
PrivateEvent shape worker event old new = ⊥

-- Such events, in order.
abbrev pub PrivateEvents : Shape → ℕ → List Event → Option Private → Option Private → Type 0
PrivateEvents shape worker [] old new = new ≡ old
PrivateEvents shape worker (event ∷ events) old new =
    (mid : Option Private) × PrivateEvent shape worker event old mid × PrivateEvents shape worker events mid new

-- A process of the shape that has made none of its actions, which are those of the worker's next own steps.
pub record IsFreshProcess (shape : Shape) (process : Process) : Type 0 where
  pub shape_is : process.worker.shape ≡ shape
  pub none_found : process.found ≡ []
  pub until : ℕ
  pub foretells : Predicts shape until process.worker.private process.left

-- A CALL for a worker, or the begin or the end of its process: these events of the worker, and no word is touched.
pub record ProcessCall (shape : Shape) (worker : ℕ) (old : Option Process) (events : List Event) (new : Option Process)
    : Type 0 where
  pub makes : PrivateEvents shape worker events (private_if_running old) (private_if_running new)
  pub fresh : IfSome new (IsFreshProcess shape)

-- The same for the worker of a handle, which has a process before the call and after it.
abbrev pub HandleCall : Process → List Event → Process → Type 0
HandleCall old events new =
    ProcessCall old.worker.shape old.worker.private.worker (Some old) events (Some new)

-- Each call that is accepted. A refused one changes nothing. A process is idle exactly if its worker has no batch.

-- NEXT: no event. An idle process has the batch, and has made none of its actions.
abbrev pub NextIsCall : CoreWorker → Batch → CoreWorker → Type 0
NextIsCall old batch new =
    HasNoBatch old × HandleCall (idle_process old) [] (process_with_batch new (batch_actions batch))

-- AFTER: no event. The worker knows what the operations of its process, with these values, have led it to.
abbrev pub AfterIsCall : CoreWorker → List ℕ → CoreWorker → Type 0
AfterIsCall old values new =
    HasNoBatch new
    × ((left : List FlatAction) → HandleCall record { worker = old; left = left; found = values } [] (idle_process new))

-- SUBMIT: the worker of an idle process is given the job of this lock with the script of these words.
abbrev pub SubmitIsCall : CoreWorker → SubmittedSlate → CoreWorker → Type 0
SubmitIsCall old slate new =
    HasNoBatch old × HasNoBatch new × (script : Program)
    × (script_from_words slate.operations slate.words ≡ Some script)
    × HandleCall (idle_process old)
    (Submit old.private.worker record { lock = slate.lock; script = script } ∷ []) (idle_process new)

-- WITHDRAW: the worker of an idle process begins to give up its job.
abbrev pub WithdrawIsCall : CoreWorker → CoreWorker → Type 0
WithdrawIsCall old new =
    HasNoBatch old × HasNoBatch new
    × HandleCall (idle_process old) (Withdraw old.private.worker ∷ []) (idle_process new)

-- RESTART: whatever the process has made of its batch, the worker crashes and restarts.
abbrev pub RestartIsCall : CoreWorker → CoreWorker → Type 0
RestartIsCall old new =
    HasNoBatch new
    × ((left : List FlatAction) (found : List ℕ)
    → HandleCall record { worker = old; left = left; found = found }
    (Crash old.private.worker ∷ Restart old.private.worker ∷ []) (idle_process new))

-- NEW: a worker that had no process has an idle one, and restarts.
abbrev pub NewIsCall : Shape → ℕ → CoreWorker → Type 0
NewIsCall shape worker new =
    HasNoBatch new × ProcessCall shape worker None (Restart worker ∷ []) (Some (idle_process new))

-- OPERATIONS

-- The effect of an action on the words: what a load or a swap finds, and what a store or a swap from 0 writes.
pub record FlatActionEffect (old : List ℕ) (action : FlatAction) (found : ℕ) (new : List ℕ) : Type 0 where
  pub loads : IsLoadKind action.kind → (found ≡ slice_index old action.word) × (new ≡ old)
  pub stores : action.kind ≡ 2 → new ≡ slice_set old action.word action.value
  pub swaps : action.kind ≡ 3
      → (found ≡ slice_index old action.word) × (found ≡ 0 → new ≡ slice_set old action.word action.value)
      × (found ≢ 0 → new ≡ old)

-- AN OPERATION of a process: it makes the next action of its batch, once, and notes the value found. It goes on with
-- the batch only while the batch continues.
pub record ProcessOperation (old : Process) (words : List ℕ) (new : Process) (written : List ℕ) : Type 0 where
  pub action : FlatAction
  pub rest : List FlatAction
  pub next : old.left ≡ action ∷ rest
  pub value : ℕ
  pub did : FlatActionEffect words action value written
  pub worker : new.worker ≡ old.worker
  pub noted : new.found ≡ old.found ++ value ∷ []
  pub goes_on : (BatchContinues action value × (new.left ≡ rest)) ⊎ (new.left ≡ [])
