-- THE ABSTRACT MACHINE: its states, its steps, and its runs.
use Rattle.std.specs.Prelude.{◌≡◌, ℕ, ◌+◌, ◌<◌, Bool, true, false, List, [], ◌∷◌, ◌++◌, Option, Some, None, replicate, slice_get, slice_set}
use Rattle.rme_words.specs.declared.shape.Shape.{Shape}
use Rattle.rme_script.specs.declared.job.Job.{Job}
use Rattle.rme_script.specs.Eval.{eval_of}
use Rattle.rme_program.specs.declared.note.Entry.{Entry}
use Rattle.rme_script.specs.Jobs.{IsJob}
use Rattle.rme_machine.specs.declared.stance.JobStance.{JobStance}
use Rattle.rme_machine.specs.declared.stance.JobStance.TheVariants.{Idle, Handed, Waiting, Inside, Finished}
use Rattle.rme_machine.specs.declared.label.Act.{Act}
use Rattle.rme_machine.specs.declared.label.Act.TheVariants.{Hand, Ask, Take, Finish, Leave, Withdraw, Crash, Restart, Reenter, Still, Wait}
use Rattle.rme_machine.specs.declared.label.Label.{Label}
use Rattle.rme_machine.specs.declared.label.Label.TheVariants.{Nothing, Of}
use Rattle.rme_machine.specs.Histories.{place_of, lock_row}

-- The state of one worker: whether it is up, whether it has entered, the number under which it last asked, the numbers
-- that it withdrew, and its stance.
pub record WorkerState : Type 0 where
  pub up : Bool
  pub entered : Bool
  pub asked : ℕ
  pub withdrawn : List ℕ
  pub stance : JobStance

-- A state: the owner of each lock, the state of each worker, and the finished sections in order.
pub record MachineState : Type 0 where
  pub owners : List (Option ℕ)
  pub workers : List WorkerState
  pub history : List Entry

-- Initially all locks are free, all workers are up and idle, and the history is empty.
abbrev pub opening_worker : WorkerState
opening_worker = record { up = true; entered = false; asked = 0; withdrawn = []; stance = Idle }

abbrev pub opening_state : Shape → MachineState
opening_state shape =
    record { owners = replicate shape.locks None; workers = replicate shape.workers opening_worker; history = [] }

-- The state with one worker's state replaced, with another owner of a lock, and with one more entry.
abbrev pub with_worker : MachineState → ℕ → WorkerState → MachineState
with_worker old worker new = record old { workers = slice_set old.workers worker new }

abbrev pub with_owner : MachineState → ℕ → Option ℕ → MachineState
with_owner old lock owner = record old { owners = slice_set old.owners lock owner }

abbrev pub with_entry : MachineState → Entry → MachineState
with_entry old entry = record old { history = old.history ++ entry ∷ [] }

-- A crash drops a job that was submitted and has no number yet.
abbrev pub stance_after_crash : JobStance → JobStance
stance_after_crash Idle = Idle
stance_after_crash (Handed job) = Idle
stance_after_crash (Waiting k job) = Waiting k job
stance_after_crash (Inside k job) = Inside k job
stance_after_crash (Finished k job) = Finished k job

-- The worker is inside the section of this lock, or has finished it.
abbrev pub IsInSectionOf : JobStance → ℕ → Type 0
IsInSectionOf Idle lock = ⊥
IsInSectionOf (Handed job) lock = ⊥
IsInSectionOf (Waiting k job) lock = ⊥
IsInSectionOf (Inside k job) lock = job.lock ≡ lock
IsInSectionOf (Finished k job) lock = job.lock ≡ lock

-- The machine's steps: the precondition on the worker's state `me` and the old state, and the new state.
abbrev pub ActEffect : Shape → Act → MachineState → ℕ → WorkerState → MachineState → Type 0
ActEffect shape (Hand k job) old w me new =
    (me.up ≡ true) × (me.stance ≡ Idle) × IsJob shape job × (k ≡ me.asked + 1) × (me.asked < shape.jobs)
    × (new ≡ with_worker old w record me { up = true; stance = Handed job })
ActEffect shape (Ask k) old w me new =
    (job : Job) × (me.up ≡ true) × (me.stance ≡ Handed job) × (k ≡ me.asked + 1)
    × (new ≡ with_worker old w record me { up = true; asked = k; stance = Waiting k job })
ActEffect shape (Take lock) old w me new =
    (k : ℕ) × (job : Job) × (me.up ≡ true) × (me.stance ≡ Waiting k job) × (job.lock ≡ lock)
    × (slice_get old.owners lock ≡ Some None)
    × (new ≡ with_owner (with_worker old w record me { up = true; entered = true; stance = Inside k job }) lock
    (Some w))
ActEffect shape (Finish receipt) old w me new =
    (k : ℕ) × (job : Job) × (me.up ≡ true) × (me.entered ≡ true) × (me.stance ≡ Inside k job)
    × (receipt ≡ record {
      worker = w;
      lock = job.lock;
      number = k;
      place = place_of old.history job.lock;
      reply =
          (eval_of job.script.ops (lock_row shape old.history job.lock)).reply;
    })
    × (new ≡ with_entry (with_worker old w record me { up = true; entered = true; stance = Finished k job }) record
    { receipt = receipt; script = job.script })
ActEffect shape (Leave lock) old w me new =
    (k : ℕ) × (job : Job) × (me.up ≡ true) × (me.entered ≡ true) × (me.stance ≡ Finished k job) × (job.lock ≡ lock)
    × (new ≡ with_owner (with_worker old w record me { up = true; entered = false; stance = Idle }) lock None)
ActEffect shape (Withdraw k) old w me new =
    (job : Job) × (me.up ≡ true) × (me.stance ≡ Waiting k job)
    × (new ≡ with_worker old w record me { up = true; withdrawn = me.withdrawn ++ k ∷ []; stance = Idle })
ActEffect shape Crash old w me new =
    (me.up ≡ true)
    × (new ≡ with_worker old w record me { up = false; entered = false; stance = stance_after_crash me.stance })
ActEffect shape Restart old w me new =
    (me.up ≡ false)
    × (new ≡ with_worker old w record me { up = true })
ActEffect shape (Reenter lock) old w me new =
    (me.up ≡ true) × (me.entered ≡ false) × IsInSectionOf me.stance lock
    × (new ≡ with_worker old w record me { up = true; entered = true })
ActEffect shape Still old w me new = (me.up ≡ true) × (new ≡ old)
ActEffect shape Wait old w me new = (k : ℕ) × (job : Job) × (me.up ≡ true) × (me.stance ≡ Waiting k job) × (new ≡ old)

-- The worker of a step exists.
pub record MachineStep (shape : Shape) (act : Act) (old : MachineState) (worker : ℕ) (new : MachineState) : Type 0 where
  pub me : WorkerState
  pub is_me : slice_get old.workers worker ≡ Some me
  pub goes : ActEffect shape act old worker me new

abbrev pub LabelStep : Shape → Label → MachineState → MachineState → Type 0
LabelStep shape Nothing old new = new ≡ old
LabelStep shape (Of worker act) old new = MachineStep shape act old worker new

-- A run: each state leads to the next by the step with that label.
abbrev pub MachineRun : Shape → MachineState → List Label → MachineState → Type 0
MachineRun shape old [] new = new ≡ old
MachineRun shape old (label ∷ labels) new =
    (mid : MachineState) × LabelStep shape label old mid × MachineRun shape mid labels new
