-- The abstraction function: the state of the abstract machine for given words, private states and history.
use Rattle.std.specs.Prelude.{ℕ, ◌==◌, Bool, true, false, List, Option, Some, None, map, is_some}
use Rattle.std.specs.List.{range_with_len}
use Rattle.rme_words.specs.declared.shape.Shape.{Shape}
use Rattle.rme_words.specs.declared.address.Address.{Address}
use Rattle.rme_tree.specs.Paths.{first_number_passing}
use Rattle.rme_tree.specs.Nodes.{held_levels_in, owner_in}
use Rattle.rme_script.specs.declared.job.Job.{Job}
use Rattle.rme_program.specs.declared.note.Entry.{Entry}
use Rattle.rme_program.specs.declared.note.Note.{Note}
use Rattle.rme_program.specs.declared.note.Note.TheVariants.{Quiet, Asked, Blocked, Entered, Reentered, Finished, Left, Ready, Withdrew}
use Rattle.rme_program.specs.declared.private.Private.{Private}
use Rattle.rme_program.specs.declared.stage.Stage.{Stage}
use Rattle.rme_program.specs.declared.stage.Stage.TheVariants.{Posting, Logging, Copying, Leaving}
use Rattle.rme_machine.specs.declared.stance.JobStance.{JobStance}
use Rattle.rme_machine.specs.declared.stance.JobStance.TheVariants as stance
use Rattle.rme_machine.specs.declared.label.Act.{Act}
use Rattle.rme_machine.specs.declared.label.Act.TheVariants as act
use Rattle.rme_machine.specs.Machine.{MachineState, WorkerState}
use Rattle.rme_machine.specs.Views.{WorkerWords, worker_words, is_pending, slate_job, no_script}
use Rattle.rme_machine.specs.Histories.{last_entry_of_worker, withdrawn_numbers}

-- The private state of each worker that is up.
abbrev pub Privates : Type 0
Privates = ℕ → Option Private

-- The lock that a worker owns.
abbrev pub lock_owned_by_worker : Shape → (Address → ℕ) → ℕ → Option ℕ
lock_owned_by_worker shape memory worker =
    first_number_passing shape.locks (λ (lock : ℕ). held_levels_in shape memory worker lock == shape.height)

-- The job of a worker's last entry.
abbrev pub last_entry_job : Option Entry → Job
last_entry_job (Some e) = record { lock = e.receipt.lock; script = e.script }
last_entry_job None = record { lock = 0; script = no_script }

-- Whether a worker's private state is in Section or Exit.
abbrev pub is_in_section_or_exit : Option Private → Bool
is_in_section_or_exit None = false
is_in_section_or_exit (Some private) = inside private.stage
  where
    inside : Stage → Bool
    inside (Logging log) = true
    inside (Copying redo) = true
    inside (Leaving departure) = true
    inside stage = false

-- The stance of a worker that owns no lock and has no job pending.
abbrev pub stance_outside : Option Private → JobStance
stance_outside None = stance.Idle
stance_outside (Some private) = outside private.stage
  where
    outside : Stage → JobStance
    outside (Posting slate) = stance.Handed slate.job
    outside stage = stance.Idle

-- The stance, from the lock owned, whether a job is pending, its number, and the jobs of the slate and of the last
-- entry.
abbrev pub abstract_stance : Option ℕ → Bool → ℕ → Job → Job → Option Private → JobStance
abstract_stance (Some lock) true number slate last private = stance.Inside number slate
abstract_stance (Some lock) false number slate last private = stance.Finished number last
abstract_stance None true number slate last private = stance.Waiting number slate
abstract_stance None false number slate last private = stance_outside private

abbrev pub abstract_entered : Option ℕ → Option Private → Bool
abstract_entered (Some lock) private = is_in_section_or_exit private
abstract_entered None private = false

-- The abstract state of a worker, from the lock that it owns, its words, its private state, the job of its last entry,
-- and the numbers that it withdrew.
abbrev pub abstract_worker_by : Option ℕ → WorkerWords → Option Private → Job → List ℕ → WorkerState
abstract_worker_by owned own private last withdrawn = record {
  up = is_some private;
  entered = abstract_entered owned private;
  asked = own.begun;
  withdrawn = withdrawn;
  stance = abstract_stance owned (is_pending own) own.begun (slate_job own) last private;
}

abbrev pub abstract_worker : Shape → (Address → ℕ) → Privates → List Entry → ℕ → WorkerState
abstract_worker shape memory privates history worker =
    abstract_worker_by (lock_owned_by_worker shape memory worker) (worker_words memory worker) (privates worker)
    (last_entry_job (last_entry_of_worker history worker))
    (withdrawn_numbers history worker (worker_words memory worker).done)

abbrev pub abstract_state : Shape → (Address → ℕ) → Privates → List Entry → MachineState
abstract_state shape memory privates history = record {
  owners = map (λ (lock : ℕ). owner_in shape memory lock) (range_with_len 0 shape.locks);
  workers = map (λ (worker : ℕ). abstract_worker shape memory privates history worker) (range_with_len 0 shape.workers);
  history = history;
}

-- The machine step of a note.
abbrev pub act_of_note : Note → Act
act_of_note Quiet = act.Still
act_of_note (Asked k) = act.Ask k
act_of_note Blocked = act.Wait
act_of_note (Entered lock) = act.Take lock
act_of_note (Reentered lock) = act.Reenter lock
act_of_note (Finished receipt) = act.Finish receipt
act_of_note (Left lock) = act.Leave lock
act_of_note Ready = act.Still
act_of_note (Withdrew k) = act.Withdraw k
