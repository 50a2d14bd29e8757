-- THE THEOREMS OF THE ABSTRACT MACHINE: mutual exclusion, critical-section re-entry, each job counts once, and it
-- counts as the job that was submitted. They hold in every state that a run of the machine reaches.
use Rattle.std.specs.Prelude.{◌≡◌, ◌≢◌, ◌⊎◌, ℕ, ◌+◌, ◌<◌, ◌≤◌, ◌==◌, ◌&&◌, if◌then◌else◌, List, [], ◌∷◌, ◌++◌, Option, Some, None, slice_get}
use Rattle.rme_words.specs.declared.shape.Shape.{Shape}
use Rattle.rme_words.specs.declared.address.Address.{Address}
use Rattle.rme_script.specs.declared.job.Job.{Job}
use Rattle.rme_program.specs.declared.note.Entry.{Entry}
use Rattle.rme_machine.specs.declared.stance.JobStance.{JobStance}
use Rattle.rme_machine.specs.declared.stance.JobStance.TheVariants.{Idle, Handed, Waiting, Inside, Finished}
use Rattle.rme_machine.specs.declared.label.Act.{Act}
use Rattle.rme_machine.specs.declared.label.Act.TheVariants.{Hand, Take, Finish, Leave, Reenter}
use Rattle.rme_machine.specs.declared.label.Label.{Label}
use Rattle.rme_machine.specs.declared.label.Label.TheVariants.{Of}
use Rattle.rme_machine.specs.Histories.{HistoryIsLegal, entry_job, numbers_of_worker}
use Rattle.rme_machine.specs.Machine.{MachineState, WorkerState, IsInSectionOf, LabelStep, MachineRun, opening_state}
use Rattle.rme_machine.specs.AbstractState.{Privates, abstract_state}
use Rattle.rme_machine.specs.Invariant.{Invariant}

-- The start of a run: the initial state, or the abstract state of words, private states and a history with the
-- invariant.
abbrev pub IsStartState : Shape → MachineState → Type 0
IsStartState shape state =
    (state ≡ opening_state shape)
    ⊎ ((memory : Address → ℕ) × (privates : Privates) × (history : List Entry) × Invariant shape memory privates history
    × (state ≡ abstract_state shape memory privates history))

-- A state that a run reaches.
pub record IsReachable (shape : Shape) (state : MachineState) : Type 0 where
  pub start : MachineState
  pub begins : IsStartState shape start
  pub labels : List Label
  pub run : MachineRun shape start labels state

-- MUTUAL EXCLUSION. A worker that is inside a lock, or has finished there, is the lock's owner; the owner of a lock is
-- inside it, or has finished there. So at most one worker is in the section of a lock.
pub record MutualExclusion (state : MachineState) : Type 0 where
  pub inside : (lock worker : ℕ) (me : WorkerState) → slice_get state.workers worker ≡ Some me
      → IsInSectionOf me.stance lock
      → slice_get state.owners lock ≡ Some (Some worker)
  pub owner : (lock worker : ℕ) → slice_get state.owners lock ≡ Some (Some worker)
      → (me : WorkerState) × (slice_get state.workers worker ≡ Some me) × IsInSectionOf me.stance lock
  pub one : (lock worker other : ℕ) (me you : WorkerState) → slice_get state.workers worker ≡ Some me
      → slice_get state.workers other ≡ Some you
      → IsInSectionOf me.stance lock → IsInSectionOf you.stance lock → other ≡ worker

abbrev pub ExclusionLaw : Type 0
ExclusionLaw = (shape : Shape) (state : MachineState) → IsReachable shape state → MutualExclusion state

-- CRITICAL-SECTION RE-ENTRY

-- The acts by which a worker is in the section of a lock, re-enters it, or leaves it.
abbrev pub IsSectionAct : Act → ℕ → Type 0
IsSectionAct (Take here) lock = here ≡ lock
IsSectionAct (Reenter here) lock = here ≡ lock
IsSectionAct (Finish receipt) lock = receipt.lock ≡ lock
IsSectionAct (Leave here) lock = here ≡ lock
IsSectionAct _ lock = ⊥

-- None of these labels is the worker's leave of the lock.
abbrev pub HasNoLeave : ℕ → ℕ → List Label → Type 0
HasNoLeave worker lock [] = Unit {0}
HasNoLeave worker lock (label ∷ labels) = (label ≢ Of worker (Leave lock)) × HasNoLeave worker lock labels

-- No other worker acts in the lock's section.
abbrev pub OnlyWorkerAt : ℕ → ℕ → List Label → Type 0
OnlyWorkerAt worker lock [] = Unit {0}
OnlyWorkerAt worker lock (label ∷ labels) =
    ((other : ℕ) (act : Act) → label ≡ Of other act → IsSectionAct act lock → other ≡ worker)
    × OnlyWorkerAt worker lock labels

-- From a worker's take of a lock to its leave, no other worker takes, re-enters, finishes in or leaves that lock,
-- whatever crashes and restarts happen meanwhile: no worker enters before the crashed owner has re-entered. The same
-- holds from any state in which the worker owns the lock.
pub record ReentryLaw : Type 0 where
  pub taken : (shape : Shape) (before after later : MachineState) (worker lock : ℕ) (labels : List Label)
      → IsReachable shape before → LabelStep shape (Of worker (Take lock)) before after
      → MachineRun shape after labels later → HasNoLeave worker lock labels
      → OnlyWorkerAt worker lock labels × (slice_get later.owners lock ≡ Some (Some worker))
  pub owned : (shape : Shape) (before later : MachineState) (worker lock : ℕ) (labels : List Label)
      → IsReachable shape before → slice_get before.owners lock ≡ Some (Some worker)
      → MachineRun shape before labels later → HasNoLeave worker lock labels
      → OnlyWorkerAt worker lock labels × (slice_get later.owners lock ≡ Some (Some worker))

-- EACH JOB COUNTS ONCE

-- How often a number occurs in a list.
unfoldable pub occurrences : ℕ → List ℕ → ℕ
occurrences k [] = 0
occurrences k (n ∷ ns) = if n == k then 1 + occurrences k ns else occurrences k ns

-- Whether a worker waits or is inside under a number: 1 or 0.
abbrev pub stance_holds_number : JobStance → ℕ → ℕ
stance_holds_number (Waiting n job) k = if n == k then 1 else 0
stance_holds_number (Inside n job) k = if n == k then 1 else 0
stance_holds_number Idle k = 0
stance_holds_number (Handed job) k = 0
stance_holds_number (Finished n job) k = 0

-- The uses of a worker's number: its entries, its withdrawn numbers, and a stance that waits or is inside.
abbrev pub number_uses : List Entry → ℕ → WorkerState → ℕ → ℕ
number_uses history worker me k =
    occurrences k (numbers_of_worker history worker) + occurrences k me.withdrawn + stance_holds_number me.stance k

-- Each number from 1 to the last one asked for has one use, and no other number has any. A worker has at most one entry
-- of a number. The history is legal: each entry has the place and the reply that follow from the earlier ones.
pub record NumbersCountOnce (shape : Shape) (state : MachineState) : Type 0 where
  pub each : (worker : ℕ) (me : WorkerState) → slice_get state.workers worker ≡ Some me → (k : ℕ) → 1 ≤ k → k ≤ me.asked
      → number_uses state.history worker me k ≡ 1
  pub zero : (worker : ℕ) (me : WorkerState) → slice_get state.workers worker ≡ Some me
      → number_uses state.history worker me 0 ≡ 0
  pub beyond : (worker : ℕ) (me : WorkerState) → slice_get state.workers worker ≡ Some me → (k : ℕ) → me.asked < k
      → number_uses state.history worker me k ≡ 0
  pub pairs : (worker k : ℕ) → occurrences k (numbers_of_worker state.history worker) ≤ 1
  pub legal : HistoryIsLegal shape state.history

abbrev pub OnceLaw : Type 0
OnceLaw = (shape : Shape) (state : MachineState) → IsReachable shape state → NumbersCountOnce shape state

-- EACH JOB COUNTS AS ITSELF

-- The submitted jobs, by worker and number. A crash drops a job that was not yet asked for, and its number may be used
-- again: the last job under a number counts.
abbrev pub HandedJobs : Type 0
HandedJobs = ℕ → ℕ → Option Job

abbrev pub with_job_handed : Label → HandedJobs → HandedJobs
with_job_handed (Of worker (Hand number job)) handed who k =
    if (who == worker) && (k == number) then Some job else handed who k
with_job_handed _ handed who k = handed who k

abbrev pub jobs_handed_in : List Label → HandedJobs → HandedJobs
jobs_handed_in [] handed = handed
jobs_handed_in (label ∷ labels) handed = jobs_handed_in labels (with_job_handed label handed)

abbrev pub no_jobs_handed : HandedJobs
no_jobs_handed worker number = None

-- The jobs that were submitted before a state and are not finished in it, from each worker's stance.
abbrev pub stance_job : ℕ → JobStance → ℕ → Option Job
stance_job asked (Handed job) k = if k == asked + 1 then Some job else None
stance_job asked (Waiting number job) k = if k == number then Some job else None
stance_job asked (Inside number job) k = if k == number then Some job else None
stance_job asked Idle k = None
stance_job asked (Finished number job) k = None

abbrev pub worker_job : Option WorkerState → ℕ → Option Job
worker_job None k = None
worker_job (Some me) k = stance_job me.asked me.stance k

abbrev pub jobs_handed_before : MachineState → HandedJobs
jobs_handed_before state worker number = worker_job (slice_get state.workers worker) number

-- Each entry has the lock and the script of the job that was submitted to its worker under its number.
abbrev pub EntriesWereHanded : HandedJobs → List Entry → Type 0
EntriesWereHanded handed [] = Unit {0}
EntriesWereHanded handed (e ∷ es) =
    (handed e.receipt.worker e.receipt.number ≡ Some (entry_job e)) × EntriesWereHanded handed es

-- The entries that a run adds are those of jobs that were submitted in it, or before it and not finished at its start.
pub record RunIsFaithful (start : MachineState) (labels : List Label) (state : MachineState) : Type 0 where
  pub entries : List Entry
  pub longer : state.history ≡ start.history ++ entries
  pub handed : EntriesWereHanded (jobs_handed_in labels (jobs_handed_before start)) entries

-- In a run from the initial state, all entries are those of jobs that were submitted in it.
pub record FaithfulLaw : Type 0 where
  pub opened : (shape : Shape) (labels : List Label) (state : MachineState)
      → MachineRun shape (opening_state shape) labels state
      → EntriesWereHanded (jobs_handed_in labels no_jobs_handed) state.history
  pub begun : (shape : Shape) (start state : MachineState) (labels : List Label) → IsStartState shape start
      → MachineRun shape start labels state → RunIsFaithful start labels state
