-- Further laws: consequences of the invariant, and the effect of each step on entries and drafts. Each is the contract
-- of a function of the module `laws`, and none uses another: a reader can stop after the one wanted. In
-- order: the preconditions of `next` and `after`; owners and cells; the owner of a section, and its number of steps;
-- bounded re-entry; the entries and the draft of a worker; its place in the step table; held nodes; crash stability;
-- and the clauses of an image.
use Rattle.std.specs.Prelude.{suc, Bool, true, false, not, ◌≡◌, ◌≢◌, ℕ, ◌+◌, ◌<◌, ◌≤◌, ◌==◌, if◌then◌else◌, List, [], ◌∷◌, ◌++◌, slice_get, Option, Some, None}
use Rattle.rme_words.specs.declared.shape.Shape.{Shape}
use Rattle.rme_words.specs.declared.address.Address.{Address}
use Rattle.rme_words.specs.declared.address.Address.TheVariants.{Node}
use Rattle.rme_tree.specs.Paths.{node}
use Rattle.rme_tree.specs.Nodes.{lock_nodes, held_levels_in, owner_in}
use Rattle.rme_tree.specs.HeldTrees.{HeldByOther}
use Rattle.rme_script.specs.declared.job.Job.{Job}
use Rattle.rme_program.specs.declared.note.Entry.{Entry}
use Rattle.rme_program.specs.declared.private.Private.{Private}
use Rattle.rme_program.specs.declared.stage.Stage.{Stage}
use Rattle.rme_program.specs.declared.stage.Stage.TheVariants.{Resting, Recovering, Posting, Climbing, Logging, Copying, Leaving}
use Rattle.rme_program.specs.declared.stage.Departure.TheVariants.{LoadExitTurn, StoreExitTurn, Clear}
use Rattle.rme_program.specs.declared.stage.Ascent.{Ascent}
use Rattle.rme_program.specs.declared.kinds.Phase.TheVariants.{Recover}
use Rattle.rme_program.specs.declared.note.Note.{Note}
use Rattle.rme_program.specs.declared.note.Note.TheVariants.{Quiet, Reentered, Finished}
use Rattle.rme_program.specs.declared.note.Receipt.{Receipt}
use Rattle.rme_program.specs.declared.stage.Recovery.{Recovery}
use Rattle.rme_program.specs.declared.stage.Redo.TheVariants.{StoreDone}
use Rattle.rme_program.specs.declared.stage.Visit.{Visit}
use Rattle.rme_program.specs.Phases.{phase_of}
use Rattle.rme_program.specs.StepsMade.{steps_made_in_recovery, steps_made_in_redo, section_steps}
use Rattle.rme_machine.specs.declared.stance.JobStance.{JobStance}
use Rattle.rme_machine.specs.declared.stance.JobStance.TheVariants.{Idle, Waiting, Inside}
use Rattle.rme_machine.specs.declared.stance.JobStance.TheVariants as stance
use Rattle.rme_machine.specs.Histories.{history_of_worker}
use Rattle.rme_program.specs.ActionEffects.{ActionEffect}
use Rattle.rme_program.specs.Steps.{private_action, outcome_at}
use Rattle.rme_program.specs.Conditions.{IsPrivate}
use Rattle.rme_program.specs.Progress.{IsOnTrack}
use Rattle.rme_program.specs.Stays.{WorkerIsAtRow}
use Rattle.rme_machine.specs.declared.label.Act.{Act}
use Rattle.rme_machine.specs.declared.label.Act.TheVariants.{Hand}
use Rattle.rme_machine.specs.Machine.{MachineState, WorkerState, MachineStep}
use Rattle.rme_machine.specs.AbstractState.{Privates, abstract_state}
use Rattle.rme_machine.specs.AbstractCells.{TablesMatchState, is_lock_settled}
use Rattle.rme_machine.specs.Views.{worker_words, lock_words, is_pending, slate_job}
use Rattle.rme_machine.specs.Knowledge.{PrivateInvariant, log_lock, redo_lock}
use Rattle.rme_machine.specs.Invariant.{Invariant}
use Rattle.rme_machine.specs.Clauses.{IsValidMemory}
use Rattle.rme_machine.specs.Changes.{history_after}

-- The private state of a worker that is up is of the shape, and is its own: the preconditions of `next` and `after`.
abbrev pub PrivateOfShapeLaw : Type 0
PrivateOfShapeLaw =
    (shape : Shape) (memory : Address → ℕ) (privates : Privates) (history : List Entry) (worker : ℕ) (private : Private)
    → Invariant shape memory privates history → worker < shape.workers → privates worker ≡ Some private
    → (private.worker ≡ worker) × IsPrivate shape private

-- The owner table and the cells are those of the abstract state. A lock is settled if it has no owner, or its owner's
-- job is not pending.
pub record TablesLaw : Type 0 where
  pub tables : (shape : Shape) (memory : Address → ℕ) (privates : Privates) (history : List Entry)
      → Invariant shape memory privates history
      → TablesMatchState shape memory (abstract_state shape memory privates history)
  pub free : (shape : Shape) (memory : Address → ℕ) (privates : Privates) (history : List Entry) (lock : ℕ)
      → Invariant shape memory privates history → lock < shape.locks → owner_in shape memory lock ≡ None
      → is_lock_settled (abstract_state shape memory privates history) lock ≡ true
  pub owned : (shape : Shape) (memory : Address → ℕ) (privates : Privates) (history : List Entry) (lock worker : ℕ)
      → Invariant shape memory privates history → lock < shape.locks → owner_in shape memory lock ≡ Some worker
      → is_lock_settled (abstract_state shape memory privates history) lock ≡ not
      (is_pending (worker_words memory worker))

-- A worker in Section owns its lock, and so does a worker in Exit that still holds the root.
abbrev pub stage_owned_lock : Shape → Stage → Option ℕ
stage_owned_lock shape (Logging log) = Some (log_lock log)
stage_owned_lock shape (Copying redo) = Some (redo_lock redo)
stage_owned_lock shape (Leaving (LoadExitTurn lock)) = Some lock
stage_owned_lock shape (Leaving (StoreExitTurn lock turn)) = Some lock
stage_owned_lock shape (Leaving (Clear lock level)) = if level == shape.height then Some lock else None
stage_owned_lock shape _ = None

abbrev pub SectionOwnerLaw : Type 0
SectionOwnerLaw =
    (shape : Shape) (memory : Address → ℕ) (privates : Privates) (history : List Entry) (worker lock : ℕ)
    (private : Private)
    → Invariant shape memory privates history → worker < shape.workers → privates worker ≡ Some private
    → stage_owned_lock shape private.stage ≡ Some lock
    → (lock < shape.locks) × (owner_in shape memory lock ≡ Some worker)

-- A section that a worker finishes took all its steps: 11 + 3n + 4t from an even turn, where the mask's cells are those
-- that the script names, and 7 + 2m from an odd turn.
abbrev pub SectionStepsLaw : Type 0
SectionStepsLaw =
    (shape : Shape) (memory : Address → ℕ) (privates : Privates) (history : List Entry) (worker : ℕ) (private : Private)
    (visit : Visit) (mask reply : ℕ)
    → Invariant shape memory privates history → worker < shape.workers → privates worker ≡ Some private
    → private.stage ≡ Copying (StoreDone visit mask reply)
    → steps_made_in_redo shape (StoreDone visit mask reply) + 1 ≡ section_steps shape
    (slate_job (worker_words memory worker)).script mask visit.parity

-- A step of an owner's Recover: those before step h + 3 are quiet, and step h + 3 re-enters.
pub record BoundedReentryStep (shape : Shape) (lock : ℕ) (recovery : Recovery) (out : Stage × Note) : Type 0 where
  pub before : steps_made_in_recovery recovery < shape.height + 2 → (out.1 ≡ Quiet) × (phase_of out.0 ≡ Recover)
  pub there : steps_made_in_recovery recovery ≡ shape.height + 2 → out.1 ≡ Reentered lock
  pub most : steps_made_in_recovery recovery ≤ shape.height + 2

abbrev pub BoundedReentryLaw : Type 0
BoundedReentryLaw =
    (shape : Shape) (old new : Address → ℕ) (privates : Privates) (history : List Entry) (worker lock : ℕ)
    (private : Private) (recovery : Recovery) (found : ℕ)
    → Invariant shape old privates history → worker < shape.workers → privates worker ≡ Some private
    → private.stage ≡ Recovering recovery
    → lock < shape.locks → owner_in shape old lock ≡ Some worker
    → ActionEffect old new (private_action shape private) found
    → BoundedReentryStep shape lock recovery (outcome_at shape private.worker private.begun private.stage found)

-- A finished section appends its entry to those of its worker, and leaves those of the others; no other step changes
-- any.
pub record WorkerEntriesLaw : Type 0 where
  pub own : (history : List Entry) (memory : Address → ℕ) (worker : ℕ) (receipt : Receipt) → receipt.worker ≡ worker
      → history_of_worker (history_after history memory worker (Finished receipt)) worker
      ≡ history_of_worker history worker ++ record
      { receipt = receipt; script = (slate_job (worker_words memory worker)).script } ∷ []
  pub others : (history : List Entry) (memory : Address → ℕ) (worker other : ℕ) (receipt : Receipt)
      → receipt.worker ≡ worker → other ≢ worker
      → history_of_worker (history_after history memory worker (Finished receipt)) other ≡ history_of_worker history
      other
  pub else_same : (history : List Entry) (memory : Address → ℕ) (worker other : ℕ) (note : Note)
      → ((receipt : Receipt) → note ≢ Finished receipt)
      → history_of_worker (history_after history memory worker note) other ≡ history_of_worker history other

-- The job that a worker is busy with is the last one submitted to it: its draft.
abbrev pub StanceHasDraft : JobStance → Option Job → Type 0
StanceHasDraft Idle draft = Unit {0}
StanceHasDraft (stance.Handed job) draft = draft ≡ Some job
StanceHasDraft (Waiting number job) draft = draft ≡ Some job
StanceHasDraft (Inside number job) draft = draft ≡ Some job
StanceHasDraft (stance.Finished number job) draft = Unit {0}

abbrev pub draft_after : Act → Option Job → Option Job
draft_after (Hand number job) draft = Some job
draft_after _ draft = draft

abbrev pub StateHasDrafts : MachineState → (ℕ → Option Job) → Type 0
StateHasDrafts state drafts =
    (worker : ℕ) (me : WorkerState) → slice_get state.workers worker ≡ Some me
    → StanceHasDraft me.stance (drafts worker)

abbrev pub DraftLaw : Type 0
DraftLaw =
    (shape : Shape) (act : Act) (old : MachineState) (worker : ℕ) (new : MachineState) (drafts : ℕ → Option Job)
    → MachineStep shape act old worker new → StateHasDrafts old drafts
    → StateHasDrafts new (λ (other : ℕ). if other == worker then draft_after act (drafts worker) else drafts other)

-- Each worker that is up and not ready is at a place of a row of the step table, and is on track there.
abbrev pub RowLaw : Type 0
RowLaw =
    (shape : Shape) (memory : Address → ℕ) (privates : Privates) (history : List Entry) (worker : ℕ) (private : Private)
    → Invariant shape memory privates history → worker < shape.workers → privates worker ≡ Some private
    → IsOnTrack private.stage × (private.stage ≢ Resting → WorkerIsAtRow shape private)

-- If a climbing worker's node is not free, another worker holds it from the other side.
abbrev pub HeldNodeLaw : Type 0
HeldNodeLaw =
    (shape : Shape) (memory : Address → ℕ) (privates : Privates) (history : List Entry) (worker : ℕ) (private : Private)
    (ascent : Ascent)
    → Invariant shape memory privates history → worker < shape.workers → privates worker ≡ Some private
    → private.stage ≡ Climbing ascent
    → memory (Node ascent.lock (node shape.leaves worker (suc ascent.held))) ≢ 0
    → HeldByOther (lock_nodes memory ascent.lock) shape.leaves shape.height shape.workers worker ascent.held

-- Crash stability: an own step of another worker preserves the private invariant of what a crashed worker knew.
abbrev pub CrashedKnowledgeLaw : Type 0
CrashedKnowledgeLaw =
    (shape : Shape) (old new : Address → ℕ) (before : Privates) (history : List Entry) (worker : ℕ) (private : Private)
    (found fallen : ℕ) (stale : Private)
    → Invariant shape old before history → worker < shape.workers → before worker ≡ Some private
    → private.stage ≢ Resting
    → ActionEffect old new (private_action shape private) found
    → fallen < shape.workers → fallen ≢ worker → before fallen ≡ None
    → PrivateInvariant shape (worker_words old fallen) (held_levels_in shape old fallen) (lock_words shape old) fallen
    stale
    → PrivateInvariant shape (worker_words new fallen) (held_levels_in shape new fallen) (lock_words shape new) fallen
    stale

-- The phases Ready and Post.
abbrev pub is_ready_or_posting : Stage → Bool
is_ready_or_posting Resting = true
is_ready_or_posting (Recovering recovery) = false
is_ready_or_posting (Posting slate) = true
is_ready_or_posting (Climbing ascent) = false
is_ready_or_posting (Logging log) = false
is_ready_or_posting (Copying redo) = false
is_ready_or_posting (Leaving departure) = false

-- A worker that is ready, or still posts its job, holds no node of any lock.
abbrev pub ReadyHoldsNoNodeLaw : Type 0
ReadyHoldsNoNodeLaw =
    (shape : Shape) (memory : Address → ℕ) (privates : Privates) (history : List Entry) (worker lock : ℕ)
    (private : Private)
    → Invariant shape memory privates history → worker < shape.workers → lock < shape.locks
    → privates worker ≡ Some private
    → is_ready_or_posting private.stage ≡ true → held_levels_in shape memory worker lock ≡ 0

-- The invariant implies the clauses of an image from `nodes` to `entries` as they are written, and in a world whose
-- workers are all down the clauses imply the invariant.
pub record ClausesLaw : Type 0 where
  pub clauses : (shape : Shape) (memory : Address → ℕ) (privates : Privates) (history : List Entry)
      → Invariant shape memory privates history → IsValidMemory shape memory history
  pub fact : (shape : Shape) (memory : Address → ℕ) (privates : Privates) (history : List Entry)
      → IsValidMemory shape memory history → ((worker : ℕ) → worker < shape.workers → privates worker ≡ None)
      → Invariant shape memory privates history
