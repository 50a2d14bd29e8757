-- The abstract cells: the cells of a lock in a state of the abstract machine.
use Rattle.std.specs.Prelude.{◌≡◌, ℕ, ◌<◌, ◌⊎◌, Bool, true, false, List, length, slice_get, slice_index, Option, Some, None}
use Rattle.rme_words.specs.declared.shape.Shape.{Shape}
use Rattle.rme_words.specs.declared.address.Address.{Address}
use Rattle.rme_tree.specs.Nodes.{owner_in}
use Rattle.rme_script.specs.Eval.{eval_of}
use Rattle.rme_program.specs.declared.note.Entry.{Entry}
use Rattle.rme_machine.specs.declared.stance.JobStance.{JobStance}
use Rattle.rme_machine.specs.declared.stance.JobStance.TheVariants.{Inside}
use Rattle.rme_machine.specs.Machine.{MachineState, WorkerState}
use Rattle.rme_machine.specs.Histories.{lock_row}
use Rattle.rme_machine.specs.Views.{lock_words}

-- The owner of a lock, if there is the lock and it is not free.
abbrev pub owner_if_any : Option (Option ℕ) → Option ℕ
owner_if_any None = None
owner_if_any (Some owner) = owner

abbrev pub state_owner : MachineState → ℕ → Option ℕ
state_owner state lock = owner_if_any (slice_get state.owners lock)

-- The stance of a worker, and that of a lock's owner.
abbrev pub stance_if_any : Option WorkerState → Option JobStance
stance_if_any None = None
stance_if_any (Some worker) = Some worker.stance

abbrev pub stance_of_owner : MachineState → Option ℕ → Option JobStance
stance_of_owner state None = None
stance_of_owner state (Some worker) = stance_if_any (slice_get state.workers worker)

abbrev pub stance_of_lock_owner : MachineState → ℕ → Option JobStance
stance_of_lock_owner state lock = stance_of_owner state (state_owner state lock)

-- If the lock has an owner that is inside, each cell has its value in `lock_row` or its value after the owner's script
-- on that row. Otherwise the cells are `lock_row`.
abbrev pub CellsByStance : Shape → List Entry → ℕ → Option JobStance → List ℕ → Type 0
CellsByStance shape history lock (Some (Inside k job)) cells =
    (length cells ≡ shape.cells)
    × ((c : ℕ) → c < shape.cells
    → (slice_index cells c ≡ slice_index (lock_row shape history lock) c)
    ⊎ (slice_index cells c ≡ slice_index (eval_of job.script.ops (lock_row shape history lock)).row c))
CellsByStance shape history lock owner cells = cells ≡ lock_row shape history lock

abbrev pub AbstractCells : Shape → MachineState → ℕ → List ℕ → Type 0
AbstractCells shape state lock cells = CellsByStance shape state.history lock (stance_of_lock_owner state lock) cells

-- Settled: the lock has no owner that is inside.
abbrev pub is_settled_by_stance : Option JobStance → Bool
is_settled_by_stance (Some (Inside k job)) = false
is_settled_by_stance owner = true

abbrev pub is_lock_settled : MachineState → ℕ → Bool
is_lock_settled state lock = is_settled_by_stance (stance_of_lock_owner state lock)

-- The owner table and the cells of a memory are those of a state.
pub record TablesMatchState (shape : Shape) (memory : Address → ℕ) (state : MachineState) : Type 0 where
  pub owners : (lock : ℕ) → lock < shape.locks → owner_in shape memory lock ≡ state_owner state lock
  pub cells : (lock : ℕ) → lock < shape.locks → AbstractCells shape state lock (lock_words shape memory lock).cells
