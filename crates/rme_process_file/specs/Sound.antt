-- SOUND WORDS: the conditions on the words of every world, also between any two steps, that can be checked on words
-- only.
use Rattle.std.specs.Prelude.{◌≡◌, ℕ, ◌+◌, ◌%◌, ◌^◌, ◌<◌, ◌≤◌, true, false, List, None}
use Rattle.rme_words.specs.declared.shape.Shape.{Shape}
use Rattle.rme_words.specs.declared.address.Address.{Address}
use Rattle.rme_words.specs.declared.address.Address.TheVariants.{Turn, Mask}
use Rattle.rme_tree.specs.HeldTrees.{IsLocalTree, IsLocalNode}
use Rattle.rme_tree.specs.Nodes.{lock_nodes, held_levels_in, owner_in}
use Rattle.rme_script.specs.Cells.{mask_has_cell}
use Rattle.rme_program.specs.declared.note.Entry.{Entry}
use Rattle.rme_program.specs.Steps.{withdrawn_place}
use Rattle.rme_machine.specs.Views.{WorkerWords, worker_words, is_pending}
use Rattle.rme_machine.specs.Invariant.{Invariant}
use Rattle.rme_machine.specs.Histories.{place_of}
use Rattle.rme_machine.specs.AbstractState.{Privates, abstract_state}
use Rattle.rme_machine.specs.AbstractCells.{is_lock_settled}
use Rattle.rme_core_image_check.specs.Workers.{WorkerNumbersAreValid, HeldLockIsCurrent, HeldLocksAreCurrent, PendingJobIsValid, ReceiptIsBlank}
use Rattle.rme_process_file.specs.declared.damage.Damage.{Damage}
use Rattle.rme_process_file.specs.declared.damage.Damage.TheVariants as damage
use Rattle.rme_process_file.specs.FileContents.{is_owner_settled, sections_by}

-- The receipt words, which may be any while a job is pending: all 0 before the first job; otherwise those of a lock,
-- and without a reply if the number was withdrawn.
pub record HasSoundReceipt (shape : Shape) (own : WorkerWords) : Type 0 where
  pub blank : own.begun ≡ 0 → ReceiptIsBlank own
  pub lock : is_pending own ≡ false → 0 < own.begun → own.at < shape.locks
  pub withdrawn : is_pending own ≡ false → 0 < own.begun → own.place ≡ withdrawn_place → own.reply ≡ 0

-- The words of a worker, with the nodes that it holds: at most as many jobs are begun as the shape allows, and at most
-- one is not done; it holds only nodes of the lock that it is at; the slate of a pending job has a job of the shape;
-- its receipt. The slate may be any while no job is pending, since the next one is being written there.
pub record IsSoundWorker (shape : Shape) (own : WorkerWords) (held : ℕ → ℕ) : Type 0 where
  pub numbers : WorkerNumbersAreValid shape own
  pub stakes : HeldLocksAreCurrent shape own held
  pub pending : PendingJobIsValid shape own
  pub receipt : HasSoundReceipt shape own

-- The turn of a lock is below 2^32, and even if the lock has no owner.
pub record HasSoundTurn (shape : Shape) (memory : Address → ℕ) (lock : ℕ) : Type 0 where
  pub few : memory (Turn lock) < 2 ^ 32
  pub even : owner_in shape memory lock ≡ None → memory (Turn lock) % 2 ≡ 0

-- While the turn is odd, the mask has only cells of the lock. Before, it may be any.
abbrev pub HasSoundMask : Shape → (Address → ℕ) → ℕ → Type 0
HasSoundMask shape memory lock =
    memory (Turn lock) % 2 ≡ 1 → (cell : ℕ) → cell < 64 → mask_has_cell (memory (Mask lock)) cell ≡ true
    → cell < shape.cells

-- The words of a lock: each node is 0 or a side with a holder; its turn; its mask.
pub record IsSoundLock (shape : Shape) (memory : Address → ℕ) (lock : ℕ) : Type 0 where
  pub nodes : IsLocalTree (lock_nodes memory lock) shape.leaves shape.workers
  pub turn : HasSoundTurn shape memory lock
  pub mask : HasSoundMask shape memory lock

-- All these conditions, for all workers and locks.
pub record IsSound (shape : Shape) (memory : Address → ℕ) : Type 0 where
  pub workers : (worker : ℕ) → worker < shape.workers
      → IsSoundWorker shape (worker_words memory worker) (held_levels_in shape memory worker)
  pub locks : (lock : ℕ) → lock < shape.locks → IsSoundLock shape memory lock

-- A worker or a lock whose words violate a condition.
pub record PropertyFailsAt (count number : ℕ) (P : Type 0) : Type 0 where
  pub there : number < count
  pub not : P → ⊥

-- The meaning of a damage.
abbrev pub IsDamageOf : Shape → (Address → ℕ) → Damage → Type 0
IsDamageOf shape memory (damage.Begun worker) =
    PropertyFailsAt shape.workers worker ((worker_words memory worker).begun ≤ shape.jobs)
IsDamageOf shape memory (damage.Done worker) =
    PropertyFailsAt shape.workers worker (((worker_words memory worker).done ≤ (worker_words memory worker).begun)
    × ((worker_words memory worker).begun ≤ (worker_words memory worker).done + 1))
IsDamageOf shape memory (damage.Stake worker lock) =
    PropertyFailsAt shape.workers worker (lock < shape.locks
    → HeldLockIsCurrent (worker_words memory worker) (held_levels_in shape memory worker) lock)
IsDamageOf shape memory (damage.Slate worker) =
    PropertyFailsAt shape.workers worker (PendingJobIsValid shape (worker_words memory worker))
IsDamageOf shape memory (damage.Receipt worker) =
    PropertyFailsAt shape.workers worker (HasSoundReceipt shape (worker_words memory worker))
IsDamageOf shape memory (damage.Node lock node) =
    PropertyFailsAt shape.locks lock (1 ≤ node → node < shape.leaves
    → IsLocalNode (lock_nodes memory lock) shape.leaves shape.workers node)
IsDamageOf shape memory (damage.Turn lock) = PropertyFailsAt shape.locks lock (HasSoundTurn shape memory lock)
IsDamageOf shape memory (damage.Mask lock) = PropertyFailsAt shape.locks lock (HasSoundMask shape memory lock)

-- The words of every world are sound, for every state of its workers and between any two steps.
abbrev pub SoundLaw : Type 0
SoundLaw =
    (shape : Shape) (memory : Address → ℕ) (privates : Privates) (history : List Entry)
    → Invariant shape memory privates history → IsSound shape memory

-- In a world the cells are settled if and only if they are in its abstract state, and the number of finished sections
-- is that of the history's entries of the lock.
abbrev pub SettledLaw : Type 0
SettledLaw =
    (shape : Shape) (memory : Address → ℕ) (privates : Privates) (history : List Entry) (lock : ℕ)
    → Invariant shape memory privates history → lock < shape.locks
    → is_owner_settled (worker_words memory) (owner_in shape memory lock) ≡ is_lock_settled
    (abstract_state shape memory privates history) lock

abbrev pub SectionsLaw : Type 0
SectionsLaw =
    (shape : Shape) (memory : Address → ℕ) (privates : Privates) (history : List Entry) (lock : ℕ)
    → Invariant shape memory privates history → lock < shape.locks
    → sections_by (memory (Turn lock)) (is_owner_settled (worker_words memory) (owner_in shape memory lock)) ≡ place_of
    history lock
