-- The view of a world in contracts.
use Rattle.std.specs.Prelude.{ℕ, List, Option, Some, None, slice_get, unwrap_or}
use Rattle.rme_words.specs.declared.shape.Shape.{Shape}
use Rattle.rme_words.specs.declared.address.Address.{Address}
use Rattle.rme_words.specs.Words.{read_word_at}
use Rattle.rme_program.specs.declared.private.Private.{Private}
use Rattle.rme_program.specs.declared.note.Entry.{Entry}
use Rattle.rme_machine.specs.Machine.{MachineState}
use Rattle.rme_machine.specs.AbstractState.{Privates, abstract_state}
use Rattle.rme_world.specs.declared.counts.Counts.{Counts}
use Rattle.rme_world.specs.Counting.{no_counts}

-- A world: its words, the private state of each worker that is up, the history of finished sections, the counts of own
-- steps, and the number of entries that can be appended to the history without memory.
pub record WorldView : Type 0 where
  pub shape : Shape
  pub words : List ℕ
  pub privates : List (Option Private)
  pub history : List Entry
  pub counts : List Counts
  pub room : ℕ

-- The words, as a function of the address.
abbrev pub world_memory : WorldView → Address → ℕ
world_memory seen = read_word_at seen.shape seen.words

-- The private states, as a function of the worker.
abbrev pub private_if_up : Option (Option Private) → Option Private
private_if_up None = None
private_if_up (Some private) = private

abbrev pub world_privates : WorldView → Privates
world_privates seen = λ (worker : ℕ). private_if_up (slice_get seen.privates worker)

-- A worker's counts.
abbrev pub worker_counts : WorldView → ℕ → Counts
worker_counts seen worker = unwrap_or (slice_get seen.counts worker) no_counts

-- The abstract state of a world: the state of the abstract machine that it stands for.
abbrev pub world_abstract_state : WorldView → MachineState
world_abstract_state seen = abstract_state seen.shape (world_memory seen) (world_privates seen) seen.history
