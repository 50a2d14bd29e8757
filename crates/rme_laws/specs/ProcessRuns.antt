-- RUNS OF PROCESSES: the calls and the operations of all processes over one file, in the order in which they are made.
use Rattle.std.specs.Prelude.{◌≡◌, ◌≢◌, ℕ, ◌<◌, List, [], ◌∷◌, ◌++◌, Option, Some, None, replicate}
use Rattle.rme_words.specs.declared.shape.Shape.{Shape}
use Rattle.rme_words.specs.Words.{word_count}
use Rattle.rme_program.specs.declared.event.Event.{Event}
use Rattle.rme_program.specs.declared.event.Event.TheVariants.{Step}
use Rattle.rme_process_core.specs.Processes.{Process, ProcessCall, ProcessOperation}

-- The words of the file, and the process of each worker that has one.
pub record FileState : Type 0 where
  pub words : List ℕ
  pub processes : ℕ → Option Process

-- A new file: all words are 0, and no worker has a process.
pub record IsNewFile (shape : Shape) (state : FileState) : Type 0 where
  pub zeros : state.words ≡ replicate (word_count shape) 0
  pub nobody : (worker : ℕ) → state.processes worker ≡ None

-- What may happen to a worker: a call, or the begin or the end of its process; or an operation of its process.
pub data ProcessMove : Type 0 where
  Call : (worker : ℕ) (events : List Event) → ProcessMove
  Operate : (worker : ℕ) → ProcessMove

-- A call makes its events, and touches no word. So does a process that begins, or that ends, wherever it was.
pub record CallIsMade (shape : Shape) (worker : ℕ) (events : List Event) (old new : FileState) : Type 0 where
  pub within : worker < shape.workers
  pub call : ProcessCall shape worker (old.processes worker) events (new.processes worker)
  pub words : new.words ≡ old.words
  pub others : (other : ℕ) → other ≢ worker → new.processes other ≡ old.processes other

-- An operation takes the words as all earlier operations, whosoever, left them.
pub record OperationIsMade (shape : Shape) (worker : ℕ) (old new : FileState) : Type 0 where
  pub within : worker < shape.workers
  pub process : Process
  pub is : old.processes worker ≡ Some process
  pub next : Process
  pub becomes : new.processes worker ≡ Some next
  pub operation : ProcessOperation process old.words next new.words
  pub others : (other : ℕ) → other ≢ worker → new.processes other ≡ old.processes other

abbrev pub MoveIsMade : Shape → ProcessMove → FileState → FileState → Type 0
MoveIsMade shape (Call worker events) old new = CallIsMade shape worker events old new
MoveIsMade shape (Operate worker) old new = OperationIsMade shape worker old new

-- A run: moves of any processes, in any order.
abbrev pub ProcessRun : Shape → FileState → List ProcessMove → FileState → Type 0
ProcessRun shape old [] new = new ≡ old
ProcessRun shape old (move ∷ moves) new =
    (mid : FileState) × MoveIsMade shape move old mid × ProcessRun shape mid moves new

-- The events of the moves: an operation is an own step.
abbrev pub move_events : ProcessMove → List Event
move_events (Call worker events) = events
move_events (Operate worker) = Step worker ∷ []

abbrev pub run_events : List ProcessMove → List Event
run_events [] = []
run_events (move ∷ moves) = move_events move ++ run_events moves
