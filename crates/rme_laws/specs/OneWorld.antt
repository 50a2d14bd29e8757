-- THE LAWS OF PROCESSES. A run of processes over one file is a run of one world, and nobody finds damage.
use Rattle.std.specs.Prelude.{◌≡◌, ◌≢◌, ℕ, ◌<◌, List, [], ◌∷◌, ◌++◌, Some, map, slice_get, take}
use Rattle.std.specs.List.{range_with_len}
use Rattle.rme_words.specs.declared.shape.Shape.{Shape}
use Rattle.rme_words.specs.declared.refusal.Refusal.{Refusal}
use Rattle.rme_words.specs.Words.{read_word_at}
use Rattle.rme_program.specs.declared.event.Event.{Event}
use Rattle.rme_program.specs.declared.event.Event.TheVariants.{Crash}
use Rattle.rme_program.specs.declared.event.Answer.{Answer}
use Rattle.rme_program.specs.declared.event.Answer.TheVariants.{Refused}
use Rattle.rme_world.specs.WorldViews.{WorldView}
use Rattle.rme_world.specs.EventLists.{EventListContract}
use Rattle.rme_world.specs.Opening.{world_at_opening}
use Rattle.rme_world.specs.Refinement.{IsRefinement}
use Rattle.rme_process_core.specs.declared.flat.Batch.{Batch}
use Rattle.rme_process_core.specs.Calls.{AfterState, AbiAfterCall}
use Rattle.rme_process_core.specs.Processes.{Process, private_if_running}
use Rattle.rme_process_file.specs.Sound.{IsSound}
use Rattle.rme_laws.specs.ProcessRuns.{FileState, IsNewFile, ProcessMove, ProcessRun, run_events}

-- The file and its processes are this world: the same words, and of each worker the private state to which the
-- operations of its process have led. A worker without a process is down.
pub record FileIsWorld (shape : Shape) (state : FileState) (world : WorldView) : Type 0 where
  pub shape_is : world.shape ≡ shape
  pub words_are : world.words ≡ state.words
  pub privates_are : (worker : ℕ) → worker < shape.workers
      → slice_get world.privates worker ≡ Some (private_if_running (state.processes worker))

-- None of the answers is a refusal.
abbrev pub AreAccepted : List Answer → Type 0
AreAccepted [] = Unit {0}
AreAccepted (answer ∷ answers) = ((refusal : Refusal) → answer ≢ Refused refusal) × AreAccepted answers

-- The events lead from one world to another, none of them refused.
pub record WorldRun (old : WorldView) (events : List Event) (new : WorldView) : Type 0 where
  pub answers : List Answer
  pub applies : EventListContract old events answers new
  pub accepted : AreAccepted answers
  pub refines : IsRefinement old events answers new

-- In a new file no worker has a process: all have crashed.
abbrev pub crash_of_all : Shape → List Event
crash_of_all shape = map (λ (worker : ℕ). Crash worker) (range_with_len 0 shape.workers)

-- ONE WORLD: after a run from a new file, the file and its processes are the world to which the events of the run lead
-- from the initial world. So whatever holds of every world holds of the file.
pub record RunIsOfOneWorld (shape : Shape) (moves : List ProcessMove) (new : FileState) : Type 0 where
  pub world : WorldView
  pub run : WorldRun (world_at_opening shape) (crash_of_all shape ++ run_events moves) world
  pub shows : FileIsWorld shape new world

abbrev pub OneWorldLaw : Type 0
OneWorldLaw =
    (shape : Shape) (old new : FileState) (moves : List ProcessMove) → IsNewFile shape old
    → ProcessRun shape old moves new → RunIsOfOneWorld shape moves new

-- NO DAMAGE: the call that is given the values that its process found never answers that one is damaged.
abbrev pub NoDamageLaw : Type 0
NoDamageLaw =
    (shape : Shape) (old new : FileState) (moves : List ProcessMove) (worker : ℕ) (process : Process)
    (before after : AfterState) (batch : Batch) (count result : ℕ)
    → IsNewFile shape old → ProcessRun shape old moves new
    → worker < shape.workers → new.processes worker ≡ Some process
    → before.worker ≡ process.worker → take count batch.values ≡ process.found
    → AbiAfterCall before batch count result after → result ≢ 100

-- SOUND WORDS: a look at the file (`first_damage` of rme_process_file) finds no damage in its words.
abbrev pub SoundRunLaw : Type 0
SoundRunLaw =
    (shape : Shape) (old new : FileState) (moves : List ProcessMove) → IsNewFile shape old
    → ProcessRun shape old moves new → IsSound shape (read_word_at shape new.words)
