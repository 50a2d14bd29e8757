-- THE SECTION THAT A WORKER IS TOLD, which is inside its lock: the number of the lock's finished sections, from one word.
use Rattle.std.specs.Prelude.{◌≡◌, ℕ, ◌/◌, ◌<◌, true, List, Some, length}
use Rattle.rme_words.specs.declared.address.Address.TheVariants.{Turn}
use Rattle.rme_words.specs.declared.shape.Shape.{Shape}
use Rattle.rme_words.specs.Words.{read_word_at}
use Rattle.rme_machine.specs.Histories.{history_of_lock}
use Rattle.rme_machine.specs.Views.{is_pending, worker_words}
use Rattle.rme_laws.specs.InsideRuns.{file_owner}
use Rattle.rme_laws.specs.OneWorld.{RunIsOfOneWorld}
use Rattle.rme_laws.specs.ProcessRuns.{FileState, IsNewFile, ProcessMove, ProcessRun}

-- A worker owns a lock, and its job is not finished: it is inside, or will be once it has recovered.
pub record IsInsideLock (shape : Shape) (state : FileState) (worker lock : ℕ) : Type 0 where
  pub within : lock < shape.locks
  pub owner : file_owner shape state lock ≡ Some worker
  pub pending : is_pending (worker_words (read_word_at shape state.words) worker) ≡ true

-- Half the lock's turn is the number of the lock's finished sections in the world of the run.
pub record TurnTellsSection (shape : Shape) (moves : List ProcessMove) (state : FileState) (lock : ℕ) : Type 0 where
  pub one : RunIsOfOneWorld shape moves state
  pub section : read_word_at shape state.words (Turn lock) / 2 ≡ length (history_of_lock one.world.history lock)

abbrev pub SectionLaw : Type 0
SectionLaw =
    (shape : Shape) (start state : FileState) (moves : List ProcessMove) (worker lock : ℕ)
    → IsNewFile shape start → ProcessRun shape start moves state → IsInsideLock shape state worker lock
    → TurnTellsSection shape moves state lock
