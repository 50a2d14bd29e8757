-- BEING INSIDE A LOCK. What the owner of a lock may do, and what may happen to it, while no other worker comes in.
use Rattle.std.specs.Prelude.{◌≡◌, ℕ, ◌<◌, List, [], ◌∷◌, Option, Some}
use Rattle.rme_words.specs.declared.shape.Shape.{Shape}
use Rattle.rme_words.specs.Words.{read_word_at}
use Rattle.rme_tree.specs.Nodes.{owner_in}
use Rattle.rme_program.specs.declared.kinds.Phase.TheVariants.{Recover}
use Rattle.rme_program.specs.Phases.{phase_of}
use Rattle.rme_process_core.specs.Processes.{Process, process_private}
use Rattle.rme_laws.specs.ProcessRuns.{Call, FileState, IsNewFile, MoveIsMade, Operate, ProcessMove, ProcessRun}

-- The owner of a lock, by the words of the file.
abbrev pub file_owner : Shape → FileState → ℕ → Option ℕ
file_owner shape state lock = owner_in shape (read_word_at shape state.words) lock

-- If the move is an operation of this worker's process, it is a step of Recover. All other moves are free.
abbrev pub MoveOnlyRecovers : ℕ → ProcessMove → FileState → Type 0
MoveOnlyRecovers worker (Call who events) old = Unit {0}
MoveOnlyRecovers worker (Operate who) old =
    who ≡ worker → (process : Process) → old.processes who ≡ Some process
    → phase_of (process_private process).stage ≡ Recover

-- A run in which the worker's process makes no operations but those of a recovery. It may do work of its own, and it
-- may die and begin any number of times.
abbrev pub InsideRun : Shape → ℕ → FileState → List ProcessMove → FileState → Type 0
InsideRun shape worker old [] new = new ≡ old
InsideRun shape worker old (move ∷ moves) new =
    (mid : FileState) × MoveIsMade shape move old mid × MoveOnlyRecovers worker move old
    × InsideRun shape worker mid moves new

-- THE OWNER STAYS: after such a run the worker owns its lock still. A run has one owner at each of its moments, since
-- what came before that moment is such a run too.
abbrev pub OwnerStaysLaw : Type 0
OwnerStaysLaw =
    (shape : Shape) (start old new : FileState) (before moves : List ProcessMove) (worker lock : ℕ)
    → IsNewFile shape start → ProcessRun shape start before old → lock < shape.locks
    → file_owner shape old lock ≡ Some worker → InsideRun shape worker old moves new
    → file_owner shape new lock ≡ Some worker
