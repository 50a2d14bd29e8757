-- SAVED WORLDS: which images are valid, the world of an image, and the state that a saved world is restored to.
use Rattle.std.specs.Prelude.{◌≡◌, ◌⊎◌, ℕ, ◌≤◌, List, false, map, replicate, if◌then◌else◌, None, Result, IfOk, IfErr}
use Rattle.std.specs.List.{range_with_len}
use Rattle.rme_words.specs.declared.refusal.Refusal.{Refusal}
use Rattle.rme_words.specs.declared.refusal.Refusal.TheVariants.{BadImage, NoMemory}
use Rattle.rme_words.specs.declared.shape.Shape.{Shape}
use Rattle.rme_words.specs.Words.{read_word_at}
use Rattle.rme_program.specs.declared.note.Entry.{Entry}
use Rattle.rme_core_image.specs.Images.{IsImageVersion, BytesEncodeImage, image_of}
use Rattle.rme_machine.specs.Clauses.{IsValidMemory}
use Rattle.rme_machine.specs.Machine.{MachineState, WorkerState, stance_after_crash}
use Rattle.rme_world.specs.Counting.{no_counts}
use Rattle.rme_world.specs.WorldViews.{WorldView, world_abstract_state}
use Rattle.rme_world.specs.WorldInvariants.{total_entries_due}

-- The bytes are a valid image of these words and entries, in one of the versions: they encode them, and all clauses of
-- valid images hold, from the one on nodes to the one on entries.
abbrev pub IsValidImage : List ℕ → Shape → List ℕ → List Entry → Type 0
IsValidImage bytes shape words entries =
    (version : ℕ) × IsImageVersion version shape × BytesEncodeImage version bytes shape words entries
    × IsValidMemory shape (read_word_at shape words) entries

-- The world of an image, with room for `room` entries: all workers are down, and all counts are 0.
abbrev pub restored_world : Shape → List ℕ → List Entry → ℕ → WorldView
restored_world shape words history room = record {
  shape = shape;
  words = words;
  privates = map (λ (worker : ℕ). None) (range_with_len 0 shape.workers);
  history = history;
  counts = replicate shape.workers no_counts;
  room = room;
}

-- `load`: exactly the valid images are accepted, unless memory is refused.
pub record LoadContract (bytes : List ℕ) (result : Result WorldView Refusal) : Type 0 where
  pub found : IfOk result (λ world. IsValidImage bytes world.shape world.words world.history)
  pub restored : IfOk result (λ world. world ≡ restored_world world.shape world.words world.history world.room)
  pub room : IfOk result (λ world. total_entries_due (world_abstract_state world).workers ≤ world.room)
  pub only : (shape : Shape) (words : List ℕ) (history : List Entry) → IsValidImage bytes shape words history
      → IfOk result (λ world. world ≡ restored_world shape words history world.room)
  pub accepted : (shape : Shape) (words : List ℕ) (history : List Entry) → IsValidImage bytes shape words history
      → IfErr result (λ refusal. refusal ≡ NoMemory)
  pub refused : IfErr result (λ refusal. (refusal ≡ BadImage) ⊎ (refusal ≡ NoMemory))

-- The state of one worker after a crash, if it was up; then of all workers.
abbrev pub crashed_worker : WorkerState → WorkerState
crashed_worker worker =
    if worker.up then record {
      up = false;
      entered = false;
      asked = worker.asked;
      withdrawn = worker.withdrawn;
      stance =
          stance_after_crash worker.stance;
    } else worker

abbrev pub all_crashed : MachineState → MachineState
all_crashed state =
    record { owners = state.owners; workers = map crashed_worker state.workers; history = state.history }

-- `save`: the bytes are the image of the world. THE ROUND TRIP: if `load` accepts them, the abstract state of its world
-- is that of the saved world after a crash of every worker that was up. The only refusal that `load` can answer to them
-- is `NoMemory`.
pub record SaveContract (seen : WorldView) (bytes : List ℕ) : Type 0 where
  pub image : bytes ≡ image_of 2 seen.shape seen.words seen.history
  pub good : IsValidImage bytes seen.shape seen.words seen.history
  pub returns : (result : Result WorldView Refusal) → LoadContract bytes result
      → IfOk result (λ world. world_abstract_state world ≡ all_crashed (world_abstract_state seen))
  pub accepted : (result : Result WorldView Refusal) → LoadContract bytes result
      → IfErr result (λ refusal. refusal ≡ NoMemory)
