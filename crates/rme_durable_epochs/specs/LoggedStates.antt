-- An executor and the lines of its events.
use Rattle.std.specs.Prelude.{◌≡◌, ℕ, List, Option, zero, suc}
use Rattle.rme_session_world.specs.ExecutorStates.{ExecutorState}
use Rattle.rme_session_world.specs.SessionBatches.{AppliesSessionOrder}
use Rattle.rme_session_world.specs.declared.event_batch.EventBatch.{EventBatch}
use Rattle.rme_durable_format.specs.BatchCommands.{batch_commands_if}
use Rattle.rme_durable_format.specs.CommandLines.{AppendsCommands}
use Rattle.rme_durable_format.specs.Lives.{lives_after_batch_if}

-- The executor, the lives of the workers, and the pending lines.
pub record LoggedState : Type 0 where
  pub executor : ExecutorState
  pub lives : List ℕ
  pub lines : List ℕ

abbrev pub logged_state : ExecutorState → List ℕ → List ℕ → LoggedState
logged_state executor lives lines = record { executor = executor; lives = lives; lines = lines }

-- One event batch of a session was applied, or none: the executor changed by it alone, the lines grew by the commands of
-- its events, and a restart in it is one more life of its worker.
abbrev pub LoggedStep : List (List ℕ) → ℕ → LoggedState → LoggedState → Type 0
LoggedStep names session old new =
    (batch : Option EventBatch) × AppliesSessionOrder session old.executor batch new.executor
    × AppendsCommands names old.lines (batch_commands_if batch) new.lines
    × (new.lives ≡ lives_after_batch_if old.lives batch)

-- A session executed this number of orders, each of which was logged.
abbrev pub LoggedSteps : List (List ℕ) → ℕ → ℕ → LoggedState → LoggedState → Type 0
LoggedSteps names session zero old new = new ≡ old
LoggedSteps names session (suc count) old new =
    (mid : LoggedState) × LoggedSteps names session count old mid × LoggedStep names session mid new
