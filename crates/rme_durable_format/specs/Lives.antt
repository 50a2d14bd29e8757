-- The lives of workers: how often each was restarted, over all epochs.
use Rattle.std.specs.Prelude.{◌≡◌, ℕ, ◌+◌, ◌-◌, ◌^◌, min, List, [], ◌∷◌, get_or, slice_set, Option, Some, None}
use Rattle.rme_line_io.specs.Pieces.{InputLine, lines_of}
use Rattle.rme_line_engine.specs.EngineStates.{EngineState, nothing_open}
use Rattle.rme_session_world.specs.declared.event_batch.BatchStart.{BatchStart}
use Rattle.rme_session_world.specs.declared.event_batch.BatchStart.TheVariants as begins
use Rattle.rme_session_world.specs.declared.event_batch.EventBatch.{EventBatch}
use Rattle.rme_wire.specs.Requests.{request_read}
use Rattle.rme_wire.specs.declared.command.Command.TheVariants.{Restart}
use Rattle.rme_wire.specs.declared.request.Request.{Request}
use Rattle.rme_wire.specs.declared.request.Request.TheVariants.{World}
use Rattle.rme_durable_format.specs.Recovery.{AcceptsLine}

-- The life of a worker; 0 for a worker that is not listed.
abbrev pub life_of : List ℕ → ℕ → ℕ
life_of lives worker = get_or lives worker 0

-- A worker was restarted. The count stops at the greatest number of 64 bits.
abbrev pub one_more_life : List ℕ → ℕ → List ℕ
one_more_life lives worker = slice_set lives worker (min (life_of lives worker + 1) (2 ^ 64 - 1))

-- The lives after an event batch: only its first event may be a restart.
abbrev pub lives_after_start : List ℕ → ℕ → BatchStart → List ℕ
lives_after_start lives worker begins.Restart = one_more_life lives worker
lives_after_start lives worker start = lives

abbrev pub lives_after_batch : List ℕ → EventBatch → List ℕ
lives_after_batch lives batch = lives_after_start lives batch.worker batch.begins

abbrev pub lives_after_batch_if : List ℕ → Option EventBatch → List ℕ
lives_after_batch_if lives None = lives
lives_after_batch_if lives (Some batch) = lives_after_batch lives batch

-- The lives after a line, by what it asks for.
abbrev pub lives_after_request : List ℕ → Option Request → List ℕ
lives_after_request lives (Some (World (Restart worker))) = one_more_life lives worker
lives_after_request lives asked = lives

-- All lines are accepted, in order, and each restart among them is one more life.
abbrev pub CountsLives : EngineState → List InputLine → EngineState → List ℕ → List ℕ → Type 0
CountsLives old [] new lives later = (new ≡ old) × (later ≡ lives)
CountsLives old (line ∷ lines) new lives later =
    (mid : EngineState) × AcceptsLine old line mid
    × CountsLives mid lines new (lives_after_request lives (request_read old.names line)) later

-- The same for the lines of bytes, if the bytes are known.
abbrev pub CountsKnownLives : Option (List ℕ) → EngineState → EngineState → List ℕ → List ℕ → Type 0
CountsKnownLives None old new lives later = Unit {0}
CountsKnownLives (Some bytes) old new lives later = CountsLives old (lines_of bytes) new lives later

-- The lines after the first lead from these lives to those.
pub record RecoversLives (bytes : List ℕ) (lives later : List ℕ) : Type 0 where
  pub header : InputLine
  pub lines : List InputLine
  pub are : lines_of bytes ≡ header ∷ lines
  pub state : EngineState
  pub counts : CountsLives nothing_open lines state lives later
