-- What a caller over bytes in memory may rely on, of transcripts.
use Rattle.std.specs.Prelude.{◌≡◌, ℕ, List}
use Rattle.rme_line_io.specs.Pieces.{lines_of}
use Rattle.rme_line_engine.specs.LineRuns.{LineRun, all_bytes}
use Rattle.rme_line_engine.specs.EngineStates.{EngineState, nothing_open}
use Rattle.rme_line_engine.specs.Transcripts.{LineTranscriptBytes}

-- The output is the event lines of the input's lines, in order, and nothing else.
pub record IsTranscript (input output : List ℕ) : Type 0 where
  pub told : List (List ℕ)
  pub last : EngineState
  pub run : LineRun LineTranscriptBytes nothing_open (lines_of input) told last
  pub written : output ≡ all_bytes told
