-- What a caller over bytes in memory may rely on, of answers.
use Rattle.std.specs.Prelude.{◌≡◌, ℕ, List}
use Rattle.rme_line_io.specs.Pieces.{lines_of}
use Rattle.rme_line_engine.specs.Lines.{LineAnswerBytes}
use Rattle.rme_line_engine.specs.LineRuns.{LineRun, all_bytes}
use Rattle.rme_line_engine.specs.EngineStates.{EngineState, nothing_open}

-- The output is the answers to the input's lines, in order, and nothing else.
pub record AreAnswersOfInput (input output : List ℕ) : Type 0 where
  pub answers : List (List ℕ)
  pub last : EngineState
  pub run : LineRun LineAnswerBytes nothing_open (lines_of input) answers last
  pub written : output ≡ all_bytes answers
