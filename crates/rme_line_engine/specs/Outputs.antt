-- The output of a run for each of its lines.
use Rattle.std.specs.Prelude.{ℕ, List}
use Rattle.rme_line_io.specs.Pieces.{InputLine}
use Rattle.rme_line_engine.specs.declared.engine.LineOutput.{LineOutput}
use Rattle.rme_line_engine.specs.declared.engine.LineOutput.TheVariants.{Answers, Transcript}
use Rattle.rme_line_engine.specs.Lines.{LineAnswerBytes}
use Rattle.rme_line_engine.specs.EngineStates.{EngineState}
use Rattle.rme_line_engine.specs.Transcripts.{LineTranscriptBytes}

-- the bytes of a line, by the requested output: its answer, or its events
abbrev pub LineOutputBytes : LineOutput → EngineState → InputLine → List ℕ → EngineState → Type 0
LineOutputBytes Answers = LineAnswerBytes
LineOutputBytes Transcript = LineTranscriptBytes
