-- A line without an answer.
use Rattle.std.proofs.Common.{◌≡◌, ℕ, List, [], Bool, true, false, refl}
use Rattle.std.specs.Prelude.{Option}
use Rattle.std.specs.Io.KnownBytes.{IsAtEnd}
use Rattle.rme_line_io.specs.declared.fault.EngineFault.TheVariants.{WriteFailed}
use Rattle.rme_session_loop.specs.declared.attempt_error.AnswerError.{AnswerError}
use Rattle.rme_session_loop.specs.declared.attempt_error.AnswerError.TheVariants as error
use Rattle.rme_line_io.specs.Pieces.{InputLine, WholeLineTaken}
use Rattle.rme_line_io.specs.BufferedWrites.{BufferedWrite}
use Rattle.rme_line_io.specs.LineRuns.{FirstLineCut, LineRunStepFails, RunMoment}
use Rattle.rme_line_io.specs.StreamEvents.{StreamEvent, LastWriteFailed}
use Rattle.rme_line_io.proofs.PutLemmas.{gathered_front, gathers_more}
use Rattle.rme_line_io.proofs.RunLemmas.{spilt, told_failed}
use Rattle.rme_session_loop.specs.SessionAnswers.{AnswerFailure, session_fault}

module _ {S : Type 0} (has : S → InputLine → List ℕ → S → Type 0) (old : S) (before after : RunMoment) (held : Option (List ℕ)) (kept : List ℕ) where
  pub broken : (why : AnswerError) (ended : Bool) (line : InputLine) → FirstLineCut before.left after.left line
      → (ended ≡ false → WholeLineTaken before.left after.left) → (ended ≡ true → IsAtEnd after.left)
      → BufferedWrite before.held before.pending [] held kept → AnswerFailure why held kept after.held after.pending → LineRunStepFails has (session_fault why) old before after
  broken error.NoMemory ended line cuts whole end gathers breaks =
      told_failed has old before after ended line cuts whole end (gathers_more before.held held after.held before.pending kept after.pending [] [] gathers breaks)
  broken error.NotLogged ended line cuts whole end gathers breaks =
      told_failed has old before after ended line cuts whole end (gathers_more before.held held after.held before.pending kept after.pending [] [] gathers breaks)
  broken error.WriteFailed ended line cuts whole end gathers breaks = spilt has old before after WriteFailed (gathered_front before.held held after.held before.pending kept gathers breaks)

-- If the writer failed, the last write did.
pub broke_writing : (took takes : Option (List StreamEvent)) (why : AnswerError)
    → (why ≡ error.WriteFailed → LastWriteFailed took takes) → session_fault why ≡ WriteFailed
    → LastWriteFailed took takes
broke_writing took takes error.NoMemory broke same = cc
broke_writing took takes error.NotLogged broke same = cc
broke_writing took takes error.WriteFailed broke same = broke refl
