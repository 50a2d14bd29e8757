-- The answers of a session, which ends with its reader or behind a line that finishes it.
use Rattle.std.specs.Prelude.{◌≡◌, ℕ, List, ◌++◌, Option, Some, None}
use Rattle.std.specs.Io.KnownBytes.{Appends}
use Rattle.rme_line_io.specs.Pieces.{InputLine, lines_of}
use Rattle.rme_line_io.specs.LineRuns.{LineRun, RunWritesTo, all_bytes}
use Rattle.rme_line_io.specs.StreamEvents.{StreamMoment}
use Rattle.rme_session_loop.specs.declared.session_loop.SessionEnd.{SessionEnd}
use Rattle.rme_session_loop.specs.declared.session_loop.SessionEnd.TheVariants.{NoMoreLines, Finished}

-- A line is answered only while the session is not finished.
abbrev pub AnswersWhileOpen : {S : Type 0} → (S → Type 0) → (S → InputLine → List ℕ → S → Type 0) → S → InputLine
    → List ℕ → S → Type 0
AnswersWhileOpen finished answers old line bytes new = (finished old → ⊥) × answers old line bytes new

-- The lines of the input are those that were taken, followed by those of the bytes that are left, if these are known.
abbrev pub LinesTakenBefore : Option (List ℕ) → Option (List ℕ) → List InputLine → Type 0
LinesTakenBefore None left lines = Unit {0}
LinesTakenBefore (Some bytes) None lines = ⊥
LinesTakenBefore (Some bytes) (Some left) lines = lines_of bytes ≡ lines ++ lines_of left

-- The lines before this moment were taken, and the writer has received their bytes; the last line left this state.
abbrev pub RunWritesUntil : {S : Type 0} → (S → InputLine → List ℕ → S → Type 0) → S → StreamMoment → StreamMoment
    → S → Type 0
RunWritesUntil has first start end last =
    (lines : List InputLine) × (all : List (List ℕ)) × LineRun has first lines all last
    × LinesTakenBefore start.left end.left lines × Appends start.held end.held (all_bytes all)

-- WHAT A SESSION WROTE: the answers to all lines of its reader; or, where it is finished, those to the lines before.
abbrev pub SessionWrites : {S : Type 0} → SessionEnd → (S → InputLine → List ℕ → S → Type 0) → S → StreamMoment
    → StreamMoment → S → Type 0
SessionWrites NoMoreLines has first start end last = RunWritesTo has first start end.held last
SessionWrites Finished has first start end last = RunWritesUntil has first start end last
