-- THE OUTPUT OF A RUN OF LINES: for the lines of the bytes read, the bytes of each in order, and nothing else. The
-- bytes of a line, in the state that the earlier lines left, are given by a relation.
use Rattle.std.specs.Prelude.{◌≡◌, ℕ, ◌≤◌, List, [], ◌∷◌, ◌++◌, length, Bool, true, false, Option, Some, None}
use Rattle.std.specs.Io.KnownBytes.{Appends}
use Rattle.rme_line_io.specs.declared.fault.EngineFault.{EngineFault}
use Rattle.rme_line_io.specs.declared.fault.EngineFault.TheVariants.{ReadFailed, WriteFailed, NoMemory}
use Rattle.rme_line_io.specs.Pieces.{InputLine, PieceTaken, WholeLineTaken, lines_of, whole_lines_of}
use Rattle.rme_line_io.specs.BufferedWrites.{WritesPrefix, BufferedWrite}
use Rattle.rme_line_io.specs.Readers.{bytes_left, reader_has_ended}
use Rattle.rme_line_io.specs.declared.lines.LineReader.{LineReader}
use Rattle.rme_line_io.specs.StreamEvents.{StreamMoment}

-- the moment of a reader of lines and of a writer with these contents
abbrev pub stream_moment : {R : Type 0} → (R → Option (List ℕ)) → LineReader R → Option (List ℕ) → StreamMoment
stream_moment remaining lines held = record { left = bytes_left remaining lines; held = held }

-- a moment of a run: also whether the reader has ended, and the bytes that are buffered for the writer
pub record RunMoment : Type 0 where
  pub left : Option (List ℕ)
  pub ended : Bool
  pub held : Option (List ℕ)
  pub pending : List ℕ

abbrev pub run_moment : {R : Type 0} → (R → Option (List ℕ)) → LineReader R → Option (List ℕ) → List ℕ → RunMoment
run_moment remaining lines held pending = record
    { left = bytes_left remaining lines; ended = reader_has_ended lines; held = held; pending = pending }

-- each line has its bytes, in the state that the line before left
abbrev pub LineRun : {S : Type 0} → (S → InputLine → List ℕ → S → Type 0) → S → List InputLine → List (List ℕ) → S
    → Type 0
LineRun has old [] [] new = new ≡ old
LineRun has old [] (bytes ∷ all) new = ⊥
LineRun has old (line ∷ lines) [] new = ⊥
LineRun {S = S} has old (line ∷ lines) (bytes ∷ all) new =
    (mid : S) × has old line bytes mid × LineRun has mid lines all new

-- the bytes of all lines
abbrev pub all_bytes : List (List ℕ) → List ℕ
all_bytes [] = []
all_bytes (bytes ∷ all) = bytes ++ all_bytes all

-- these are all the lines of the input, if its bytes are known
abbrev pub AreInputLines : Option (List ℕ) → List InputLine → Type 0
AreInputLines None lines = Unit {0}
AreInputLines (Some bytes) lines = lines_of bytes ≡ lines

-- the input begins with these lines
abbrev pub InputBeginsWith : Option (List ℕ) → List InputLine → Type 0
InputBeginsWith None lines = Unit {0}
InputBeginsWith (Some bytes) lines = (more : List InputLine) × (lines_of bytes ≡ lines ++ more)

-- these are the lines whose newlines were read, whatever else of the input was read
abbrev pub LinesWereRead : Option (List ℕ) → Option (List ℕ) → List InputLine → Type 0
LinesWereRead None left lines = Unit {0}
LinesWereRead (Some bytes) None lines = ⊥
LinesWereRead (Some bytes) (Some left) lines = (read : List ℕ) × (bytes ≡ read ++ left) × (whole_lines_of read ≡ lines)

-- these are the lines that were read, perhaps without the last one, of which perhaps only a part was read
abbrev pub LinesReadButLast : Option (List ℕ) → Option (List ℕ) → List InputLine → Type 0
LinesReadButLast None left lines = Unit {0}
LinesReadButLast (Some bytes) None lines = ⊥
LinesReadButLast (Some bytes) (Some left) lines =
    (read : List ℕ) × (last : List InputLine) × (bytes ≡ read ++ left) × (lines_of read ≡ lines ++ last)
    × (length last ≤ 1)

-- all lines left at the first moment were taken, and the writer has received their bytes; the last line left this state
abbrev pub RunWritesTo : {S : Type 0} → (S → InputLine → List ℕ → S → Type 0) → S → StreamMoment → Option (List ℕ) → S
    → Type 0
RunWritesTo has first start held last =
    (lines : List InputLine) × (all : List (List ℕ)) × LineRun has first lines all last
    × AreInputLines start.left lines × Appends start.held held (all_bytes all)

abbrev pub RunWritesAll : {S : Type 0} → (S → InputLine → List ℕ → S → Type 0) → S → StreamMoment → Option (List ℕ)
    → Type 0
RunWritesAll {S = S} has first start held = (last : S) × RunWritesTo has first start held last

-- the lines that were taken when a run ended with a fault, and what was written by then. If the reader failed: the
-- lines whose newlines were read, and all their bytes. If memory was refused: the lines before the one that needed it,
-- and all their bytes. If the writer failed: a prefix of their bytes
abbrev pub RunFailedAfter : EngineFault → StreamMoment → StreamMoment → List InputLine → List ℕ → Type 0
RunFailedAfter ReadFailed start end lines bytes =
    LinesWereRead start.left end.left lines × Appends start.held end.held bytes
RunFailedAfter NoMemory start end lines bytes =
    InputBeginsWith start.left lines × LinesReadButLast start.left end.left lines × Appends start.held end.held bytes
RunFailedAfter WriteFailed start end lines bytes =
    InputBeginsWith start.left lines × WritesPrefix start.held end.held bytes

-- the first lines of the input were taken, and then the run ended with a fault
abbrev pub RunWritesFirst : {S : Type 0} → (S → InputLine → List ℕ → S → Type 0) → S → EngineFault → StreamMoment
    → StreamMoment → Type 0
RunWritesFirst {S = S} has first fault start end =
    (lines : List InputLine) × (all : List (List ℕ)) × (last : S) × LineRun has first lines all last
    × RunFailedAfter fault start end lines (all_bytes all)

-- at this moment exactly the bytes of all lines whose newlines were read are written
abbrev pub AnswersArePrompt : {S : Type 0} → (S → InputLine → List ℕ → S → Type 0) → S → StreamMoment → StreamMoment
    → Type 0
AnswersArePrompt {S = S} has first start moment =
    (lines : List InputLine) × (all : List (List ℕ)) × (last : S) × LineRun has first lines all last
    × LinesWereRead start.left moment.left lines × Appends start.held moment.held (all_bytes all)

-- ---- one iteration: a line is taken and its bytes are buffered

-- a line was cut off the front of the bytes
abbrev pub FirstLineCut : Option (List ℕ) → Option (List ℕ) → InputLine → Type 0
FirstLineCut None after line = Unit {0}
FirstLineCut (Some before) None line = ⊥
FirstLineCut (Some before) (Some after) line = lines_of before ≡ line ∷ lines_of after

-- no line is left
abbrev pub NoLineLeft : Option (List ℕ) → Type 0
NoLineLeft None = Unit {0}
NoLineLeft (Some bytes) = lines_of bytes ≡ []

-- an iteration that took a line and buffered its bytes; or one that found no line, wrote the whole buffer and changed
-- no other state. A line was taken with its newline while the reader has not ended
abbrev pub LineRunStep : {S : Type 0} → (S → InputLine → List ℕ → S → Type 0) → S → S → RunMoment → RunMoment → Bool
    → Type 0
LineRunStep has old new before after true =
    (line : InputLine) × (bytes : List ℕ) × FirstLineCut before.left after.left line × has old line bytes new
    × BufferedWrite before.held before.pending bytes after.held after.pending
    × (after.ended ≡ false → WholeLineTaken before.left after.left)
LineRunStep has old new before after false =
    NoLineLeft before.left × Appends before.held after.held before.pending × (new ≡ old)

-- the bytes of at most one line were taken, all of it or a part
abbrev pub AtMostOneLineTaken : Option (List ℕ) → Option (List ℕ) → Type 0
AtMostOneLineTaken None after = Unit {0}
AtMostOneLineTaken (Some before) None = ⊥
AtMostOneLineTaken (Some before) (Some after) =
    (read : List ℕ) × (before ≡ read ++ after) × (length (lines_of read) ≤ 1)

-- what is taken and written if no line could be read: after refused memory, bytes that were not written are still
-- buffered
abbrev pub FaultBeforeLine : EngineFault → RunMoment → RunMoment → Type 0
FaultBeforeLine ReadFailed before after =
    PieceTaken before.left after.left × Appends before.held after.held before.pending
FaultBeforeLine NoMemory before after =
    PieceTaken before.left after.left × BufferedWrite before.held before.pending [] after.held after.pending
FaultBeforeLine WriteFailed before after = WritesPrefix before.held after.held before.pending

-- an iteration that failed: if memory was refused, perhaps after a line was taken, of which nothing is buffered; if the
-- writer failed, perhaps after a line was taken and its bytes were written in part
abbrev pub LineRunStepFails : {S : Type 0} → (S → InputLine → List ℕ → S → Type 0) → EngineFault → S → RunMoment
    → RunMoment → Type 0
LineRunStepFails has ReadFailed old before after =
    PieceTaken before.left after.left × Appends before.held after.held before.pending
LineRunStepFails has NoMemory old before after =
    AtMostOneLineTaken before.left after.left × BufferedWrite before.held before.pending [] after.held after.pending
LineRunStepFails {S = S} has WriteFailed old before after =
    (taken : List InputLine) × (all : List (List ℕ)) × (new : S) × LineRun has old taken all new
    × InputBeginsWith before.left taken × WritesPrefix before.held after.held (before.pending ++ all_bytes all)

-- the end of a run after a fault, with the last write: if memory was refused, the whole buffer
abbrev pub RunEndsOnFault : EngineFault → Option (List ℕ) → List ℕ → Option (List ℕ) → EngineFault → Type 0
RunEndsOnFault NoMemory held kept holds NoMemory = Appends held holds kept
RunEndsOnFault NoMemory held kept holds WriteFailed = WritesPrefix held holds kept
RunEndsOnFault NoMemory held kept holds ReadFailed = ⊥
RunEndsOnFault fault held kept holds last = (last ≡ fault) × (holds ≡ held)
