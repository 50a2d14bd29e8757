-- The bytes that a reader of lines has left.
use Rattle.std.specs.Prelude.{◌≡◌, ℕ, ◌+◌, ◌-◌, ◌*◌, ◌<◌, ◌≤◌, All, List, [], slice_range, length, Bool, true, false, Option, Some, None}
use Rattle.std.specs.Io.KnownBytes.{Appends, prepend_known}
use Rattle.rme_line_io.specs.Pieces.{PieceTaken}
use Rattle.rme_line_io.specs.declared.lines.LineReader.{LineReader}
use Rattle.rme_line_io.specs.StreamEvents.{StreamEvent, ListGrows, LastEventBroke, StreamMoment, ReadsUntilEnd}

-- the bytes that will be read, if they are known: none once a read gave no byte
abbrev pub unread_bytes : Bool → Option (List ℕ) → Option (List ℕ)
unread_bytes false known = known
unread_bytes true None = None
unread_bytes true (Some bytes) = Some []

-- the bytes that were read and not yet cut, followed by those that will be read, if those are known
abbrev pub bytes_left : {R : Type 0} → (R → Option (List ℕ)) → LineReader R → Option (List ℕ)
bytes_left remaining lines =
    prepend_known (slice_range lines.chunk.items lines.start lines.end)
    (unread_bytes lines.ended (remaining lines.reader))

-- the bytes that were read and not yet cut
abbrev pub buffered_bytes : {R : Type 0} → LineReader R → List ℕ
buffered_bytes lines = slice_range lines.chunk.items lines.start lines.end

-- whether a read gave no byte
abbrev pub reader_has_ended : {R : Type 0} → LineReader R → Bool
reader_has_ended lines = lines.ended

abbrev pub ReaderEnded : {R : Type 0} → LineReader R → Type 0
ReaderEnded lines = reader_has_ended lines ≡ true

-- the number of reads that may still be made
abbrev pub reads_left : {R : Type 0} → LineReader R → ℕ
reads_left lines = lines.reads

-- nothing is read, now or later
pub record NothingRead {R : Type 0} (old new : LineReader R) : Type 0 where
  pub reader : new.reader ≡ old.reader
  pub reads : new.reads ≡ old.reads
  pub ended : new.ended ≡ true

-- a failed read: no earlier read gave no byte, and one was made now, or none was left to make
pub record ReadFailure {R : Type 0} (old new : LineReader R) : Type 0 where
  pub going : old.ended ≡ false
  pub made : 0 < new.reads → new.reads < old.reads

-- the greatest number of lines that will be cut: each takes a byte that was read, or a read, which gives at most 65,536
-- bytes
abbrev pub most_lines : {R : Type 0} → LineReader R → ℕ
most_lines lines = 65537 * lines.reads + (lines.end - lines.start)

-- bytes of the chunk are taken, and nothing is read
pub record ChunkConsumed {R : Type 0} (old new : LineReader R) : Type 0 where
  pub reader : new.reader ≡ old.reader
  pub reads : new.reads ≡ old.reads
  pub ended : new.ended ≡ old.ended
  pub end : new.end ≡ old.end
  pub start : old.start ≤ new.start

-- these reads were made: none after one that gave no byte, and at most as many as are allowed
pub record ReadsMade {R : Type 0} (gave : R → Option (List StreamEvent)) (old new : LineReader R)
    (reads : List StreamEvent) : Type 0 where
  pub kept : ListGrows (gave old.reader) (gave new.reader) reads
  pub silent : ReadsUntilEnd old.ended reads new.ended
  pub bounded : length reads + new.reads ≡ old.reads

abbrev pub SomeReadsMade : {R : Type 0} → (R → Option (List StreamEvent)) → LineReader R → LineReader R → Type 0
SomeReadsMade gave old new = (reads : List StreamEvent) × ReadsMade gave old new reads

-- the last of the reads that were made failed, or was the last one allowed
abbrev pub LastReadFailed : {R : Type 0} → (R → Option (List StreamEvent)) → LineReader R → LineReader R → Type 0
LastReadFailed gave old new =
    (reads : List StreamEvent) × ReadsMade gave old new reads × (0 < new.reads → LastEventBroke reads)

-- ---- the moments of reads

-- each read was made at such a moment
abbrev pub ReadsMadeAt : {R : Type 0} → (R → Option (List StreamMoment)) → LineReader R → LineReader R
    → (StreamMoment → Type 0) → Type 0
ReadsMadeAt moments old new Is =
    (made : List StreamMoment) × ListGrows (moments old.reader) (moments new.reader) made × All Is made

-- no newline was read since these bytes were left, and the writer has these contents
abbrev pub NoNewlineSince : Option (List ℕ) → Option (List ℕ) → StreamMoment → Type 0
NoNewlineSince left held moment = PieceTaken left moment.left × (moment.held ≡ held)

-- no newline was read since these bytes were left, and the whole buffer is written
abbrev pub BufferWrittenSince : Option (List ℕ) → Option (List ℕ) → List ℕ → StreamMoment → Type 0
BufferWrittenSince left held kept moment = PieceTaken left moment.left × Appends held moment.held kept
