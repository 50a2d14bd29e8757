-- THE READS AND THE WRITES OF A CALL that takes lines and writes answers.
use Rattle.std.specs.Prelude.{◌≡◌, List, Option, Result, IfErr}
use Rattle.rme_line_io.specs.declared.fault.EngineFault.{EngineFault}
use Rattle.rme_line_io.specs.declared.fault.EngineFault.TheVariants.{ReadFailed, WriteFailed}
use Rattle.rme_line_io.specs.declared.lines.LineReader.{LineReader}
use Rattle.rme_line_io.specs.StreamEvents.{StreamEvent, StreamMoment, LastWriteFailed, WritesMade}
use Rattle.rme_line_io.specs.Readers.{ReadFailure, ReaderEnded, LastReadFailed, SomeReadsMade, ReadsMadeAt, NothingRead}

-- some reads were made: none once the reader has ended, and each at such a moment. `ReadFailed` comes only after a read
-- that failed, or after the last one allowed
pub record CallReads {R T : Type 0} (gave : R → Option (List StreamEvent)) (moments : R → Option (List StreamMoment))
    (old new : LineReader R) (Is : StreamMoment → Type 0) (result : Result T EngineFault) : Type 0 where
  pub ended : ReaderEnded old → NothingRead old new
  pub reads : SomeReadsMade gave old new
  pub prompt : ReadsMadeAt moments old new Is
  pub failed : IfErr result (λ fault. fault ≡ ReadFailed → ReadFailure old new)
  pub read_broke : IfErr result (λ fault. fault ≡ ReadFailed → LastReadFailed gave old new)

-- some writes were made. `WriteFailed` comes only after a write that failed, or after the last one allowed
pub record CallWrites {T : Type 0} (old new : Option (List StreamEvent)) (result : Result T EngineFault) : Type 0 where
  pub writes : WritesMade old new
  pub write_broke : IfErr result (λ fault. fault ≡ WriteFailed → LastWriteFailed old new)
