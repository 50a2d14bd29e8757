-- The reads and the writes of a call, from those of the calls that it makes.
use Rattle.std.proofs.Common.{◌≡◌, ◌≢◌, ℕ, List, [], ◌<◌, arith, Bool, true, Option, Ok, Err, IfErr, refl, sym, subst, ◌∙◌, inl, inr}
use Rattle.std.proofs.lemmas.Bool.{cases_Bool}
use Rattle.std.specs.declared.result.Result.{Result}
use Rattle.rme_line_io.specs.declared.fault.EngineFault.{EngineFault}
use Rattle.rme_line_io.specs.declared.fault.EngineFault.TheVariants.{NoMemory, ReadFailed, WriteFailed}
use Rattle.rme_line_io.specs.declared.lines.LineReader.{LineReader}
use Rattle.rme_line_io.specs.Pieces.{InputLine}
use Rattle.rme_line_io.specs.Readers.{ReadFailure, BufferWrittenSince, LastReadFailed, SomeReadsMade, ReadsMadeAt, ChunkConsumed, most_lines}
use Rattle.rme_line_io.specs.StreamEvents.{StreamEvent, StreamMoment, LastWriteFailed, WritesMade}
use Rattle.rme_line_io.specs.StreamCalls.{CallReads, CallWrites}
use Rattle.rme_line_io.specs.LineRuns.{AnswersArePrompt, RunMoment}
use Rattle.rme_line_io.proofs.ReaderLemmas.{CameOn, came_first, came_no_more, came_to_fail, takes_no_more}
use Rattle.rme_line_io.proofs.MomentLemmas.{prompt_turn, read_more, read_none, read_on, read_same}
use Rattle.rme_line_io.proofs.RunLemmas.{SoFar, came_turn}
use Rattle.rme_line_io.proofs.TrafficLemmas.{fails_after, fails_more, gave_up_writing, makes_more, makes_none, makes_on, writes_more, writes_none}

-- One result fails in this way only if the other does.
abbrev pub FailsOnlyAs : {A B : Type 0} → EngineFault → Result A EngineFault → Result B EngineFault → Type 0
FailsOnlyAs kind (Ok value) other = Unit {0}
FailsOnlyAs kind (Err fault) (Ok value) = fault ≢ kind
FailsOnlyAs kind (Err fault) (Err cause) = fault ≡ kind → cause ≡ kind

-- ---- reads

module _ {R : Type 0} (gave : R → Option (List StreamEvent)) (moments : R → Option (List StreamMoment)) where
  -- bytes of the chunk were taken, and nothing was read
  pub consumed_reads : {T : Type 0} (old new : LineReader R) (Is : StreamMoment → Type 0) (result : Result T EngineFault) → ChunkConsumed old new → IfErr result (λ fault. fault ≢ ReadFailed)
      → CallReads gave moments old new Is result
  consumed_reads old new Is (Ok value) on never = record {
    ended = takes_no_more old new on;
    reads = makes_on gave old new on;
    prompt = read_same moments old new Is on.reader;
    failed = tt;
    read_broke = tt;
  }
  consumed_reads old new Is (Err fault) on never = record {
    ended = takes_no_more old new on;
    reads = makes_on gave old new on;
    prompt = read_same moments old new Is on.reader;
    failed = λ e. absurd (never e);
    read_broke = λ e. absurd (never e);
  }

  pub no_reads : {T : Type 0} (lines : LineReader R) (Is : StreamMoment → Type 0) → CallReads {T = T} gave moments lines lines Is (Err NoMemory)
  no_reads lines Is = record {
    ended = λ e. record { reader = refl; reads = refl; ended = e };
    reads = makes_none gave lines;
    prompt = read_none moments lines Is;
    failed = λ e. absurd (let s : NoMemory ≡ ReadFailed = e in cc);
    read_broke = λ e. absurd (let s : NoMemory ≡ ReadFailed = e in cc);
  }

  -- the same reads, for another result
  pub reads_as : {A B : Type 0} (old new : LineReader R) (Is : StreamMoment → Type 0) (result : Result A EngineFault) (other : Result B EngineFault) → FailsOnlyAs ReadFailed other result
      → CallReads gave moments old new Is result → CallReads gave moments old new Is other
  reads_as old new Is result (Ok value) only call = record { ended = call.ended; reads = call.reads; prompt = call.prompt; failed = tt; read_broke = tt }
  reads_as old new Is (Ok given) (Err fault) only call = record {
    ended = call.ended;
    reads = call.reads;
    prompt = call.prompt;
    failed = λ e. absurd (only e);
    read_broke = λ e. absurd (only e);
  }
  reads_as old new Is (Err cause) (Err fault) only call = record {
    ended = call.ended;
    reads = call.reads;
    prompt = call.prompt;
    failed = λ e. call.failed (only e);
    read_broke = λ e. call.read_broke (only e);
  }

  -- the reads of a loop so far
  pub record ReadsSoFar (old now : LineReader R) (Is : StreamMoment → Type 0) : Type 0 where
    pub came_on : CameOn old now []
    pub reads : SomeReadsMade gave old now
    pub prompt : ReadsMadeAt moments old now Is

  pub reads_first : (lines : LineReader R) (Is : StreamMoment → Type 0) → ReadsSoFar lines lines Is
  reads_first lines Is = record { came_on = came_first lines [] refl; reads = makes_none gave lines; prompt = read_none moments lines Is }

  pub reads_more : {T : Type 0} (old now new : LineReader R) (Is : StreamMoment → Type 0) (result : Result T EngineFault) → ReadsSoFar old now Is → CallReads gave moments now new Is result
      → most_lines new < most_lines now → ReadsSoFar old new Is
  reads_more old now new Is result so call fewer = record {
    came_on = came_turn old now new so.came_on call.ended (omega (arith, call.reads.1.bounded)) fewer;
    reads = makes_more gave old now new so.reads call.reads;
    prompt = read_more moments old now new Is so.prompt call.prompt;
  }

  -- the last call of a loop
  pub reads_then : {T : Type 0} (old now new : LineReader R) (Is : StreamMoment → Type 0) (result : Result T EngineFault) → ReadsSoFar old now Is → CallReads gave moments now new Is result
      → CallReads gave moments old new Is result
  reads_then old now new Is (Ok value) so call = record {
    ended = came_no_more old now new so.came_on.ended call.ended;
    reads = makes_more gave old now new so.reads call.reads;
    prompt = read_more moments old now new Is so.prompt call.prompt;
    failed = tt;
    read_broke = tt;
  }
  reads_then old now new Is (Err fault) so call = record {
    ended = came_no_more old now new so.came_on.ended call.ended;
    reads = makes_more gave old now new so.reads call.reads;
    prompt = read_more moments old now new Is so.prompt call.prompt;
    failed = λ e. came_to_fail old now new [] so.came_on (call.failed e);
    read_broke = λ e. fails_more gave old now new so.reads (call.read_broke e);
  }

  -- a read after the whole buffer was written comes after the bytes of all lines that were taken
  pub reads_prompt : {S T : Type 0} (has : S → InputLine → List ℕ → S → Type 0) (first : S) (start : StreamMoment) (at_state : S) (at : RunMoment) → SoFar has first start at_state at
      → (old new : LineReader R) (result : Result T EngineFault) → old.ended ≡ at.ended → CallReads gave moments old new (BufferWrittenSince at.left at.held at.pending) result
      → CallReads gave moments old new (AnswersArePrompt has first start) result
  reads_prompt has first start at_state at so old new result same call = record {
    ended = call.ended;
    reads = call.reads;
    prompt = prompt_turn moments has first start at_state at so old old new (read_none moments old (AnswersArePrompt has first start)) same call.ended call.prompt;
    failed = call.failed;
    read_broke = call.read_broke;
  }

-- ---- writes

pub no_writes : {T : Type 0} (took : Option (List StreamEvent)) (result : Result T EngineFault) → IfErr result (λ fault. fault ≢ WriteFailed) → CallWrites took took result
no_writes took (Ok value) never = record { writes = writes_none took; write_broke = tt }
no_writes took (Err fault) never = record { writes = writes_none took; write_broke = λ e. absurd (never e) }

-- the same writes, for another result
pub writes_as : {A B : Type 0} (old new : Option (List StreamEvent)) (result : Result A EngineFault) (other : Result B EngineFault) → FailsOnlyAs WriteFailed other result → CallWrites old new result
    → CallWrites old new other
writes_as old new result (Ok value) only call = record { writes = call.writes; write_broke = tt }
writes_as old new (Ok given) (Err fault) only call = record { writes = call.writes; write_broke = λ e. absurd (only e) }
writes_as old new (Err cause) (Err fault) only call = record { writes = call.writes; write_broke = λ e. call.write_broke (only e) }

pub writes_then : {T : Type 0} (old now new : Option (List StreamEvent)) (result : Result T EngineFault) → WritesMade old now → CallWrites now new result → CallWrites old new result
writes_then old now new (Ok value) so call = record { writes = writes_more old now new so call.writes; write_broke = tt }
writes_then old now new (Err fault) so call = record { writes = writes_more old now new so call.writes; write_broke = λ e. fails_after old now new so (call.write_broke e) }

-- a run that ends after a fault, and writes its buffer
pub writes_given_up : {W A B : Type 0} (took : W → Option (List StreamEvent)) (old mid new : W) (fault last : EngineFault) → CallWrites {T = A} (took old) (took mid) (Err fault) → WritesMade (took mid) (took new)
    → (fault ≢ NoMemory → new ≡ mid) → (fault ≢ WriteFailed → last ≡ WriteFailed → LastWriteFailed (took mid) (took new)) → CallWrites {T = B} (took old) (took new) (Err last)
writes_given_up took old mid new fault last call made kept broke = record {
  writes = writes_more (took old) (took mid) (took new) call.writes made;
  write_broke = λ e. gave_up_writing took old mid new fault last call.writes call.write_broke kept broke e;
}
