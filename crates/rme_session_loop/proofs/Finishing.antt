-- A session that is finished writes its last answers.
use Rattle.std.proofs.Common.{◌≡◌, ◌≢◌, ℕ, List, [], ◌++◌, Option, Some, None, Ok, Err, IfErr, arith, refl, sym, ap, subst, ◌∙◌, append-nil}
use Rattle.std.specs.Prelude.{IfOk, OnErr, OnOk}
use Rattle.std.specs.declared.result.Result.{Result}
use Rattle.std.specs.Io.KnownBytes.{Appends}
use Rattle.std.proofs.KnownBytes.{Appends-trans}
use Rattle.rme_line_io.specs.declared.fault.EngineFault.{EngineFault}
use Rattle.rme_line_io.specs.declared.fault.EngineFault.TheVariants.{ReadFailed, WriteFailed}
use Rattle.rme_line_io.specs.declared.lines.LineReader.{LineReader}
use Rattle.rme_line_io.specs.Pieces.{InputLine, lines_of}
use Rattle.rme_line_io.specs.BufferedWrites.{WritesPrefix}
use Rattle.rme_line_io.specs.LineRuns.{AnswersArePrompt, RunEndsOnFault, RunMoment, RunWritesFirst, all_bytes}
use Rattle.rme_line_io.specs.StreamCalls.{CallReads, CallWrites}
use Rattle.rme_line_io.specs.StreamEvents.{LastWriteFailed, StreamEvent, StreamMoment, WritesMade}
use Rattle.rme_line_io.proofs.CallLemmas.{ReadsSoFar, consumed_reads, reads_then, writes_then}
use Rattle.rme_line_io.proofs.RunLemmas.{LeftOf, SoFar, failed, spilt}
use Rattle.rme_session_loop.specs.SessionRuns.{LinesTakenBefore, SessionWrites}
use Rattle.rme_session_loop.specs.declared.session_loop.SessionEnd.{SessionEnd}
use Rattle.rme_session_loop.specs.declared.session_loop.SessionEnd.TheVariants.{NoMoreLines, Finished}

-- What a part of a session says from its first state is what a session says that begins in the same state.
module _ {S : Type 0} (has : S → InputLine → List ℕ → S → Type 0) (first other : S) (same : first ≡ other) (start : StreamMoment) where
  -- The last state of a session that ended, with what it wrote and that it is finished if it ended so.
  pub session_ended : (end : StreamMoment) (last : S) (Is : S → Type 0) (result : Result SessionEnd EngineFault)
      → IfOk result (λ how. SessionWrites how has first start end last)
      → IfOk result (λ how. how ≡ Finished → Is last) → IfOk result (λ how. (it : S) × SessionWrites how has other start end it × (how ≡ Finished → Is it))
  session_ended end last Is (Ok how) writes is =
      let P : S → Type 0 = λ begun. SessionWrites how has begun start end last in
      (last, subst P same writes, is)
  session_ended end last Is (Err fault) writes is = tt

  pub session_failed : (end : StreamMoment) (result : Result SessionEnd EngineFault)
      → IfErr result (λ fault. RunWritesFirst has first fault start end)
      → IfErr result (λ fault. RunWritesFirst has other fault start end)
  session_failed end result writes =
      let P : S → Type 0 = λ begun. IfErr result (λ fault. RunWritesFirst has begun fault start end) in
      subst P same writes

  pub session_reads : {R : Type 0} (gave : R → Option (List StreamEvent)) (moments : R → Option (List StreamMoment))
      (old new : LineReader R) (result : Result SessionEnd EngineFault)
      → CallReads gave moments old new (AnswersArePrompt has first start) result → CallReads gave moments old new (AnswersArePrompt has other start) result
  session_reads gave moments old new result reads =
      let P : S → Type 0 = λ begun. CallReads gave moments old new (AnswersArePrompt has begun start) result in
      subst P same reads

taken_before : (input left : Option (List ℕ)) (lines : List InputLine) → LeftOf input left lines
    → LinesTakenBefore input left lines
taken_before None left lines of = tt
taken_before (Some bytes) None lines of = absurd of
taken_before (Some bytes) (Some left) lines of = of

module _ {S : Type 0} (has : S → InputLine → List ℕ → S → Type 0) (first : S) (start : StreamMoment) (now : S) (at : RunMoment) (so : SoFar has first start now at) where
  all_written : (holds : Option (List ℕ)) → Appends at.held holds at.pending
      → Appends start.held holds (all_bytes so.all)
  all_written holds whole =
      let P : List ℕ → Type 0 = λ l. Appends start.held holds l in
      subst P so.rest (Appends-trans start.held at.held holds so.front at.pending so.put whole)

  pub finished_writes : (holds : Option (List ℕ)) (result : Result SessionEnd EngineFault)
      → IfOk result (λ how. how ≡ Finished) → OnOk result (Appends at.held holds at.pending)
      → IfOk result (λ how. SessionWrites how has first start record { left = at.left; held = holds } now)
  finished_writes holds (Err fault) finished whole = tt
  finished_writes holds (Ok how) finished whole =
      let P : SessionEnd → Type 0 = λ end. SessionWrites end has first start record { left = at.left; held = holds } now in
      subst P (sym finished) (so.lines, so.all, so.run, taken_before start.left at.left so.lines so.of, all_written holds whole)

  pub last_write_failed : (next : RunMoment) → next.left ≡ at.left → (result : Result SessionEnd EngineFault)
      → IfErr result (λ fault. fault ≡ WriteFailed) → OnErr result (WritesPrefix at.held next.held at.pending)
      → IfErr result (λ fault. (holds : Option (List ℕ)) (last : EngineFault) → RunEndsOnFault fault next.held next.pending holds last → RunWritesFirst has first last start record { left = next.left; held = holds })
  last_write_failed next same (Ok how) kind front = tt
  last_write_failed next same (Err fault) kind front =
      let P : EngineFault → Type 0 = λ f. (holds : Option (List ℕ)) (last : EngineFault) → RunEndsOnFault f next.held next.pending holds last → RunWritesFirst has first last start record { left = next.left; held = holds } in
      subst P (sym kind)
      (λ holds last gives. failed has first start now at so next holds WriteFailed last (λ e. absurd (let s : WriteFailed ≡ ReadFailed = e in cc)) (spilt has now at next WriteFailed front) gives)

module _ {R : Type 0} (gave : R → Option (List StreamEvent)) (moments : R → Option (List StreamMoment)) where
  never_read : (result : Result SessionEnd EngineFault) → IfErr result (λ fault. fault ≡ WriteFailed)
      → IfErr result (λ fault. fault ≢ ReadFailed)
  never_read (Ok how) kind = tt
  never_read (Err fault) kind = λ e. let s : WriteFailed ≡ ReadFailed = sym kind ∙ e in cc

  pub last_reads : (old now : LineReader R) (Is : StreamMoment → Type 0) (result : Result SessionEnd EngineFault)
      → ReadsSoFar gave moments old now Is → IfErr result (λ fault. fault ≡ WriteFailed)
      → CallReads gave moments old now Is result
  last_reads old now Is result so kind =
      reads_then gave moments old now now Is result so
      (consumed_reads gave moments now now Is result record { reader = refl; reads = refl; ended = refl; end = refl; start = omega arith } (never_read result kind))

pub last_writes : (old now new : Option (List StreamEvent)) (result : Result SessionEnd EngineFault)
    → WritesMade old now → WritesMade now new → OnErr result (LastWriteFailed now new) → CallWrites old new result
last_writes old now new (Ok how) so more broke = writes_then old now new (Ok how) so record { writes = more; write_broke = tt }
last_writes old now new (Err fault) so more broke = writes_then old now new (Err fault) so record { writes = more; write_broke = λ _. broke }
