-- Lists of events, and the reads and writes of consecutive calls.
use Rattle.std.proofs.Common.{◌≡◌, ◌≢◌, ℕ, ◌+◌, ◌≤◌, List, [], ◌∷◌, ◌++◌, length, Bool, true, false, Option, Some, None, Ok, Err, IfErr, refl, sym, ap, subst, ◌∙◌, arith, append_assoc, append-nil}
use Rattle.std.proofs.lemmas.List.{length-append}
use Rattle.std.specs.declared.result.Result.{Result}
use Rattle.rme_line_io.specs.declared.fault.EngineFault.{EngineFault}
use Rattle.rme_line_io.specs.declared.fault.EngineFault.TheVariants.{NoMemory, ReadFailed, WriteFailed}
use Rattle.rme_line_io.specs.declared.lines.LineReader.{LineReader}
use Rattle.rme_line_io.specs.Readers.{ReadsMade, LastReadFailed, SomeReadsMade, ChunkConsumed}
use Rattle.rme_line_io.specs.StreamEvents.{StreamEvent, moved, at_end, interrupted, broke, ListGrows, LastEventBroke, LastWriteFailed, WritesMade, ReadsUntilEnd, write_event}

-- ---- lists

pub grows_none : {E : Type 0} (held : Option (List E)) → ListGrows held held []
grows_none None = tt
grows_none (Some before) = sym (append-nil before)

pub grows_more : {E : Type 0} (old mid new : Option (List E)) (events more : List E) → ListGrows old mid events → ListGrows mid new more → ListGrows old new (events ++ more)
grows_more old mid None events more g h = tt
grows_more old None (Some after) events more g h = absurd h
grows_more None (Some now) (Some after) events more g h = absurd g
grows_more (Some before) (Some now) (Some after) events more g h = h ∙ ap (λ l. l ++ more) g ∙ append_assoc before events more

pub last_after : (events more : List StreamEvent) → LastEventBroke more → LastEventBroke (events ++ more)
last_after events more (front, e) = (events ++ front, ap (λ l. events ++ l) e ∙ sym (append_assoc events front (broke ∷ [])))

-- ---- writes

pub writes_none : (held : Option (List StreamEvent)) → WritesMade held held
writes_none held = ([], grows_none held)

pub writes_more : (old mid new : Option (List StreamEvent)) → WritesMade old mid → WritesMade mid new → WritesMade old new
writes_more old mid new (events, g) (more, h) = (events ++ more, grows_more old mid new events more g h)

pub fails_after : (old mid new : Option (List StreamEvent)) → WritesMade old mid → LastWriteFailed mid new → LastWriteFailed old new
fails_after old mid new (events, g) (more, h, last) =
    (events ++ more, grows_more old mid new events more g h, λ few. last_after events more (last (omega (arith, few, length-append events more))))

-- a run that ends after a fault, and writes its buffer
pub gave_up_writing : {W : Type 0} (took : W → Option (List StreamEvent)) (old mid new : W) (fault last : EngineFault) → WritesMade (took old) (took mid)
    → (fault ≡ WriteFailed → LastWriteFailed (took old) (took mid)) → (fault ≢ NoMemory → new ≡ mid) → (fault ≢ WriteFailed → last ≡ WriteFailed → LastWriteFailed (took mid) (took new)) → last ≡ WriteFailed
    → LastWriteFailed (took old) (took new)
gave_up_writing took old mid new ReadFailed last writes fails kept later e = fails_after (took old) (took mid) (took new) writes (later (λ same. absurd (let s : ReadFailed ≡ WriteFailed = same in cc)) e)
gave_up_writing took old mid new NoMemory last writes fails kept later e = fails_after (took old) (took mid) (took new) writes (later (λ same. absurd (let s : NoMemory ≡ WriteFailed = same in cc)) e)
gave_up_writing {W = W} took old mid new WriteFailed last writes fails kept later e =
    let P : W → Type 0 = λ w. LastWriteFailed (took old) (took w) in
    subst P (sym (kept (λ same. absurd (let s : WriteFailed ≡ NoMemory = same in cc)))) (fails refl)

-- this number of writes was made
abbrev pub Wrote : Option (List StreamEvent) → Option (List StreamEvent) → ℕ → Type 0
Wrote old new count = (events : List StreamEvent) × ListGrows old new events × (length events ≡ count)

pub wrote_none : (held : Option (List StreamEvent)) → Wrote held held 0
wrote_none held = ([], grows_none held, refl)

pub wrote_one : (old mid new : Option (List StreamEvent)) (count : ℕ) (event : StreamEvent) → Wrote old mid count → ListGrows mid new (event ∷ []) → Wrote old new (count + 1)
wrote_one old mid new count event (events, g, e) h =
    (events ++ event ∷ [], grows_more old mid new events (event ∷ []) g h, omega (arith, e, length-append events (event ∷ [])))

pub wrote_some : (old new : Option (List StreamEvent)) (count : ℕ) → Wrote old new count → WritesMade old new
wrote_some old new count (events, g, e) = (events, g)

pub wrote_more : (old mid new : Option (List StreamEvent)) (count : ℕ) (event : StreamEvent) → Wrote old mid count → ListGrows mid new (event ∷ []) → WritesMade old new
wrote_more old mid new count event (events, g, e) h = (events ++ event ∷ [], grows_more old mid new events (event ∷ []) g h)

pub wrote_broke : (old mid new : Option (List StreamEvent)) (count : ℕ) → Wrote old mid count → ListGrows mid new (broke ∷ []) → LastWriteFailed old new
wrote_broke old mid new count (events, g, e) h =
    (events ++ broke ∷ [], grows_more old mid new events (broke ∷ []) g h, λ few. (events, refl))

-- a write took no byte
pub wrote_nothing : (old mid new : Option (List StreamEvent)) (count taken : ℕ) (buffer : List ℕ) → Wrote old mid count → taken ≡ 0 → ListGrows mid new (write_event taken buffer ∷ []) → LastWriteFailed old new
wrote_nothing old mid new count taken buffer wrote e h =
    let P : ℕ → Type 0 = λ n. ListGrows mid new (write_event n buffer ∷ []) in wrote_broke old mid new count wrote (subst P e h)

pub wrote_all : (old new : Option (List StreamEvent)) (count : ℕ) → Wrote old new count → 18446744073709551615 ≤ count → LastWriteFailed old new
wrote_all old new count (events, g, e) all = (events, g, λ few. absurd (omega (arith, few, e, all)))

-- ---- reads

reads_more : (first then last : Bool) (reads more : List StreamEvent) → ReadsUntilEnd first reads then → ReadsUntilEnd then more last → ReadsUntilEnd first (reads ++ more) last
reads_more first mid last [] more r s = let P : Bool → Type 0 = λ b. ReadsUntilEnd b more last in subst P r s
reads_more true mid last (event ∷ reads) more r s = absurd r
reads_more false mid last (at_end ∷ reads) more r s = reads_more true mid last reads more r s
reads_more false mid last (moved bytes ∷ reads) more r s = reads_more false mid last reads more r s
reads_more false mid last (interrupted ∷ reads) more r s = reads_more false mid last reads more r s
reads_more false mid last (broke ∷ reads) more r s = reads_more false mid last reads more r s

pub asks_none : {R : Type 0} (gave : R → Option (List StreamEvent)) (lines : LineReader R) → ReadsMade gave lines lines []
asks_none gave lines = record { kept = grows_none (gave lines.reader); silent = refl; bounded = omega arith }

pub asks_more : {R : Type 0} (gave : R → Option (List StreamEvent)) (old mid new : LineReader R) (reads more : List StreamEvent) → ReadsMade gave old mid reads → ReadsMade gave mid new more → ReadsMade gave old new (reads ++ more)
asks_more gave old mid new reads more a b = record {
  kept = grows_more (gave old.reader) (gave mid.reader) (gave new.reader) reads more a.kept b.kept;
  silent = reads_more old.ended mid.ended new.ended reads more a.silent b.silent;
  bounded = omega (arith, length-append reads more, a.bounded, b.bounded);
}

-- taking bytes of the chunk makes no read
pub asks_on : {R : Type 0} (gave : R → Option (List StreamEvent)) (old new : LineReader R) → ChunkConsumed old new → ReadsMade gave old new []
asks_on {R = R} gave old new on =
    let P : R → Type 0 = λ r. ListGrows (gave old.reader) (gave r) [] in record {
      kept = subst P (sym on.reader) (grows_none (gave old.reader));
      silent = on.ended;
      bounded = omega (arith, on.reads);
    }

pub makes_none : {R : Type 0} (gave : R → Option (List StreamEvent)) (lines : LineReader R) → SomeReadsMade gave lines lines
makes_none gave lines = ([], asks_none gave lines)

pub makes_on : {R : Type 0} (gave : R → Option (List StreamEvent)) (old new : LineReader R) → ChunkConsumed old new → SomeReadsMade gave old new
makes_on gave old new on = ([], asks_on gave old new on)

pub makes_more : {R : Type 0} (gave : R → Option (List StreamEvent)) (old mid new : LineReader R) → SomeReadsMade gave old mid → SomeReadsMade gave mid new → SomeReadsMade gave old new
makes_more gave old mid new (reads, a) (more, b) = (reads ++ more, asks_more gave old mid new reads more a b)

pub fails_more : {R : Type 0} (gave : R → Option (List StreamEvent)) (old mid new : LineReader R) → SomeReadsMade gave old mid → LastReadFailed gave mid new → LastReadFailed gave old new
fails_more gave old mid new (reads, a) (more, b, last) =
    (reads ++ more, asks_more gave old mid new reads more a b, λ some. last_after reads more (last some))

-- an answer that does not depend on the earlier reads
pub fails_still : {T R : Type 0} (gave : R → Option (List StreamEvent)) (old mid new : LineReader R) (result : Result T EngineFault) → SomeReadsMade gave old mid
    → IfErr result (λ fault. fault ≡ ReadFailed → LastReadFailed gave mid new) → IfErr result (λ fault. fault ≡ ReadFailed → LastReadFailed gave old new)
fails_still gave old mid new (Ok value) reads fails = fails
fails_still gave old mid new (Err fault) reads fails = λ e. fails_more gave old mid new reads (fails e)
