-- A write continues where the last one stopped, and an interrupted write changed nothing.
use Rattle.std.proofs.Common.{◌≡◌, ◌≢◌, ℕ, [], ◌∷◌, Result, Err, subst, ◌+◌, ◌-◌, ◌≤◌, List, length, take, drop, Option, arith, length-drop, refl}
use Rattle.std.proofs.KnownBytes.{Appends-trans, Appends-kept, Appends-nil}
use Rattle.std.proofs.lemmas.List.{take_rest}
use Rattle.std.proofs.lemmas.Result.{IfOk-at_ok}
use Rattle.std.proofs.Math.Seq.{take-add}
use Rattle.std.specs.IoError.{error_kind}
use Rattle.std.specs.declared.io.Error.{Error}
use Rattle.std.specs.declared.io.ErrorKind.TheVariants.{Interrupted}
use Rattle.std.specs.Io.KnownBytes.{Appends}
use Rattle.rme_line_io.specs.StreamEvents.{ListGrows, broke, interrupted, write_event}
use Rattle.rme_line_io.proofs.TrafficLemmas.{wrote_all, wrote_broke, wrote_more, wrote_none, wrote_nothing, wrote_one, wrote_some}
use Rattle.rme_line_io.proofs.put.put_all.Goals as goal
use Rattle.rme_line_io.proofs.put.put_all.Goals.{in-Ok, in-Err}

goes_on : (before mid after : Option (List ℕ)) (bytes : List ℕ) (at n : ℕ) → Appends before mid (take at bytes)
    → Appends mid after (take n (take (length bytes - at) (drop at bytes))) → Appends before after (take (at + n) bytes)
goes_on before mid after bytes at n written more =
    let more = rw (take_rest bytes at) at more in rw (take-add at n bytes) (Appends-trans before mid after _ _ written more)

stays_within : (bytes : List ℕ) (at n : ℕ) → at ≤ length bytes → n ≤ length (take (length bytes - at) (drop at bytes)) → at + n ≤ length bytes
stays_within bytes at n within more = let more = rw (take_rest bytes at) at more in omega (arith, length-drop at bytes)

-- the second arm for an error has the error that the first arm's guard tested
same_failure : {r : Result ℕ Error} (tested failed : Error) → r ≡ Err tested → r ≡ Err failed → error_kind tested ≢ Interrupted
    → error_kind failed ≢ Interrupted
same_failure tested failed first again not =
    let P : Error → Type 0 = λ error. error_kind error ≢ Interrupted in
    let same : tested ≡ failed = cc in subst P same not

pub loop-init : goal.loop-init
loop-init g c = record { within = omega arith; written = Appends-nil _; wrote = wrote_none (g.W.Sink.took c.args.writer.now) }

pub loop-preserved : goal.loop-preserved
loop-preserved g c =
    let took = g.W.Sink.took in
    elim c.match-write_some.branch [
      | in-Ok w ↦
          rw w.at-is record {
            within = stays_within c.args.bytes.now _ _ c.loop.invariant.within w.in-Ok.ensures.bound;
            written = goes_on _ _ _ c.args.bytes.now _ _ c.loop.invariant.written w.in-Ok.ensures.bytes;
            wrote = wrote_one (took c.args.writer.now) (took c.loop.writer) (took c.write_some.new.self) c.loop.counter _ c.loop.invariant.wrote w.in-Ok.ensures.moved;
          }
      | in-Err w ↦
          rw w.at-is record {
            within = c.loop.invariant.within;
            written = Appends-kept _ _ _ _ c.loop.invariant.written w.in-Err.ensures.bytes;
            wrote = wrote_one (took c.args.writer.now) (took c.loop.writer) (took c.write_some.new.self) c.loop.counter interrupted c.loop.invariant.wrote (w.in-Err.ensures.interrupted (w.if-is_interrupted.ensures.yes refl));
          }
    ]

pub returns-then-at-bytes-clause-writes : goal.returns-then-at-bytes-clause-writes
returns-then-at-bytes-clause-writes g c = wrote_some (g.W.Sink.took c.args.writer.now) (g.W.Sink.took c.loop.writer) c.loop.counter c.loop.invariant.wrote

pub returns-in-Ok-eq0-clause-writes : goal.returns-in-Ok-eq0-clause-writes
returns-in-Ok-eq0-clause-writes g c =
    let took = g.W.Sink.took in
    let moved = IfOk-at_ok (λ count. ListGrows (took c.loop.writer) (took c.write_some.new.self) (write_event count _ ∷ [])) c.in-Ok-eq0.is c.write_some.ensures.moved in
    wrote_more (took c.args.writer.now) (took c.loop.writer) (took c.write_some.new.self) c.loop.counter _ c.loop.invariant.wrote moved

pub returns-in-Ok-eq0-clause-broke : goal.returns-in-Ok-eq0-clause-broke
returns-in-Ok-eq0-clause-broke g c =
    let took = g.W.Sink.took in
    let moved = IfOk-at_ok (λ count. ListGrows (took c.loop.writer) (took c.write_some.new.self) (write_event count _ ∷ [])) c.in-Ok-eq0.is c.write_some.ensures.moved in
    wrote_nothing (took c.args.writer.now) (took c.loop.writer) (took c.write_some.new.self) c.loop.counter c.in-Ok-eq0.field-0 _ c.loop.invariant.wrote c.in-Ok-eq0.field-0-test moved

pub returns-in-Err-2-clause-writes : goal.returns-in-Err-2-clause-writes
returns-in-Err-2-clause-writes g c =
    let took = g.W.Sink.took in
    let failed = c.in-Err-2.ensures.broke (same_failure _ _ c.in-Err.is c.in-Err-2.is (c.if-is_interrupted.ensures.no refl)) in wrote_more (took c.args.writer.now) (took c.loop.writer) (took c.write_some.new.self) c.loop.counter broke c.loop.invariant.wrote failed

pub returns-in-Err-2-clause-broke : goal.returns-in-Err-2-clause-broke
returns-in-Err-2-clause-broke g c =
    let took = g.W.Sink.took in
    let failed = c.in-Err-2.ensures.broke (same_failure _ _ c.in-Err.is c.in-Err-2.is (c.if-is_interrupted.ensures.no refl)) in wrote_broke (took c.args.writer.now) (took c.loop.writer) (took c.write_some.new.self) c.loop.counter c.loop.invariant.wrote failed

pub returns-clause-writes : goal.returns-clause-writes
returns-clause-writes g c = wrote_some (g.W.Sink.took c.args.writer.now) (g.W.Sink.took c.loop.writer) c.loop.counter c.loop.invariant.wrote

pub returns-clause-broke : goal.returns-clause-broke
returns-clause-broke g c = wrote_all (g.W.Sink.took c.args.writer.now) (g.W.Sink.took c.loop.writer) c.loop.counter c.loop.invariant.wrote c.loop-test.false
