use Rattle.std.proofs.Common.{◌≡◌, ◌-◌, List, ℕ, Some, length, take, drop, ◌++◌, refl, subst, sym, ap, ◌∙◌}
use Rattle.std.proofs.lemmas.Bool.{false≢true}
use Rattle.std.proofs.lemmas.Bool.Decides.{Decides-eqb}
use Rattle.std.proofs.lemmas.List.{take_rest}
use Rattle.std.proofs.Math.Seq.{drop-append_seam}
use Rattle.std.proofs.lemmas.Slice.Eq.{starts_is}
use Rattle.memchr.specs.Find.{FindsNeedle}
use Rattle.rme_durable_writes.specs.Writes.{AreWriteLines, write_text}
use Rattle.rme_durable_writes.specs.declared.sum_line.SumFront.{SumFront}
use Rattle.rme_durable_writes.proofs.Firsts.{are_write_lines, behind_front, line_there, mark_there, parts_there, write_there}
use Rattle.rme_durable_writes.proofs.Options.{none_some, some_same}
use Rattle.rme_durable_writes.proofs.found_writes.WriteFinder.first_write.Goals as goal

pub returns-in_default-clause-all : goal.returns-in_default-clause-all
returns-in_default-clause-all c number write rest small is are =
    none_some c.find.result c.in_default.is (mark_there c.args.bytes.now rest number write is are _ c.args.self.now.codec.marks_are c.find.result c.find.ensures)

pub returns-in_default-read_front-clause-all : goal.returns-in_default-read_front-clause-all
returns-in_default-read_front-clause-all c number write rest small is are =
    let parts = parts_there c.args.bytes.now rest number write is are _ c.args.self.now.codec.marks_are c.find.result c.find.ensures c.in-Some.at c.in-Some.is _ _ c.split_at.ensures.front c.split_at.ensures.back in
    none_some c.read_front.result c.in_default-read_front.is (c.read_front.ensures.all write.kept number (behind_front number write rest) is.kept small parts.front_is)

pub returns-then-not-starts_with-clause-all : goal.returns-then-not-starts_with-clause-all
returns-then-not-starts_with-clause-all c number write rest small is are =
    let parts = parts_there c.args.bytes.now rest number write is are _ c.args.self.now.codec.marks_are c.find.result c.find.ensures c.in-Some.at c.in-Some.is _ _ c.split_at.ensures.front c.split_at.ensures.back in
    let front = some_same c.read_front.result c.in-Some-read_front.is (c.read_front.ensures.all write.kept number (behind_front number write rest) is.kept small parts.front_is) in
    let tail = line_there number write rest _ _ c.as_slice.result.now c.in-Some-read_front.front parts front (c.as_slice.ensures.value ∙ c.in_ok-line.ensures) in
    let starts = starts_is Decides-eqb c.split_at.result.1.now c.as_slice.result.now c.starts_with.result c.starts_with.ensures.value in
    false≢true (sym c.if-not-starts_with.true ∙ starts.1 rest tail)

pub returns-clause-is : goal.returns-clause-is
returns-clause-is c =
    let bytes = c.args.bytes.now in
    let tail = c.split_at.result.1.now in
    let line = c.as_slice.result.now in
    let front = c.in-Some-read_front.front in
    let fits = (c.in-Some-read_front.ensures).fits in
    let starts = starts_is Decides-eqb tail line c.starts_with.result c.starts_with.ensures.value in
    let begins = starts.0 c.if-not-starts_with.false in
    let long : c.len.result ≡ length line = c.len.ensures ∙ sym c.as_slice.ensures.len in
    let rest : take (length tail - c.len.result) (drop c.len.result tail) ≡ drop (length line) tail = take_rest tail c.len.result ∙ ap (λ (n : ℕ). drop n tail) long in
    let finds = subst (λ (mark : List ℕ). FindsNeedle bytes mark 0 (Some c.in-Some.at)) c.args.self.now.codec.marks_are c.in-Some.ensures in
    record {
      number_is = refl;
      are = write_there bytes c.split_at.result.0.now tail line c.in-Some.at front.kept front.number c.split_at.ensures.front c.split_at.ensures.back (c.as_slice.ensures.value ∙ c.in_ok-line.ensures) begins
          ∙ ap (λ (l : List ℕ). write_text front.number (record { kept = front.kept; lines = c.split_at.result.0.now }) ++ l) (sym rest);
      small = fits.1;
      is = record {
        lines = subst AreWriteLines (sym c.split_at.ensures.front) (are_write_lines bytes c.in-Some.at finds);
        kept = fits.0;
      };
    }

pub returns-clause-all : goal.returns-clause-all
returns-clause-all c number write rest small is are =
    let parts = parts_there c.args.bytes.now rest number write is are _ c.args.self.now.codec.marks_are c.find.result c.find.ensures c.in-Some.at c.in-Some.is _ _ c.split_at.ensures.front c.split_at.ensures.back in
    let front = some_same c.read_front.result c.in-Some-read_front.is (c.read_front.ensures.all write.kept number (behind_front number write rest) is.kept small parts.front_is) in
    let line = c.as_slice.result.now in
    let tail = line_there number write rest _ _ line c.in-Some-read_front.front parts front (c.as_slice.ensures.value ∙ c.in_ok-line.ensures) in
    record {
      number_is = ap (λ (f : SumFront). f.number) front;
      kept_is = ap (λ (f : SumFront). f.kept) front;
      lines_are = parts.lines_are;
      rest_is = take_rest c.split_at.result.1.now c.len.result ∙ ap (λ (n : ℕ). drop n c.split_at.result.1.now) (c.len.ensures ∙ sym c.as_slice.ensures.len)
          ∙ ap (λ (l : List ℕ). drop (length line) l) tail ∙ drop-append_seam line rest;
    }
