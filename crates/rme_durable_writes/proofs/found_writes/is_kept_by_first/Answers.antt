use Rattle.std.proofs.Common.{◌++◌, List, ℕ, drop, length, sym, ap, ◌∙◌, arith}
use Rattle.std.proofs.lemmas.Bool.{false≢true, lt-ltb, ltb-true}
use Rattle.std.proofs.lemmas.Bool.Decides.{Decides-eqb}
use Rattle.std.proofs.lemmas.Slice.Eq.{starts_is}
use Rattle.rme_durable_writes.specs.Writes.{sum_front}
use Rattle.rme_durable_writes.specs.declared.sum_line.SumFront.{SumFront}
use Rattle.rme_durable_writes.proofs.Options.{none_some, some_same}
use Rattle.rme_durable_writes.proofs.found_writes.is_kept_by_first.Goals as goal

pub returns-in_default : goal.returns-in_default
returns-in_default c = (
  λ no. absurd (false≢true no),
  λ kept. absurd (none_some c.read_front.result c.in_default.is (c.read_front.ensures.all kept.kept kept.own kept.rest kept.kept_small kept.own_small kept.are)),
)

pub returns-then-not-starts_with : goal.returns-then-not-starts_with
returns-then-not-starts_with c = (
  λ no. absurd (false≢true no),
  λ kept.
      let front = some_same c.read_front.result c.in-Some.is (c.read_front.ensures.all kept.kept kept.own kept.rest kept.kept_small kept.own_small kept.are) in
      let text = c.as_slice.ensures.value ∙ (c.in_ok-push_front.ensures) ∙ ap (λ (l : List ℕ). l ++ sum_front c.in-Some.front.kept c.in-Some.front.number) c.new-text.ensures.items ∙ ap (λ (f : SumFront). sum_front f.kept f.number) front in
      let starts = starts_is Decides-eqb c.args.bytes.now c.as_slice.result.now c.starts_with.result c.starts_with.ensures.value in
      absurd (false≢true (sym c.if-not-starts_with.true ∙ starts.1 kept.rest (kept.are ∙ ap (λ (l : List ℕ). l ++ kept.rest) (sym text)))),
)

pub returns : goal.returns
returns c =
    let fits = (c.in-Some.ensures).fits in
    let text = c.as_slice.ensures.value ∙ (c.in_ok-push_front.ensures) ∙ ap (λ (l : List ℕ). l ++ sum_front c.in-Some.front.kept c.in-Some.front.number) c.new-text.ensures.items in
    let starts = starts_is Decides-eqb c.args.bytes.now c.as_slice.result.now c.starts_with.result c.starts_with.ensures.value in
    let behind = drop (length c.as_slice.result.now) c.args.bytes.now in (
      λ is. record {
        kept = c.in-Some.front.kept;
        kept_small = fits.0;
        own = c.in-Some.front.number;
        own_small = fits.1;
        rest = behind;
        are = starts.0 c.if-not-starts_with.false ∙ ap (λ (l : List ℕ). l ++ behind) text;
        later = omega (arith, ltb-true _ _ is);
      },
      λ kept.
          let front = some_same c.read_front.result c.in-Some.is (c.read_front.ensures.all kept.kept kept.own kept.rest kept.kept_small kept.own_small kept.are) in
          let same = ap (λ (f : SumFront). f.kept) front in
          lt-ltb _ _ (omega (arith, same, kept.later)),
    )
