use Rattle.std.proofs.Common.{◌+◌, ◌∷◌, ◌++◌, decimal, sym, ◌∙◌}
use Rattle.std.proofs.lemmas.Bool.{false≢true}
use Rattle.std.proofs.lemmas.Bool.Decides.{Decides-eqb}
use Rattle.std.proofs.lemmas.List.{take_rest}
use Rattle.std.proofs.lemmas.Slice.Eq.{starts_is}
use Rattle.rme_durable_writes.proofs.Numbers.{behind_label, end_found, digits_found, rest_found}
use Rattle.rme_durable_writes.proofs.Options.{none_some, some_same}
use Rattle.rme_durable_writes.proofs.sum_line.number_behind.Goals as goal

pub returns-then-not-starts_with : goal.returns-then-not-starts_with
returns-then-not-starts_with c n rest small is =
    let starts = starts_is Decides-eqb c.args.bytes.now c.args.label.now c.starts_with.result c.starts_with.ensures.value in
    false≢true (sym c.if-not-starts_with.true ∙ starts.1 (decimal n ++ 44 ∷ rest) is)

pub returns-in_default : goal.returns-in_default
returns-in_default c n rest small is =
    none_some c.memchr.result c.in_default.is (end_found c.args.bytes.now c.args.label.now rest n small is c.memchr.result c.memchr.ensures)

pub returns-in-None : goal.returns-in-None
returns-in-None c n rest small is =
    let end = some_same c.memchr.result c.in-Some.is (end_found c.args.bytes.now c.args.label.now rest n small is c.memchr.result c.memchr.ensures) in
    none_some c.number_of.result c.in-None.is (c.number_of.ensures n small (digits_found c.args.bytes.now c.args.label.now rest n small is c.in-Some.end end))

pub returns-in-Some-number_of : goal.returns-in-Some-number_of
returns-in-Some-number_of c n rest small is =
    let bytes = c.args.bytes.now in
    let label = c.args.label.now in
    let end = some_same c.memchr.result c.in-Some.is (end_found bytes label rest n small is c.memchr.result c.memchr.ensures) in
    record {
      number_is = some_same c.number_of.result c.in-Some-number_of.is (c.number_of.ensures n small (digits_found bytes label rest n small is c.in-Some.end end));
      rest_is = take_rest (behind_label bytes label) (c.in-Some.end + 1) ∙ rest_found bytes label rest n small is c.in-Some.end end;
    }
