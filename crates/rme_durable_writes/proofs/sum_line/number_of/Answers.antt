use Rattle.std.proofs.Common.{IsUtf8, decimal, sym, ap, subst, ◌∙◌}
use Rattle.std.proofs.lemmas.Fmt.{IsAscii-decimal, parse-decimal}
use Rattle.std.proofs.lemmas.Str.{IsUtf8-from_ascii}
use Rattle.std.specs.Result.{result_ok}
use Rattle.rme_durable_writes.proofs.sum_line.number_of.Goals as goal

pub returns-in_default : goal.returns-in_default
returns-in_default c n small is =
    let utf8 : IsUtf8 c.args.text.now = subst IsUtf8 (sym is) (IsUtf8-from_ascii (decimal n) (IsAscii-decimal n small)) in
    absurd ((c.in_default.ensures).cases.0 utf8)

pub returns : goal.returns
returns c n small is =
    let parsed = parse-decimal 64 n c.in-Ok.text.now c.parse.result small small ((c.in-Ok.ensures).cases.0 ∙ is) c.parse.ensures.value.0 in
    c.ok.ensures.value ∙ ap result_ok parsed
