use Rattle.std.proofs.Common.{◌≢◌, ◌∙◌, [], Some, rules, sym, ap}
use Rattle.rme_line_io.specs.declared.cut.Cut.TheVariants.{TooLong}
use Rattle.rme_line_io.specs.Cuts.{input_line_of}
use Rattle.rme_wire.specs.Requests.{request_of_line}
use Rattle.rme_wire.specs.Requests.{request_read}
use Rattle.rme_line_check.proofs.JudgeLemmas.{opened, text_read}
use Rattle.rme_line_check.proofs.judge.Judge.of_line.Goals as goal

pub returns-in-Some-Open : goal.returns-in-Some-Open
returns-in-Some-Open c =
    let line = c.args.line.now in
    let short : c.args.cut ≢ TooLong = search rules in
    let read = ap (request_read []) (text_read c.args.cut line short) ∙ ap (λ ns. request_of_line ns line) (sym c.in_ok-names.ensures) ∙ sym c.in_ok-opening.ensures ∙ c.in-Some-Open.is
    ∙ ap Some c.in-Some-Open.field-0-is in opened (input_line_of c.args.cut line) c.in-Some-Open.opening c.of_opening.result read c.of_opening.ensures
