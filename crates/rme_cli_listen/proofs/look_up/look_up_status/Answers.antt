use Rattle.std.proofs.Common.{Some, ap, sym}
use Rattle.std.proofs.lemmas.Option.{IfSome_then}
use Rattle.rme_cli_listen.proofs.StatusLines.{wrote_status}
use Rattle.rme_cli_listen.proofs.look_up.look_up_status.Goals as goal

pub returns-in-Ok : goal.returns-in-Ok
returns-in-Ok g c =
    IfSome_then c.text_of.result c.text_of.ensures (λ text told.
    wrote_status _ _ c.in-Ok.field-0 c.in-Ok.ensures.ok.0 _ _ _ _ _ _ c.in_ok-lines.ensures.bytes
    c.as_bytes.ensures.value (ap Some c.new-answer.ensures.items) (ap Some (sym told))
    c.in-Ok.ensures.ok.1)
