use Rattle.std.proofs.Common.{string_bytes, codes}
use Rattle.rme_durable_lookups.specs.StatusTexts.{lock_status_end, named_text, owner_value_text}
use Rattle.rme_line_text.specs.Texts.{cells_text}
use Rattle.rme_line_text.proofs.TextLemmas.{append_five}
use Rattle.rme_durable_lookups.proofs.status.push_lock.Goals as goal

pub returns : goal.returns
returns c =
    let status = c.args.status.now in
    append_five (string_bytes c.args.out.now) _ _ _ _ _ (codes "{\"cells\":[") (cells_text status.cells) (named_text c.args.name.now) (owner_value_text status.owner) (lock_status_end status.sections status.settled)
    c.in_ok-push_str.ensures.bytes c.in_ok-push_cell_values.ensures c.in_ok-push_named.ensures c.in_ok-push_owner_value.ensures c.in_ok-push_lock_status_end.ensures
