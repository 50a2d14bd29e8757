use Rattle.std.proofs.Common.{ap, ◌∙◌}
use Rattle.rme_wire.specs.Openings.{are_lock_names}
use Rattle.rme_space_orders.proofs.Copies.{same_bytes}
use Rattle.rme_space_orders.proofs.new_space.are_lock_names.Goals as goal

pub returns : goal.returns
returns c =
    let given = c.of.ensures ∙ same_bytes c.args.texts.now c.in_ok-copies.copies.items c.in_ok-copies.ensures.items in
    c.are_names-2.ensures.result ∙ ap are_lock_names given
