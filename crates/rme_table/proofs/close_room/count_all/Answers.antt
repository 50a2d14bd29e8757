use Rattle.std.proofs.Common.{List, length, ap, ◌∙◌}
use Rattle.rme_program.specs.declared.note.Entry.{Entry}
use Rattle.rme_service_steps.specs.SeatViews.{SeatView}
use Rattle.rme_table.proofs.Entries.{total_next}
use Rattle.rme_table.proofs.close_room.count_all.Goals as goal

pub loop-down-preserved : goal.loop-down-preserved
loop-down-preserved c =
    total_next (λ (down : SeatView). length down.part.entries) c.args.downs.now c.loop-down.down-index c.down-item.result _ _ _ c.loop-down.invariant c.loop-down-test.true c.down-item.is
    (c.len.ensures ∙ ap (λ (es : List Entry). length es) c.entries.ensures) c.in_ok-count.ensures.1
