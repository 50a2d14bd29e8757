use Rattle.std.proofs.Common.{◌∙◌, ◌++◌, ap}
use Rattle.std.specs.Slots.{slots_items}
use Rattle.rme_service_steps.specs.Layout.{words_of_table}
use Rattle.rme_service_steps.specs.SeatViews.{ServiceId}
use Rattle.rme_service_steps.proofs.Gathering.{gathers}
use Rattle.rme_service_steps.proofs.word_table.WordTable.gather.Goals as goal

pub returns : goal.returns
returns c =
    gathers c.args.self _ c.args.seats.items _ _ _ _ _ _ _ _ c.close_with-closed.ensures.values.2 (c.self.invariant.key ∙ ap (λ (x : ServiceId). x.shape) c.self.view_is) c.join_all-seat.ensures.parts
    (c.with_bank-words.ensures ∙ ap (λ (x : ServiceId). c.args.words.items ++ words_of_table x.shape (slots_items c.close_with-closed.result.words)) c.self.view_is) c.join_all-seat.ensures.entries
