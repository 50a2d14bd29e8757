use Rattle.std.proofs.Common.{ap, sym, ◌∙◌}
use Rattle.rme_words.specs.declared.address.Address.TheVariants.{Place}
use Rattle.rme_service_steps.specs.SeatViews.{ServiceId, SeatView}
use Rattle.rme_service_phases.proofs.Drafted.{seat_small, own_word}
use Rattle.rme_table.proofs.Lasts.{last_withdrawn, last_is}
use Rattle.rme_table.specs.Calls.{last_receipt}
use Rattle.rme_table.proofs.kinds.Ready.last.Goals as goal

pub load_as_reader-requires-clause-address : goal.load_as_reader-requires-clause-address
load_as_reader-requires-clause-address c =
    let ours = ap (λ (x : SeatView). x.ident) c.self.view_is ∙ c.requires.ours ∙ sym c.service.view_is in
    (Place c.self.inside.seat.part.worker, seat_small _ _ _ c.worker.ensures.stood ours, own_word Place _ _ _ _ _ (c.shape.ensures ∙ sym (ap (λ (x : ServiceId). x.shape) c.service.view_is)) c.worker.ensures.worker c.place_at-at.ensures)

pub returns-then-load_as_reader-clause-last : goal.returns-then-load_as_reader-clause-last
returns-then-load_as_reader-clause-last c =
    let ours = ap (λ (x : SeatView). x.ident) c.self.view_is ∙ c.requires.ours ∙ sym c.service.view_is in
    let sees = c.load_as_reader.ensures.sees (Place c.self.inside.seat.part.worker) (seat_small _ _ _ c.worker.ensures.stood ours) (own_word Place _ _ _ _ _ (c.shape.ensures ∙ sym (ap (λ (x : ServiceId). x.shape) c.service.view_is)) c.worker.ensures.worker c.place_at-at.ensures) in
    last_withdrawn c.self.view_is c.service.view_is _ sees c.if-load_as_reader.true

pub returns-clause-last : goal.returns-clause-last
returns-clause-last c =
    let ours = ap (λ (x : SeatView). x.ident) c.self.view_is ∙ c.requires.ours ∙ sym c.service.view_is in
    let sees = c.load_as_reader.ensures.sees (Place c.self.inside.seat.part.worker) (seat_small _ _ _ c.worker.ensures.stood ours) (own_word Place _ _ _ _ _ (c.shape.ensures ∙ sym (ap (λ (x : ServiceId). x.shape) c.service.view_is)) c.worker.ensures.worker c.place_at-at.ensures) in
    last_is c.self.view_is c.service.view_is _ sees _ c.if-load_as_reader.false
    (c.last_receipt.ensures ∙ ap last_receipt c.entries.ensures ∙ ap (λ (x : SeatView). last_receipt x.part.entries) c.load_as_reader.ensures.same)
