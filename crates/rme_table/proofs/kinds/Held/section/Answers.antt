use Rattle.std.proofs.Common.{ap, sym, ◌∙◌}
use Rattle.rme_words.specs.declared.shape.Shape.{Shape}
use Rattle.rme_words.specs.declared.address.Address.TheVariants.{Turn}
use Rattle.rme_service_steps.specs.Layout.{position_of_address}
use Rattle.rme_service_steps.specs.SeatViews.{ServiceId, SeatView}
use Rattle.rme_table.proofs.Sectioning.{held_turn, held_within, reads_section}
use Rattle.rme_table.proofs.kinds.Held.section.Goals as goal

pub turn_at-at-requires : goal.turn_at-at-requires
turn_at-at-requires c = held_within c.shape.result c.self.inside.seat _ _ _ c.self.invariant
    (ap (λ (x : SeatView). x.ident.shape) c.self.view_is ∙ ap (λ (x : ServiceId). x.shape) (c.requires.ours ∙ sym c.service.view_is) ∙ sym c.shape.ensures)

pub load_section-requires-clause-inside : goal.load_section-requires-clause-inside
load_section-requires-clause-inside c = held_turn _ c.self.inside.seat _ _ _ _ c.if-not-self.false c.self.invariant
    (ap (λ (x : SeatView). x.ident.shape) c.self.view_is ∙ ap (λ (x : ServiceId). x.shape) (c.requires.ours ∙ sym c.service.view_is))
    (c.turn_at-at.ensures ∙ ap (λ (x : Shape). position_of_address x (Turn c.self.inside.lock)) c.shape.ensures)

pub returns-clause-section : goal.returns-clause-section
returns-clause-section c = reads_section c.args.self.now c.self.inside.seat _ _ _ _ _ c.if-not-self.false c.self.view_is c.self.invariant c.load_section.ensures.known c.load_section.ensures.stood
