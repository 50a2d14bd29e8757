use Rattle.std.proofs.Common.{◌≡◌, ℕ, ◌∙◌, sym, ap}
use Rattle.rme_program.specs.declared.note.Receipt.{Receipt}
use Rattle.rme_service_steps.specs.SeatViews.{SeatView}
use Rattle.rme_table.proofs.Entries.{split_last}
use Rattle.rme_table.proofs.Owners.{told_there}
use Rattle.rme_table.proofs.kinds.Held.last_place.Goals as goal

pub unreachable-requires : goal.unreachable-requires
unreachable-requires c = told_there c.self.inside.seat c.args.self.now _ _ _ c.entries.result.now.entries c.self.view_is c.self.invariant c.requires.over c.entries.ensures (sym c.last.ensures ∙ c.in_default.is)

pub returns : goal.returns
returns c =
    let own = c.entries.ensures ∙ ap (λ (x : SeatView). x.part.entries) c.self.view_is in
    let (before, last, all, its) = split_last c.entries.result.now.entries c.in-Some.entry (sym c.last.ensures ∙ c.in-Some.is) in
    (before, last, sym own ∙ all, ap (λ (r : Receipt). r.place) its)
