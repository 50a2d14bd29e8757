use Rattle.std.proofs.Common.{◌≡◌, List, length, refl, sym, ◌∙◌, ap, subst, ℕ, arith}
use Rattle.rme_words.specs.declared.shape.Shape.{Shape}
use Rattle.rme_words.specs.Words.{Memory, word_count}
use Rattle.rme_program.specs.declared.note.Entry.{Entry}
use Rattle.rme_service_steps.specs.SeatViews.{ServiceId, SeatView}
use Rattle.rme_service_steps.specs.Closing.{ServiceIsGathered}
use Rattle.rme_table.proofs.Mixed.{some_given}
use Rattle.rme_table.proofs.Closes.{gathered_long, still_room, still_only, closes}
use Rattle.rme_table.proofs.service.Service.close_into.Goals as goal

pub gather-words-requires-clause-some_seat : goal.gather-words-requires-clause-some_seat
gather-words-requires-clause-some_seat c =
    let some = some_given c.args.self.shape c.args.downs.items c.requires.given in
    let same = ap (λ (xs : List SeatView). length xs) c.all_seats.ensures in
    omega (arith, some, same)

-- The gathered parts, by the service and the given workers.
gathered : (one two : ServiceId) (seats downs : List SeatView) (before after : List ℕ) (old new : List Entry) → one ≡ two → seats ≡ downs
    → ServiceIsGathered one.shape seats before old after new → ServiceIsGathered two.shape downs before old after new
gathered one two seats downs before after old new idents same g =
    subst (λ (x : ServiceId). ServiceIsGathered x.shape downs before old after new) idents (subst (λ (xs : List SeatView). ServiceIsGathered one.shape xs before old after new) same g)

pub of-requires : goal.of-requires
of-requires c =
    let g = gathered c.self.inside.words c.args.self _ _ _ _ _ _ c.self.view_is c.all_seats.ensures c.gather-words.ensures in
    gathered_long c.args.self.shape c.args.downs.items _ _ _ _ g c.requires.room.no_words ∙ sym (ap (λ (s : Shape). word_count s) c.shape-shape.ensures)

pub fill_locks-requires-clause-room : goal.fill_locks-requires-clause-room
fill_locks-requires-clause-room c =
    let g = gathered c.self.inside.words c.args.self _ _ _ _ _ _ c.self.view_is c.all_seats.ensures c.gather-words.ensures in
    still_room c.args.self.shape c.args.downs.items _ _ _ _ c.by_place-entries.result.items g c.requires.room.no_words c.requires.room.no_history c.requires.given
    c.by_place-entries.ensures.permutation c.by_place-entries.ensures.order c.of.result c.by_place-entries.result.items c.args.room.locks.items
    (ap (λ (m : Memory). m.shape) c.of.ensures ∙ c.shape-shape.ensures) refl c.requires.room.locks

pub fill_locks-requires-clause-only : goal.fill_locks-requires-clause-only
fill_locks-requires-clause-only c =
    let g = gathered c.self.inside.words c.args.self _ _ _ _ _ _ c.self.view_is c.all_seats.ensures c.gather-words.ensures in
    still_only c.args.self.shape c.args.downs.items _ _ _ _ c.by_place-entries.result.items g c.requires.room.no_words c.requires.room.no_history c.requires.given
    c.by_place-entries.ensures.permutation c.by_place-entries.ensures.order c.of.result c.by_place-entries.result.items (ap (λ (m : Memory). m.shape) c.of.ensures ∙ c.shape-shape.ensures) refl

pub returns : goal.returns
returns c =
    let g = gathered c.self.inside.words c.args.self _ _ _ _ _ _ c.self.view_is c.all_seats.ensures c.gather-words.ensures in
    closes c.args.self.shape c.args.downs.items _ _ _ _ c.by_place-entries.result.items g c.requires.room.no_words c.requires.room.no_history c.requires.given
    c.by_place-entries.ensures.permutation c.by_place-entries.ensures.order c.of.result c.by_place-entries.result.items c.fill_locks-2.result.items
    (c.of.ensures ∙ ap {B = Memory} (λ (s : Shape). record { shape = s; words = c.gather-words.result.0.items }) c.shape-shape.ensures) refl c.fill_locks-2.ensures.count c.fill_locks-2.ensures.filled
