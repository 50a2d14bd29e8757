use Rattle.std.proofs.Common.{◌≡◌, ℕ, List, [], length, sym, ◌∙◌, ap, subst, arith}
use Rattle.rme_words.specs.declared.shape.Shape.{Shape}
use Rattle.rme_words.specs.Words.{Memory, word_count}
use Rattle.rme_service_steps.specs.SeatViews.{ServiceId, SeatView}
use Rattle.rme_service_steps.specs.Closing.{ServiceIsGathered, entries_given}
use Rattle.rme_table.proofs.Mixed.{some_given}
use Rattle.rme_table.proofs.Closes.{gathered_long}
use Rattle.rme_table.proofs.Counts.{counts}
use Rattle.rme_table.proofs.service.Service.count_into.Goals as goal

pub gather_words-words-requires-clause-some_seat : goal.gather_words-words-requires-clause-some_seat
gather_words-words-requires-clause-some_seat c =
    let some = some_given c.args.self.shape c.args.downs.items c.requires.given in
    let same = ap (λ (xs : List SeatView). length xs) c.all_seats.ensures in
    omega (arith, some, same)

-- The gathered parts, by the service and the given workers.
gathered : (one two : ServiceId) (seats downs : List SeatView) (before after : List ℕ) → one ≡ two → seats ≡ downs → ServiceIsGathered one.shape seats before [] after (entries_given seats)
    → ServiceIsGathered two.shape downs before [] after (entries_given downs)
gathered one two seats downs before after idents same g =
    let P : ServiceId → List SeatView → Type 0 = λ (x : ServiceId) (xs : List SeatView). ServiceIsGathered x.shape xs before [] after (entries_given xs) in
    subst (λ (x : ServiceId). P x downs) idents (subst (λ (xs : List SeatView). P one xs) same g)

pub of-requires : goal.of-requires
of-requires c =
    let g = gathered c.self.inside.words c.args.self _ _ _ _ c.self.view_is c.all_seats.ensures c.gather_words-words.ensures in
    gathered_long c.args.self.shape c.args.downs.items _ _ _ _ g c.room.invariant.no_words ∙ sym (ap (λ (s : Shape). word_count s) c.shape-shape.ensures)

pub returns : goal.returns
returns c =
    let g = gathered c.self.inside.words c.args.self _ _ _ _ c.self.view_is c.all_seats.ensures c.gather_words-words.ensures in
    counts c.args.self.shape c.args.downs.items _ _ g c.room.invariant.no_words c.requires.given c.of.result c.count_locks-2.result.items
    (c.of.ensures ∙ ap {B = Memory} (λ (s : Shape). record { shape = s; words = c.gather_words-words.result.items }) c.shape-shape.ensures) c.count_locks-2.ensures.count c.count_locks-2.ensures.counted
