use Rattle.std.proofs.Common.{[], ◌++◌, refl}
use Rattle.rme_service_steps.proofs.Gathering.{joined_first, joined_next, may_join}
use Rattle.rme_service_steps.proofs.word_table.WordTable.join_seats.Goals as goal

pub loop-seat-init : goal.loop-seat-init
loop-seat-init c =
    (c.in-Some.last.part.entries, joined_first c.args.self.now _ _ c.in-Some.last _ _ [] c.in-Some.last.part.entries 0 0 c.requires.ours c.in-Some.ensures.items c.into_table_seat-all.ensures.table c.into_table_seat-all.ensures.part refl refl)

pub join_seat-requires : goal.join_seat-requires
join_seat-requires c =
    may_join _ _ _ _ c.in-Some-pop.seat _ _ _ _ _ _ _ _ _ _ _ _ _ c.loop-seat.invariant.1 c.in-Some-pop.ensures.items c.into_table_seat-other.ensures.table c.into_table_seat-other.ensures.part c.self.view_is c.self.invariant

pub loop-seat-preserved : goal.loop-seat-preserved
loop-seat-preserved c =
    let seat = c.in-Some-pop.seat in
    let taken = c.loop-seat.invariant.0 in (
      taken ++ seat.part.entries,
      joined_next _ _ _ _ seat _ _ _ _ _ _ taken (taken ++ seat.part.entries) _ _ _ c.loop-seat.invariant.1 c.in-Some-pop.ensures.items c.join_seat.ensures.0 c.into_table_seat-other.ensures.part
          c.join_seat.ensures.2 refl refl,
    )
