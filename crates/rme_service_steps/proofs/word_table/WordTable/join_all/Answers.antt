use Rattle.rme_service_steps.proofs.Gathering.{first_room, joined_first, joined_room, joined_next, may_join}
use Rattle.rme_service_steps.proofs.word_table.WordTable.join_all.Goals as goal

pub give_entries-all-requires : goal.give_entries-all-requires
give_entries-all-requires c = first_room c.args.self.now _ _ c.in-Some.last _ _ c.requires.ours c.in-Some.ensures.items c.requires.room

pub loop-seat-init : goal.loop-seat-init
loop-seat-init c =
    joined_first c.args.self.now _ _ c.in-Some.last _ _ _ _ _ _ c.requires.ours c.in-Some.ensures.items c.give_entries-all.ensures.table c.give_entries-all.ensures.part c.give_entries-all.ensures.entries c.give_entries-all.ensures.room

pub give_entries-other-requires : goal.give_entries-other-requires
give_entries-other-requires c = joined_room _ _ _ _ c.in-Some-pop.seat _ _ _ _ _ _ c.loop-seat.invariant c.in-Some-pop.ensures.items c.requires.room

pub join_seat-requires : goal.join_seat-requires
join_seat-requires c =
    may_join _ _ _ _ c.in-Some-pop.seat _ _ _ _ _ _ _ _ _ _ _ _ _ c.loop-seat.invariant c.in-Some-pop.ensures.items c.give_entries-other.ensures.table c.give_entries-other.ensures.part c.self.view_is c.self.invariant

pub loop-seat-preserved : goal.loop-seat-preserved
loop-seat-preserved c =
    joined_next _ _ _ _ c.in-Some-pop.seat _ _ _ _ _ _ _ _ _ _ _ c.loop-seat.invariant c.in-Some-pop.ensures.items c.join_seat.ensures.0 c.give_entries-other.ensures.part c.join_seat.ensures.2
    c.give_entries-other.ensures.entries c.give_entries-other.ensures.room
