-- Each Down before this one has a slot.
use Rattle.std.specs.Prelude.{◌≡◌, ◌+◌, length, vec_capacity}
use Rattle.std.specs.Vec.Iter.{into_iter_items, into_iter_len}
use Rattle.rme_service_steps.specs.Closing.{SeatsAreOfService}
use Rattle.rme_session_threads.proofs.slots.fill_slots.Given as goal

abbrev pub invariant-loop-down : goal.invariant-loop-down
invariant-loop-down g l = (length l.slots.items + into_iter_len l.down-iterator ≡ length (into_iter_items l.initial.down-iterator)) × (vec_capacity l.slots ≡ vec_capacity l.initial.slots)
    × (into_iter_len l.down-iterator ≡ length (into_iter_items l.down-iterator)) × SeatsAreOfService g.K.Tag.ident (into_iter_items l.down-iterator)
