-- The slots before this one were emptied, and their Downs are in order.
use Rattle.std.specs.Prelude.{◌≡◌, ◌+◌, ◌≤◌, length, vec_capacity}
use Rattle.std.specs.Vec.Iter.{into_iter_items, into_iter_len}
use Rattle.rme_session_threads.specs.WorkerSlots.{AreDownsInOrder}
use Rattle.rme_session_threads.proofs.slots.gather_downs.Given as goal

abbrev pub invariant-loop-slot : goal.invariant-loop-slot
invariant-loop-slot g l = (l.worker + into_iter_len l.slot-iterator ≡ length (into_iter_items l.initial.slot-iterator)) × (into_iter_len l.slot-iterator ≡ length (into_iter_items l.slot-iterator))
    × (vec_capacity l.downs ≡ vec_capacity l.initial.downs) × (length l.downs.items ≤ l.worker) × AreDownsInOrder g.K.Tag.ident l.worker l.downs.items
