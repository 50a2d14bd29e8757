use Rattle.std.specs.Prelude.{◌≡◌, ◌++◌, length, vec_capacity}
use Rattle.std.specs.Vec.Iter.{into_iter_items, into_iter_len}
use Rattle.rme_table.proofs.opening.all_down.Given as goal

abbrev pub invariant-loop-seat : goal.invariant-loop-seat
invariant-loop-seat l = (l.downs.items ++ into_iter_items l.seat-iterator ≡ into_iter_items l.initial.seat-iterator) × (vec_capacity l.downs ≡ vec_capacity l.initial.downs)
    × (into_iter_len l.seat-iterator ≡ length (into_iter_items l.seat-iterator))
