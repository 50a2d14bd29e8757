use Rattle.std.specs.Prelude.{◌≡◌, ◌++◌, length, vec_capacity}
use Rattle.std.specs.Vec.Iter.{into_iter_items, into_iter_len}
use Rattle.rme_table.proofs.closing.all_seats.Given as goal

abbrev pub invariant-loop-down : goal.invariant-loop-down
invariant-loop-down l = (l.seats.items ++ into_iter_items l.down-iterator ≡ into_iter_items l.initial.down-iterator) × (vec_capacity l.seats ≡ vec_capacity l.initial.seats)
    × (into_iter_len l.down-iterator ≡ length (into_iter_items l.down-iterator))
