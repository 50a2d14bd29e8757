-- The place has the parts of all that were taken in, as if their entries were put to a list.
use Rattle.std.specs.Prelude.{List, [], vec_len}
use Rattle.rme_program.specs.declared.note.Entry.{Entry}
use Rattle.rme_service_steps.proofs.Gathering.{Joined}
use Rattle.rme_service_steps.proofs.word_table.WordTable.join_seats.Given as goal

abbrev pub invariant-loop-seat : goal.invariant-loop-seat
invariant-loop-seat l = (taken : List Entry) × Joined l.self l.fn.seats.items l.seats.items l.all.table_id l.all.me [] taken 0 0

abbrev pub decreases-loop-seat : goal.decreases-loop-seat
decreases-loop-seat l = vec_len l.seats
