use Rattle.std.specs.Prelude.{vec_capacity, vec_len}
use Rattle.rme_service_steps.proofs.Gathering.{Joined}
use Rattle.rme_service_steps.proofs.word_table.WordTable.join_all.Given as goal

abbrev pub invariant-loop-seat : goal.invariant-loop-seat
invariant-loop-seat l = Joined l.self l.fn.seats.items l.seats.items l.all.table_id l.all.me l.fn.history.items l.history.items (vec_capacity l.fn.history) (vec_capacity l.history)

abbrev pub decreases-loop-seat : goal.decreases-loop-seat
decreases-loop-seat l = vec_len l.seats
