use Rattle.std.proofs.Common.{arith}
use Rattle.rme_table.proofs.Entries.{all_counted}
use Rattle.rme_table.proofs.close_room.room_for.Goals as goal

pub returns : goal.returns
returns c =
    let counted = all_counted c.args.downs.now in record {
      no_words = c.in_ok-words.ensures.0;
      words = omega (arith, c.in_ok-words.ensures.1, c.words.ensures);
      no_history = c.in_ok-history.ensures.0;
      history = omega (arith, c.in_ok-history.ensures.1, c.in-Some.ensures, counted);
      no_seats = c.in_ok-seats.ensures.0;
      seats = c.in_ok-seats.ensures.1;
      locks = c.in_ok-locks.ensures;
    }
