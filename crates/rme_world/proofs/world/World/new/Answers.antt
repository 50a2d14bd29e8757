use Rattle.std.proofs.Common.{ap}
use Rattle.std.specs.Prelude.{◌-◌, length}
use Rattle.rme_words.specs.Words.{Memory}
use Rattle.rme_world.proofs.Opened.{opening_kept, opened_shown}
use Rattle.rme_world.proofs.world.World.new.Goals as goal

pub invariant_of-result : goal.invariant_of-result
invariant_of-result c = rw (c.in_ok-bank.ensures, c.in_ok-privates.ensures, c.in_ok-counts.ensures, c.new-2.ensures.none) (opening_kept c.args.shape _)

pub returns-clause-shown : goal.returns-clause-shown
returns-clause-shown c =
    opened_shown
    record {
      shape = c.in_ok-bank.bank.shape;
      words = c.in_ok-bank.bank.words;
      privates = c.in_ok-privates.privates.items;
      history = c.new-2.result.entries;
      counts = c.in_ok-counts.counts.items;
      room = c.new-2.result.room - length c.new-2.result.entries;
    }
    c.args.shape (ap (λ (m : Memory). m.shape) c.in_ok-bank.ensures) (ap (λ (m : Memory). m.words) c.in_ok-bank.ensures) c.in_ok-privates.ensures c.new-2.ensures.none
