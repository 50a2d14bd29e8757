use Rattle.std.proofs.Common.{◌≡◌, ◌-◌, [], length}
use Rattle.rme_core_image.specs.Parsing.{parse_word, parse_many}
use Rattle.rme_core_image.proofs.words.read_words.Given as goal

abbrev pub invariant-loop : goal.invariant-loop
invariant-loop l = record {
  counted : length l.words.items ≡ l.counter;
  so_far : parse_many (parse_word l.version l.shape) (l.end - l.counter) l.words.items l.rest ≡ parse_many (parse_word l.version l.shape) l.end [] l.bytes;
}
