use Rattle.std.proofs.Common.{◌≡◌, ◌-◌, []}
use Rattle.rme_core_image.specs.Parsing.{parse_entry, parse_many}
use Rattle.rme_core_image.proofs.entries.read_some.Given as goal

abbrev pub invariant-loop : goal.invariant-loop
invariant-loop l = parse_many (λ _. parse_entry) (l.count - l.counter) l.entries.entries l.rest ≡ parse_many (λ _. parse_entry) l.count [] l.bytes
