use Rattle.std.proofs.Common.{◌≡◌, ◌-◌, [], length, take}
use Rattle.rme_core_image.specs.Parsing.{parse_op, parse_many}
use Rattle.rme_core_image.proofs.entries.read_operations.Given as goal

abbrev pub invariant-loop-i : goal.invariant-loop-i
invariant-loop-i l = record {
  room : length l.ops ≡ 8;
  so_far : parse_many (λ _. parse_op) (l.count - l.i) (take l.i l.ops) l.rest ≡ parse_many (λ _. parse_op) l.count [] l.bytes;
}
