use Rattle.std.proofs.Common.{codes, string_bytes, decimal, refl, arith}
use Rattle.json.proofs.Printed.Utf8.{IsUtf8-are_ascii}
use Rattle.rme_durable_format.proofs.Separating.{next_separated}
use Rattle.rme_durable_format.proofs.header.push_numbers.Goals as goal

pub loop-number-preserved : goal.loop-number-preserved
loop-number-preserved c = (
  IsUtf8-are_ascii (codes ",") refl,
  next_separated decimal (string_bytes c.args.out.now) c.args.numbers.now (string_bytes c.loop-number.out) c.loop-number.comma.now c.loop-number.number-index 0 (string_bytes c.write.new.self) c.loop-number.invariant.1 (omega arith) c.in_ok-write.ensures.bytes,
)
