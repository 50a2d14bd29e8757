use Rattle.std.proofs.Common.{codes, string_bytes, pos, refl, arith}
use Rattle.std.specs.Fmt.{signed_decimal}
use Rattle.json.proofs.Printed.Utf8.{IsUtf8-are_ascii}
use Rattle.rme_durable_format.proofs.Separating.{next_separated}
use Rattle.rme_durable_format.proofs.header.push_places.Goals as goal

pub loop-place-preserved : goal.loop-place-preserved
loop-place-preserved c = (
  IsUtf8-are_ascii (codes ",") refl,
  next_separated signed_decimal (string_bytes c.args.out.now) c.args.places.now (string_bytes c.loop-place.out) c.loop-place.comma.now c.loop-place.place-index (pos 0) (string_bytes c.write.new.self) c.loop-place.invariant.1 (omega arith) c.in_ok-write.ensures.bytes,
)
