-- The items before the next are written.
use Rattle.std.proofs.Common.{string_bytes, drop}
use Rattle.std.specs.Fmt.{signed_decimal}
use denote.Text.{Utf8}
use denote.Shadow.{shadow}
use Rattle.rme_durable_format.proofs.Separating.{HasSeparated}
use Rattle.rme_durable_format.proofs.header.push_places.Given as goal

abbrev pub invariant-loop-place : goal.invariant-loop-place
invariant-loop-place l = shadow (Utf8 l.comma) × HasSeparated signed_decimal (string_bytes l.fn.out) l.places (string_bytes l.out) l.comma (drop l.place-index l.places)
