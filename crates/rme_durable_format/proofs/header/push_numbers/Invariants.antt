-- The items before the next are written.
use Rattle.std.proofs.Common.{string_bytes, drop, decimal}
use denote.Text.{Utf8}
use denote.Shadow.{shadow}
use Rattle.rme_durable_format.proofs.Separating.{HasSeparated}
use Rattle.rme_durable_format.proofs.header.push_numbers.Given as goal

abbrev pub invariant-loop-number : goal.invariant-loop-number
invariant-loop-number l = shadow (Utf8 l.comma) × HasSeparated decimal (string_bytes l.fn.out) l.numbers (string_bytes l.out) l.comma (drop l.number-index l.numbers)
