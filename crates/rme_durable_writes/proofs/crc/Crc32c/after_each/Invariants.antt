use Rattle.std.proofs.Common.{◌≡◌, take}
use Rattle.rme_durable_writes.specs.Checksums.{crc_after}
use Rattle.rme_durable_writes.proofs.crc.Crc32c.after_each.Given as goal

abbrev pub invariant-loop-byte : goal.invariant-loop-byte
invariant-loop-byte l = l.crc ≡ crc_after l.fn.crc (take l.byte-index l.bytes)
