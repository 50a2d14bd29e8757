use Rattle.std.proofs.Common.{◌≡◌, length, vec_len}
use Rattle.rme_durable_writes.specs.Checksums.{AreRemainders}
use Rattle.rme_durable_writes.proofs.crc.Crc32c.new.Given as goal

abbrev pub invariant-loop-entry : goal.invariant-loop-entry
invariant-loop-entry l = (vec_len l.remainders ≡ l.entry) × (length l.remainders.items ≡ l.entry) × AreRemainders l.remainders.items l.entry
