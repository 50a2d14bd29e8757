use Rattle.std.proofs.Common.{◌≡◌, ◌<◌, ℕ, get_or, length}
use Rattle.rme_durable_writes.specs.Checksums.{crc_after}
use Rattle.rme_durable_writes.proofs.crc.Crc32c.after.Given as goal

abbrev pub invariant-loop-rest : goal.invariant-loop-rest
invariant-loop-rest l = (crc_after l.crc l.rest ≡ crc_after l.fn.crc l.fn.bytes) × ((place : ℕ) → get_or l.rest place 0 < 256)

abbrev pub decreases-loop-rest : goal.decreases-loop-rest
decreases-loop-rest l = length l.rest
