use Rattle.std.proofs.Common.{◌≡◌, ◌-◌}
use Rattle.rme_durable_writes.specs.Checksums.{shift_bits}
use Rattle.rme_durable_writes.proofs.crc.shifted.Given as goal

abbrev pub invariant-loop : goal.invariant-loop
invariant-loop l = shift_bits (l.fn.bits - l.counter) l.crc ≡ shift_bits l.fn.bits l.fn.crc
