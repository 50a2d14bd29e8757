use Rattle.std.proofs.Common.{◌-◌, sym, ap, ◌∙◌, ℕ, ◌+◌, arith}
use Rattle.rme_durable_writes.specs.Checksums.{shift_bits}
use Rattle.rme_durable_writes.proofs.Checksums.{shift_more, shift_none}
use Rattle.rme_durable_writes.proofs.crc.shifted.Goals as goal

pub loop-preserved : goal.loop-preserved
loop-preserved c =
    let one = c.shifted_once-crc.ensures in
    let next = c.args.bits - (c.loop.counter + 1) in
    ap (λ (crc : ℕ). shift_bits next crc) one ∙ sym (shift_more (c.args.bits - c.loop.counter) next c.loop.crc (omega (arith, c.loop-test.true))) ∙ c.loop.invariant

pub returns : goal.returns
returns c = sym (shift_none (c.args.bits - c.loop.counter) c.loop.crc (omega (arith, c.loop-test.false))) ∙ c.loop.invariant
