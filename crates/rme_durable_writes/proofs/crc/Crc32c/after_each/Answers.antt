use Rattle.std.proofs.Common.{◌/◌, ◌%◌, ℕ, List, get_or, sym, ap, ◌∙◌, arith}
use Rattle.std.specs.Int.Bits.{bit_xor}
use Rattle.std.proofs.lemmas.List.{take_all}
use Rattle.std.proofs.lemmas.List.Sums.{fold_more}
use Rattle.rme_durable_writes.specs.Checksums.{crc_after, next_crc, shift_bits}
use Rattle.rme_durable_writes.proofs.Checksums.{byte_step}
use Rattle.rme_durable_writes.proofs.crc.Crc32c.after_each.Goals as goal

pub loop-byte-preserved : goal.loop-byte-preserved
loop-byte-preserved c =
    let crc = c.loop-byte.crc in
    let place = c.loop-byte.byte-index in
    let bytes = c.args.bytes.now in
    let byte = get_or bytes place 0 in
    let low = c.remainder.ensures ∙ ap (λ (b : ℕ). shift_bits 8 (bit_xor crc b % 256)) c.from.ensures in
    ap (λ (n : ℕ). bit_xor n (crc / 256)) low ∙ sym (byte_step crc byte (omega (arith, c.type_inv.bytes place))) ∙ ap (λ (k : ℕ). next_crc k byte) c.loop-byte.invariant
    ∙ sym (fold_more next_crc c.args.crc bytes place 0 c.loop-byte-test.true)

pub returns : goal.returns
returns c = c.loop-byte.invariant ∙ ap (λ (bytes : List ℕ). crc_after c.args.crc bytes) (take_all c.loop-byte.byte-index c.args.bytes.now c.loop-byte-test.false)
