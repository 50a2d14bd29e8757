use Rattle.std.proofs.Common.{◌≡◌, ◌+◌, ◌-◌, ◌/◌, ◌%◌, ◌<◌, ℕ, List, length, take, drop, get_or, refl, sym, ap, subst, ◌∙◌, arith}
use Rattle.std.specs.Int.Bits.{bit_xor}
use Rattle.std.proofs.lemmas.List.{get_or-drop, take_rest}
use Rattle.rme_durable_writes.specs.Checksums.{crc_after, shift_bits}
use Rattle.rme_durable_writes.proofs.Checksums.{AreNextEight, eight_more}
use Rattle.rme_durable_writes.proofs.crc.Crc32c.after.Goals as goal

pub loop-rest-init : goal.loop-rest-init
loop-rest-init c = (refl, λ place. omega (arith, c.type_inv.bytes place))

pub loop-rest-preserved : goal.loop-rest-preserved
loop-rest-preserved c =
    let crc = c.loop-rest.crc in
    let rest = c.loop-rest.rest.now in
    let tail : take (length rest - 8) (drop 8 rest) ≡ drop 8 rest = take_rest rest 8 in
    let eight : AreNextEight crc rest c.remainder-in-len8-up-4.result c.remainder-in-len8-up-5.result c.remainder-in-len8-up-6.result c.remainder-in-len8-up-7.result
    c.remainder.result c.remainder-in-len8-up.result c.remainder-in-len8-up-2.result c.remainder-in-len8-up-3.result = record {
      first = c.remainder-in-len8-up-4.ensures ∙ ap (λ (byte : ℕ). shift_bits 64 (bit_xor crc byte % 256)) c.from-in-len8-up-4.ensures;
      second = c.remainder-in-len8-up-5.ensures ∙ ap (λ (byte : ℕ). shift_bits 56 (bit_xor (crc / 256) byte % 256)) c.from-in-len8-up-5.ensures;
      third = c.remainder-in-len8-up-6.ensures ∙ ap (λ (byte : ℕ). shift_bits 48 (bit_xor (crc / 65536) byte % 256)) c.from-in-len8-up-6.ensures;
      fourth = c.remainder-in-len8-up-7.ensures ∙ ap (λ (byte : ℕ). shift_bits 40 (bit_xor (crc / 16777216) byte % 256)) c.from-in-len8-up-7.ensures;
      fifth = c.remainder.ensures ∙ ap (λ (byte : ℕ). shift_bits 32 (byte % 256)) c.from.ensures;
      sixth = c.remainder-in-len8-up.ensures ∙ ap (λ (byte : ℕ). shift_bits 24 (byte % 256)) c.from-in-len8-up.ensures;
      seventh = c.remainder-in-len8-up-2.ensures ∙ ap (λ (byte : ℕ). shift_bits 16 (byte % 256)) c.from-in-len8-up-2.ensures;
      eighth = c.remainder-in-len8-up-3.ensures ∙ ap (λ (byte : ℕ). shift_bits 8 (byte % 256)) c.from-in-len8-up-3.ensures;
    } in
    let end = bit_xor c.remainder.result (bit_xor c.remainder-in-len8-up.result (bit_xor c.remainder-in-len8-up-2.result c.remainder-in-len8-up-3.result)) in
    let next = bit_xor c.remainder-in-len8-up-4.result (bit_xor c.remainder-in-len8-up-5.result (bit_xor c.remainder-in-len8-up-6.result (bit_xor c.remainder-in-len8-up-7.result end))) in
    let more = eight_more crc rest c.in-len8-up.len_at_least (omega (arith, c.loop-rest.auto.crc-fits)) c.loop-rest.invariant.1 _ _ _ _ _ _ _ _ eight in (
      ap (λ (bytes : List ℕ). crc_after next bytes) tail ∙ more ∙ c.loop-rest.invariant.0,
      λ place. subst (λ (byte : ℕ). byte < 256) (sym (ap (λ (bytes : List ℕ). get_or bytes place 0) tail ∙ get_or-drop 8 rest place 0)) (c.loop-rest.invariant.1 (8 + place)),
    )

pub returns : goal.returns
returns c = c.after_each.ensures ∙ c.loop-rest.invariant.0
