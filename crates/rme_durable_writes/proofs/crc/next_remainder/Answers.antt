use Rattle.std.proofs.Common.{◌≡◌, ◌+◌, ◌-◌, ℕ, ap, ◌∙◌, arith, rules}
use Rattle.rme_durable_writes.specs.Checksums.{remainder_at, shift_bits}
use Rattle.rme_durable_writes.proofs.Checksums.{entry_behind, first_entry}
use Rattle.rme_durable_writes.proofs.crc.next_remainder.Goals as goal

pub returns-then-entry-lt-BYTES : goal.returns-then-entry-lt-BYTES
returns-then-entry-lt-BYTES c = c.shifted.ensures ∙ first_entry c.args.entry (omega (arith, c.if-entry-lt-BYTES.true))

pub returns : goal.returns
returns c =
    let earlier = c.args.entry - 256 in
    let before = c.requires.are earlier (omega (arith, c.if-entry-lt-BYTES.false)) in
    c.shifted-2.ensures ∙ ap (λ (n : ℕ). shift_bits 8 n) before ∙ entry_behind c.args.entry earlier (omega (arith, c.if-entry-lt-BYTES.false))
