use Rattle.std.proofs.Common.{◌≡◌, ◌+◌, ◌∷◌, [], ℕ, List, length, sym, ap, subst, ◌∙◌, arith}
use Rattle.std.proofs.lemmas.List.{length-append}
use Rattle.rme_durable_writes.specs.Checksums.{AreRemainders}
use Rattle.rme_durable_writes.proofs.Checksums.{one_more_entry}
use Rattle.rme_durable_writes.proofs.crc.Crc32c.new.Goals as goal

pub loop-entry-preserved : goal.loop-entry-preserved
loop-entry-preserved c =
    let entry = c.loop-entry.entry in
    let table = c.loop-entry.remainders.items in
    let items = (c.in_ok-push.ensures).items in
    let long : length c.push.new.self.items ≡ length table + 1 = ap (λ (l : List ℕ). length l) items ∙ length-append table (c.next_remainder-remainder.result ∷ []) in (
      (c.in_ok-push.ensures).len ∙ ap (λ (n : ℕ). n + 1) c.loop-entry.invariant.0,
      long ∙ ap (λ (n : ℕ). n + 1) c.loop-entry.invariant.1,
      subst (λ (l : List ℕ). AreRemainders l (entry + 1)) (sym items) (one_more_entry table entry c.next_remainder-remainder.result c.loop-entry.invariant.1 c.loop-entry.invariant.2 c.next_remainder-remainder.ensures),
    )

pub invariant_of-result : goal.invariant_of-result
invariant_of-result c =
    let all : c.loop-entry.entry ≡ 2048 = omega (arith, c.loop-entry-test.false, c.loop-entry.auto.entry-end) in
    record {
      long = c.loop-entry.invariant.0 ∙ all;
      remainders_are = λ entry below. c.loop-entry.invariant.2 entry (omega (arith, below, all));
    }
