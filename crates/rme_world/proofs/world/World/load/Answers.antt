use Rattle.std.proofs.Common.{sym, ◌∙◌, arith}
use Rattle.std.proofs.lemmas.Bool.{false≢true}
use Rattle.rme_world.proofs.Saving.{bad_image, good_image, restored_kept}
use Rattle.rme_world.proofs.world.World.load.Goals as goal

pub returns-in-Ok-false : goal.returns-in-Ok-false
returns-in-Ok-false c =
    bad_image c.args.image.now c.in_ok-parsed.parsed.shape c.in_ok-parsed.parsed.words.items c.in_ok-parsed.parsed.entries.entries
    (λ version other others more is spells. (let same = (c.in_ok-parsed.ensures.only version other others more is spells).0 in (same.1, same.2, same.3)))
    (λ good. false≢true (sym c.in-Ok-false.field-0-test ∙ c.in-Ok-false.ensures.1 (rw c.of-bank.ensures good)))

pub invariant_of-result : goal.invariant_of-result
invariant_of-result c =
    let good = rw c.of-bank.ensures at (c.in-Ok-true.ensures.0 c.in-Ok-true.field-0-test) in
    rw (c.of-bank.ensures, c.in-Ok-all_down.ensures, c.in-Ok-no_counts.ensures, c.reserve.ensures.entries)
    (restored_kept c.in_ok-parsed.parsed.shape c.in_ok-parsed.parsed.words.items c.in_ok-parsed.parsed.entries.entries _ good (omega (arith, c.in-Ok.ensures.made)))

pub returns : goal.returns
returns c =
    let good = rw c.of-bank.ensures at (c.in-Ok-true.ensures.0 c.in-Ok-true.field-0-test) in
    rw (c.of-bank.ensures, c.in-Ok-all_down.ensures, c.in-Ok-no_counts.ensures, c.reserve.ensures.entries)
    (good_image c.args.image.now c.in_ok-parsed.parsed.version c.in_ok-parsed.parsed.shape c.in_ok-parsed.parsed.words.items c.in_ok-parsed.parsed.entries.entries _
    c.in_ok-parsed.ensures.found.0 c.in_ok-parsed.ensures.found.1
    (λ version other others more is spells. (let same = (c.in_ok-parsed.ensures.only version other others more is spells).0 in (same.1, same.2, same.3)))
    good (omega (arith, c.in-Ok.ensures.made)))
