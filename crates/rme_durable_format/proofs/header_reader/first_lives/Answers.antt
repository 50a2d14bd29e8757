use Rattle.std.proofs.Common.{◌≡◌, ◌∙◌, ℕ, List, length, subst, sym}
use Rattle.rme_line_json.specs.View.{value_view}
use Rattle.rme_durable_format.specs.Headers.{AreHeaderLives}
use Rattle.rme_durable_format.proofs.OnePast.{counts_same, header_lives}
use Rattle.rme_durable_format.proofs.header_reader.first_lives.Goals as goal

pub returns-in_default : goal.returns-in_default
returns-in_default c = let none = rw c.in_default.is at c.in_ok-numbers.ensures in λ names past tells. absurd (none past.numbers tells.numbers)

pub returns-in_default-2 : goal.returns-in_default-2
returns-in_default-2 c =
    let value = value_view c.args.value.now in
    let numbers = rw c.in-Some.is at c.in_ok-numbers.ensures in
    let none = rw c.in_default-2.is at c.in_ok-lives.ensures in
    λ names past tells.
    let same : c.in-Some.numbers.items ≡ past.numbers = counts_same value c.in-Some.numbers.items past.numbers numbers tells.numbers in
    absurd (none past.lives (subst (λ (counts : List ℕ). AreHeaderLives value (length counts) past.lives) (sym (c.as_slice.ensures.value ∙ same)) tells.lives))

pub returns : goal.returns
returns c =
    let value = value_view c.args.value.now in
    let numbers = rw c.in-Some.is at c.in_ok-numbers.ensures in
    let told = rw c.in-Some-2.is at c.in_ok-lives.ensures in
    λ names past tells.
    header_lives names value past c.in-Some.numbers.items c.in-Some-2.lives.items tells numbers (subst (λ (counts : List ℕ). AreHeaderLives value (length counts) c.in-Some-2.lives.items) c.as_slice.ensures.value told)
