use Rattle.std.proofs.Common.{◌≡◌, ◌∙◌, ℕ, List, length, ap, subst, sym}
use Rattle.rme_line_json.specs.View.{value_view}
use Rattle.rme_durable_format.specs.Headers.{AreHeaderLives}
use Rattle.rme_durable_format.proofs.OnePast.{counts_same}
use Rattle.rme_durable_format.proofs.header_reader.header_of_value.Goals as goal

pub returns-in_default-2 : goal.returns-in_default-2
returns-in_default-2 c = let none = rw c.in_default-2.is at c.in_ok-last.ensures in λ past tells. none past.last tells.last

pub returns-in_default-3 : goal.returns-in_default-3
returns-in_default-3 c = let none = rw c.in_default-3.is at c.in_ok-numbers.ensures in λ past tells. none past.numbers tells.numbers

pub returns-in_default-4 : goal.returns-in_default-4
returns-in_default-4 c =
    let none = rw c.in_default-4.is at c.in_ok-lives.ensures in
    let told = rw c.in-Some-3.is at c.in_ok-numbers.ensures in
    let value = value_view c.args.value.now in
    λ past tells.
    let same : c.in-Some-3.numbers.items ≡ past.numbers = counts_same value c.in-Some-3.numbers.items past.numbers told tells.numbers in
    none past.lives (subst (λ (workers : ℕ). AreHeaderLives value workers past.lives) (ap (λ (counts : List ℕ). length counts) (sym (c.as_slice.ensures.value ∙ same))) tells.lives)

pub returns-in_default-5 : goal.returns-in_default-5
returns-in_default-5 c = let none = rw c.in_default-5.is at c.in_ok-places.ensures in λ past tells. none past.places tells.places
