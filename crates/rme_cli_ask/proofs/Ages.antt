-- Two digits of a number below 100, and the units of a time.
use Rattle.std.proofs.Common.{◌≡◌, ℕ, ◌-◌, ◌/◌, ◌%◌, ◌<◌, ◌≤◌, ◌^◌, [], ◌∷◌, ◌++◌, true, false, nat_lt, refl, arith, inl, inr}
use Rattle.std.specs.Prelude.{decimal}
use Rattle.std.specs.Fmt.{padded_integral, format_spec, char_count}
use Rattle.std.proofs.lemmas.Fmt.{decimal_digit, decimal_step}
use Rattle.std.proofs.lemmas.Bool.{cases_lt, lt-ltb, le-ltb}
use Rattle.rme_cli_ask.specs.Ages.{age_text, two_digits}

-- what `{:02}` writes of it
pub two_digits_padded : (n : ℕ) → n < 100 → padded_integral (format_spec 32 0 4 2 (2 ^ 64 - 1)) false [] (decimal n) ≡ two_digits n
unfolding padded_integral char_count
two_digits_padded n small = elim (cases_lt n 10) [
  | inl one ↦ rw (decimal_digit n one, lt-ltb n 10 one) refl
  | inr two ↦ rw (decimal_step n two (omega (arith, small)), decimal_digit (n / 10) (omega (arith, small)), le-ltb n 10 two) refl
]

-- the texts of minutes, of hours, of days
pub minutes_text : (seconds : ℕ) → 60 ≤ seconds → seconds < 3600
    → decimal (seconds / 60) ++ 109 ∷ (two_digits (seconds % 60) ++ 115 ∷ []) ≡ age_text seconds
minutes_text seconds some few =
    let more : nat_lt seconds 60 ≡ false = le-ltb seconds 60 some in
    let less : nat_lt seconds 3600 ≡ true = lt-ltb seconds 3600 few in
    rw (more, less) refl

pub hours_text : (seconds : ℕ) → 3600 ≤ seconds → seconds < 86400
    → decimal (seconds / 60 / 60) ++ 104 ∷ (two_digits (seconds / 60 % 60) ++ 109 ∷ []) ≡ age_text seconds
hours_text seconds some few =
    let one : nat_lt seconds 60 ≡ false = le-ltb seconds 60 (omega (arith, some)) in
    let more : nat_lt seconds 3600 ≡ false = le-ltb seconds 3600 some in
    let less : nat_lt seconds 86400 ≡ true = lt-ltb seconds 86400 few in
    let hours : seconds / 60 / 60 ≡ seconds / 3600 = omega arith in
    rw (one, more, less, hours) refl

pub days_text : (seconds : ℕ) → 86400 ≤ seconds
    → decimal (seconds / 60 / 60 / 24) ++ 100 ∷ (two_digits (seconds / 60 / 60 % 24) ++ 104 ∷ []) ≡ age_text seconds
days_text seconds some =
    let one : nat_lt seconds 60 ≡ false = le-ltb seconds 60 (omega (arith, some)) in
    let two : nat_lt seconds 3600 ≡ false = le-ltb seconds 3600 (omega (arith, some)) in
    let more : nat_lt seconds 86400 ≡ false = le-ltb seconds 86400 some in
    let hours : seconds / 60 / 60 ≡ seconds / 3600 = omega arith in
    let days : seconds / 60 / 60 / 24 ≡ seconds / 86400 = omega arith in
    rw (one, two, more, days, hours) refl
