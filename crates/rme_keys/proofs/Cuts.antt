-- Where a byte first stands, and what stands before it.
use Rattle.std.proofs.Common.{◌≡◌, ℕ, List, length, take, Some, None, Bool, true, false, cond, nat_lt, refl, sym, ap, position}
use Rattle.std.proofs.lemmas.Bool.{ltb-false}
use Rattle.std.proofs.lemmas.List.{take_all}
use Rattle.std.proofs.lemmas.Option.{cond_some, none-some}
use Rattle.std.specs.List.{before_first, position_or_len}

pub before_place : (p : ℕ → Bool) (bytes : List ℕ) (at : ℕ) → Some at ≡ position p bytes
    → take at bytes ≡ before_first p bytes
before_place p bytes at is =
    let place = cond_some (nat_lt (position_or_len p bytes) (length bytes)) (position_or_len p bytes) at (sym is) in
    ap (λ (n : ℕ). take n bytes) (sym place.1)

not_within : (b : Bool) (n : ℕ) → None ≡ cond b (Some n) None → b ≡ false
not_within true n is = absurd (none-some n is)
not_within false n is = refl

pub before_nothing : (p : ℕ → Bool) (bytes : List ℕ) → None ≡ position p bytes → bytes ≡ before_first p bytes
before_nothing p bytes is =
    let past = not_within (nat_lt (position_or_len p bytes) (length bytes)) (position_or_len p bytes) is in
    sym (take_all (position_or_len p bytes) bytes (ltb-false (position_or_len p bytes) (length bytes) past))
