-- The first number below a bound that passes a test.
use Rattle.std.proofs.Common.{◌≡◌, ◌≢◌, ℕ, zero, suc, ◌<◌, ◌⊎◌, refl, sym, ap, ap₂, subst, inl, inr, arith}
use Rattle.std.specs.Prelude.{Bool, true, false, Option, Some, None, if◌then◌else◌}
use Rattle.std.specs.Option.{option_or}
use Rattle.std.proofs.lemmas.Bool.{cases_eq}
use Rattle.std.proofs.lemmas.Option.{same_Some, none-some}
use Rattle.rme_tree.specs.Paths.{first_number_passing}

either_some : (early : Option ℕ) (late : Bool) (n w : ℕ) → option_or early (if late then Some n else None) ≡ Some w
    → (early ≡ Some w) ⊎ ((late ≡ true) × (n ≡ w))
either_some None true n w e = inr (refl, same_Some n w e)
either_some None false n w e = absurd (none-some w e)
either_some (Some x) late n w e = inl e

either_none : (early : Option ℕ) (late : Bool) (n : ℕ) → option_or early (if late then Some n else None) ≡ None → (early ≡ None) × (late ≡ false)
either_none None true n e = absurd (none-some n (sym e))
either_none None false n e = (refl, refl)
either_none (Some x) late n e = absurd (none-some x (sym e))

-- The number found is below the bound and passes.
pub first_passes : (n : ℕ) (test : ℕ → Bool) (w : ℕ) → first_number_passing n test ≡ Some w → (w < n) × (test w ≡ true)
first_passes zero test w e = absurd (none-some w e)
first_passes (suc n) test w e =
    elim (either_some (first_number_passing n test) (test n) n w e) [
      | inl early ↦ (let at : (w < n) × (test w ≡ true) = first_passes n test w early in (omega (arith, at.0), at.1))
      | inr late ↦ (omega (arith, late.1), (let P : ℕ → Type 0 = λ n. test n ≡ true in subst P late.1 late.0))
    ]

-- If none is found, none passes.
pub first_none : (n : ℕ) (test : ℕ → Bool) (w : ℕ) → first_number_passing n test ≡ None → w < n → test w ≡ false
first_none zero test w e less = absurd (omega arith)
first_none (suc n) test w e less =
    let parts : (first_number_passing n test ≡ None) × (test n ≡ false) = either_none (first_number_passing n test) (test n) n e in
    elim (cases_eq w n) [
      | inl same ↦ (let P : ℕ → Type 0 = λ n. test n ≡ false in subst P (sym same) parts.1)
      | inr below ↦ first_none n test w parts.0 (omega arith)
    ]

-- Tests that agree below the bound find the same number.
pub first_same : (n : ℕ) (one other : ℕ → Bool) → ((w : ℕ) → w < n → one w ≡ other w) → first_number_passing n one ≡ first_number_passing n other
first_same zero one other same = refl
first_same (suc n) one other same =
    ap₂ (λ (early : Option ℕ) (late : Bool). option_or early (if late then Some n else None))
    (first_same n one other (λ w less. same w (omega arith)))
    (same n (omega arith))

-- The only number that passes is found.
pub first_only : (n : ℕ) (test : ℕ → Bool) (w : ℕ) → w < n → test w ≡ true → ((k : ℕ) → k < n → test k ≡ true → k ≡ w) → first_number_passing n test ≡ Some w
first_only n test w less passes only = go (first_number_passing n test) refl
  where
    go : (found : Option ℕ) → first_number_passing n test ≡ found → found ≡ Some w
    go None e = (let fails : test w ≡ false = first_none n test w e less in cc)
    go (Some k) e = (let at : (k < n) × (test k ≡ true) = first_passes n test k e in ap (λ (x : ℕ). Some x) (only k at.0 at.1))

-- If none passes, none is found.
pub first_fails : (n : ℕ) (test : ℕ → Bool) → ((k : ℕ) → k < n → test k ≢ true) → first_number_passing n test ≡ None
first_fails n test none = go (first_number_passing n test) refl
  where
    go : (found : Option ℕ) → first_number_passing n test ≡ found → found ≡ None
    go None e = refl
    go (Some k) e = (let at : (k < n) × (test k ≡ true) = first_passes n test k e in absurd (none k at.0 at.1))
