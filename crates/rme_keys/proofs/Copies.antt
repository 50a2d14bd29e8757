-- Copies of patterns cover the names that the patterns cover.
use Rattle.std.proofs.Common.{◌≡◌, ◌↔◌, ◌++◌, ℕ, ◌<◌, List, length, get_or, sym, subst, arith}
use Rattle.std.proofs.lemmas.List.{get_or_default}
use Rattle.std.proofs.lemmas.List.Elements.{AllZip-get_or, length_all_zip}
use Rattle.std.specs.List.{AllZip, Any}
use Rattle.rme_keys.specs.Spaces.{CoverName, Covers, IsSamePattern}
use Rattle.rme_keys.specs.declared.spaces.SpacePattern.{SpacePattern}
use Rattle.rme_keys.specs.declared.spaces.SpacePattern.TheVariants.{Name, Prefix}

any_along : {A : Type 0} (R : A → A → Type 0) (P : A → Type 0) (xs ys : List A) → AllZip R xs ys
    → ((x y : A) → R x y → P x → P y) → Any P xs → Any P ys
any_along R P xs ys zipped follows any =
    let k = any.0 in
    let x = any.1 in
    let within : k < length ys = omega (arith, any.2, length_all_zip R xs ys zipped) in
    let y = get_or ys k x in (k, y, within, get_or_default ys k y x within, follows x y (subst (λ (it : _). R it y) any.3 (AllZip-get_or R xs ys k x x zipped any.2)) any.4)

any_back : {A : Type 0} (R : A → A → Type 0) (P : A → Type 0) (xs ys : List A) → AllZip R xs ys
    → ((x y : A) → R x y → P y → P x) → Any P ys → Any P xs
any_back R P xs ys zipped follows any =
    let k = any.0 in
    let y = any.1 in
    let within : k < length xs = omega (arith, any.2, length_all_zip R xs ys zipped) in
    let x = get_or xs k y in (k, x, within, get_or_default xs k x y within, follows x y (subst (λ (it : _). R x it) any.3 (AllZip-get_or R xs ys k y y zipped within)) any.4)

same_covers : (pattern copy : SpacePattern) (name : List ℕ) → IsSamePattern pattern copy
    → Covers copy name ↔ Covers pattern name
same_covers (Name only) (Name other) name same =
    subst (λ (text : List ℕ). (name ≡ text) ↔ (name ≡ only.items)) (sym same) (λ is. is, λ is. is)
same_covers (Name only) (Prefix other) name same = absurd same
same_covers (Prefix front) (Name other) name same = absurd same
same_covers (Prefix front) (Prefix other) name same =
    subst (λ (text : List ℕ). ((rest : List ℕ) × (name ≡ text ++ rest)) ↔ ((rest : List ℕ) × (name ≡ front.items ++ rest))) (sym same) (λ is. is, λ is. is)

pub same_cover : (patterns copies : List SpacePattern) (name : List ℕ) → AllZip IsSamePattern patterns copies
    → CoverName copies name ↔ CoverName patterns name
same_cover patterns copies name zipped = (
  any_back IsSamePattern (λ (pattern : SpacePattern). Covers pattern name) patterns copies zipped (λ pattern copy same. (same_covers pattern copy name same).0),
  any_along IsSamePattern (λ (pattern : SpacePattern). Covers pattern name) patterns copies zipped (λ pattern copy same. (same_covers pattern copy name same).1),
)
