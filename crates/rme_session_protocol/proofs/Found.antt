-- An optional value, and a property of it.
use Rattle.std.proofs.Common.{◌≡◌, Option, Some, None, refl, sym, subst}
use Rattle.std.specs.Prelude.{IfSome}

pub each_found : {X : Type 0} (P : X → Type 0) (may is : Option X) → is ≡ may → ((x : X) → may ≡ Some x → P x) → IfSome is P
each_found P None is e found = subst (λ o. IfSome o P) (sym e) tt
each_found P (Some x) is e found = subst (λ o. IfSome o P) (sym e) (found x refl)
