-- Lists that are traversed by index.
use Rattle.std.proofs.Common.{◌≡◌, ℕ, ◌+◌, drop, List, ◌∷◌, ap, ◌∙◌, sym, get_or, length, ◌<◌}
use Rattle.std.proofs.lemmas.List.{drop_more}

pub drop_read : {A : Type 0} (xs : List A) (i : ℕ) (x : A) → i < length xs → x ≡ get_or xs i x → drop i xs ≡ x ∷ drop (i + 1) xs
drop_read {A = A} xs i x within e = drop_more xs i x within ∙ ap (λ (y : A). y ∷ drop (i + 1) xs) (sym e)
