-- The item of a list at an index, and the parts of the list before and after it.
use Rattle.std.proofs.Common.{◌≡◌, ℕ, ◌+◌, ◌<◌, Some, List, [], ◌∷◌, ◌++◌, length, take, drop, slice_get, refl, sym, ◌∙◌, ap}
use Rattle.std.specs.Prelude.{slice_set}
use Rattle.std.proofs.lemmas.List.{drop_more, take_more, take_more_set}
use Rattle.std.proofs.lemmas.Option.{slice_get_within, get_or_from_slice_get}

pub drop_at : {X : Type 0} (xs : List X) (i : ℕ) (x : X) → slice_get xs i ≡ Some x → drop i xs ≡ x ∷ drop (i + 1) xs
drop_at {X = X} xs i x e = drop_more xs i x (slice_get_within xs i x e) ∙ ap (λ (y : X). y ∷ drop (i + 1) xs) (get_or_from_slice_get xs i x x e)

pub take_next : {X : Type 0} (xs : List X) (i : ℕ) (x : X) → slice_get xs i ≡ Some x → take (i + 1) xs ≡ take i xs ++ x ∷ []
take_next {X = X} xs i x e = take_more xs i x (slice_get_within xs i x e) ∙ ap (λ (y : X). take i xs ++ y ∷ []) (get_or_from_slice_get xs i x x e)

-- If two lists agree up to an index and the other's item there is stored into the first, they agree one further.
pub take_stored : {X : Type 0} (xs ys : List X) (i : ℕ) (x : X) → i < length xs → slice_get ys i ≡ Some x → take i xs ≡ take i ys
    → take (i + 1) (slice_set xs i x) ≡ take (i + 1) ys
take_stored {X = X} xs ys i x within at same = take_more_set xs i x within ∙ ap (λ (front : List X). front ++ x ∷ []) same ∙ sym (take_next ys i x at)

-- The item where two parts of a list meet.
pub get_seam : {X : Type 0} (xs ys : List X) (x : X) → slice_get (xs ++ x ∷ ys) (length xs) ≡ Some x
get_seam [] ys x = refl
get_seam (z ∷ zs) ys x = get_seam zs ys x
