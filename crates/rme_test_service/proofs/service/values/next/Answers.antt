use Rattle.std.proofs.Common.{◌≡◌, refl, ap, ◌∙◌, ℕ, zero, suc, List, [], ◌∷◌, ◌++◌, length, slice_get, Some}
use Rattle.rme_test_service.proofs.service.values.next.Goals as goal

last_at : {A : Type 0} (before : List A) (last : A) → slice_get (before ++ last ∷ []) (length before) ≡ Some last
last_at [] last = refl
last_at (first ∷ before) last = last_at before last

front_at : {A : Type 0} (before : List A) (last a : A) (k : ℕ) → slice_get before k ≡ Some a
    → slice_get (before ++ last ∷ []) k ≡ Some a
front_at [] last a zero at = cc
front_at [] last a (suc k) at = cc
front_at (first ∷ before) last a zero at = at
front_at (first ∷ before) last a (suc k) at = front_at before last a k at

pub returns-clause-ours : goal.returns-clause-ours
returns-clause-ours g c =
    let before = c.pop.new.self.items in
    c.requires.ours (length before) c.in-Some.down (ap (λ (downs : List _). slice_get downs (length before)) c.in-Some.ensures.items ∙ last_at before c.in-Some.down)

pub returns-clause-rest : goal.returns-clause-rest
returns-clause-rest g c k seat at =
    let before = c.pop.new.self.items in
    c.requires.ours k seat (ap (λ (downs : List _). slice_get downs k) c.in-Some.ensures.items ∙ front_at before c.in-Some.down seat k at)
