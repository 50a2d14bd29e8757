-- Lists of the values of a function at 0 .. n - 1, and lists with one item replaced.
use Rattle.std.proofs.Common.{◌≡◌, ◌≢◌, ℕ, zero, suc, ◌+◌, ◌<◌, List, [], ◌∷◌, length, get_or, refl, sym, ◌∙◌, ap, ap₂, inl, inr, arith}
use Rattle.std.specs.Prelude.{Some, map, replicate, slice_get, slice_set}
use Rattle.std.specs.List.{range_with_len}
use Rattle.std.proofs.lemmas.Bool.{cases_eq}
use Rattle.std.proofs.lemmas.List.{same_lists, length-set, get_or-set_same, get_or-set_other}
use Rattle.std.proofs.lemmas.List.FromFn.{length-map-range_with_len, get_or-map-range_with_len}
use Rattle.std.proofs.lemmas.Option.{slice_get-get_or}

-- The length of such a list, and its element at an index.
pub made_long : {A : Type 0} (f : ℕ → A) (n : ℕ) → length (map f (range_with_len 0 n)) ≡ n
made_long f n = length-map-range_with_len f 0 n

pub made_at : {A : Type 0} (f : ℕ → A) (n i : ℕ) (d : A) → i < n → get_or (map f (range_with_len 0 n)) i d ≡ f i
made_at f n i d within = get_or-map-range_with_len f 0 n i i d within (omega arith)

-- Functions that agree below n give the same list.
pub made_same : {A : Type 0} (f g : ℕ → A) (n : ℕ) → ((i : ℕ) → i < n → g i ≡ f i) → map g (range_with_len 0 n) ≡ map f (range_with_len 0 n)
made_same f g n same =
    same_lists _ _ (made_long g n ∙ sym (made_long f n)) (λ k d less.
    let within : k < n = omega (arith, made_long g n) in
    made_at g n k d within ∙ same k within ∙ sym (made_at f n k d within))

pub made_get : {A : Type 0} (f : ℕ → A) (n i : ℕ) → i < n → slice_get (map f (range_with_len 0 n)) i ≡ Some (f i)
made_get f n i within =
    slice_get-get_or (map f (range_with_len 0 n)) i (f i) (omega (arith, made_long f n))
    ∙ ap (λ (x : _). Some x) (made_at f n i (f i) within)

-- Functions that agree except at one index give lists that differ only there.
pub made_set : {A : Type 0} (f g : ℕ → A) (n j : ℕ) (x : A) → j < n → g j ≡ x → ((i : ℕ) → i < n → i ≢ j → g i ≡ f i)
    → map g (range_with_len 0 n) ≡ slice_set (map f (range_with_len 0 n)) j x
made_set f g n j x within at off =
    same_lists _ _ (made_long g n ∙ sym (length-set (map f (range_with_len 0 n)) j x ∙ made_long f n)) (λ k d less.
    let inside : k < n = omega (arith, made_long g n) in
    elim (cases_eq k j) [
      | inl here ↦
          (made_at g n k d inside ∙ ap g here ∙ at
          ∙ sym (ap (λ (i : ℕ). get_or (slice_set (map f (range_with_len 0 n)) j x) i d) here
          ∙ get_or-set_same (map f (range_with_len 0 n)) j x d (omega (arith, made_long f n))))
      | inr apart ↦
          (made_at g n k d inside ∙ off k inside apart
          ∙ sym (get_or-set_other (map f (range_with_len 0 n)) j k x d apart ∙ made_at f n k d inside))
    ])

-- A constant function gives a list that repeats one value.
pub made_of_one : {A : Type 0} (f : ℕ → A) (x : A) (from n : ℕ) → ((i : ℕ) → i < from + n → f i ≡ x) → map f (range_with_len from n) ≡ replicate n x
made_of_one {A = A} f x from zero same = refl
made_of_one {A = A} f x from (suc n) same =
    ap₂ (λ (head : A) (rest : List A). head ∷ rest) (same from (omega arith)) (made_of_one f x (from + 1) n (λ i below. same i (omega (arith, below))))

-- ---- a list with one item replaced

pub get_set : {A : Type 0} (xs : List A) (i : ℕ) (x : A) → i < length xs → slice_get (slice_set xs i x) i ≡ Some x
get_set [] i x within = absurd (omega (arith, within))
get_set (y ∷ ys) zero x within = refl
get_set (y ∷ ys) (suc i) x within = get_set ys i x (omega (arith, within))

pub get_set_other : {A : Type 0} (xs : List A) (i u : ℕ) (x : A) → u ≢ i → slice_get (slice_set xs i x) u ≡ slice_get xs u
get_set_other [] i u x apart = refl
get_set_other (y ∷ ys) zero zero x apart = absurd (apart refl)
get_set_other (y ∷ ys) zero (suc u) x apart = refl
get_set_other (y ∷ ys) (suc i) zero x apart = refl
get_set_other (y ∷ ys) (suc i) (suc u) x apart = get_set_other ys i u x (λ (e : u ≡ i). apart (ap suc e))
