-- The values of a JSON value's members, and of the items of a list in order.
use Rattle.std.proofs.Common.{◌≡◌, ◌<◌, ℕ, ◌^◌, List, [], ◌∷◌, ◌++◌, append_assoc, append-nil, refl, sym, ap, ◌∙◌, subst, inl, inr, arith}
use Rattle.std.proofs.lemmas.Bool.{cases_Bool, leb-true, leb-false, ltb-true, ltb-false}
use Rattle.std.specs.Prelude.{nat_le, nat_lt, Option, Some, None}
use Rattle.serde_json.specs.Data.{Data, null, boolean, number, string, array, object, unsigned, negative, float, Items, no_items, item}
use Rattle.serde_json.specs.Find.{get}
use Rattle.rme_wire.specs.Values.{whole_u32, whole_up_to}
use Rattle.rme_durable_format.specs.Headers.{HeaderSearch, HasNumberMember, AreItemsOf, IsJobCount}

-- ---- numbers

pub whole_found : (value : Data) → HeaderSearch (IsJobCount value) (whole_up_to (2 ^ 53) value)
unfolding whole_up_to
whole_found null = λ n tells. let e = tells.0 in cc
whole_found (boolean b) = λ n tells. let e = tells.0 in cc
whole_found (number (unsigned m)) = elim (cases_Bool (nat_le m (2 ^ 53))) [
  | inl t ↦ rw t (refl, leb-true m (2 ^ 53) t)
  | inr f ↦ rw f (λ n tells. let e = tells.0 in let same : m ≡ n = cc in let few = tells.1 in absurd (omega (arith, leb-false m (2 ^ 53) f)))
]
whole_found (number (negative z)) = λ n tells. let e = tells.0 in cc
whole_found (number (float x)) = λ n tells. let e = tells.0 in cc
whole_found (string s) = λ n tells. let e = tells.0 in cc
whole_found (array ds) = λ n tells. let e = tells.0 in cc
whole_found (object ms) = λ n tells. let e = tells.0 in cc

small_found : (value : Data) → HeaderSearch (λ n. (value ≡ number (unsigned n)) × (n < 2 ^ 32)) (whole_u32 value)
unfolding whole_u32
small_found null = λ n tells. let e = tells.0 in cc
small_found (boolean b) = λ n tells. let e = tells.0 in cc
small_found (number (unsigned m)) = elim (cases_Bool (nat_lt m (2 ^ 32))) [
  | inl t ↦ rw t (refl, ltb-true m (2 ^ 32) t)
  | inr f ↦ rw f (λ n tells. let e = tells.0 in let same : m ≡ n = cc in let few = tells.1 in absurd (omega (arith, ltb-false m (2 ^ 32) f)))
]
small_found (number (negative z)) = λ n tells. let e = tells.0 in cc
small_found (number (float x)) = λ n tells. let e = tells.0 in cc
small_found (string s) = λ n tells. let e = tells.0 in cc
small_found (array ds) = λ n tells. let e = tells.0 in cc
small_found (object ms) = λ n tells. let e = tells.0 in cc

moved : (key : List ℕ) (value told : Data) (r : Option ℕ) → Some told ≡ get key value → HeaderSearch (λ n. (told ≡ number (unsigned n)) × (n < 2 ^ 32)) r → HeaderSearch (λ n. HasNumberMember key value n × (n < 2 ^ 32)) r
moved key value told None here finds = λ n has. let e = has.0 in finds n (cc, has.1)
moved key value told (Some n) here finds = let e = finds.0 in (cc, finds.1)

-- The same for a member that is present.
pub small_there : (key : List ℕ) (value told : Data) (r : Option ℕ) → Some told ≡ get key value → r ≡ whole_u32 told → HeaderSearch (λ n. HasNumberMember key value n × (n < 2 ^ 32)) r
small_there key value told r here is =
    let P : Option ℕ → Type 0 = λ (o : Option ℕ). HeaderSearch (λ n. (told ≡ number (unsigned n)) × (n < 2 ^ 32)) o in moved key value told r here (subst P (sym is) (small_found told))

-- ---- items

-- The items up to an index have these values, whatever the rest has.
pub record SoFar {A : Type 0} (Tells : Data → A → Type 0) (items : Items) (done : List A) (rest : Items) : Type 0 where
  pub on : (later : List A) → AreItemsOf Tells rest later → AreItemsOf Tells items (done ++ later)
  pub back : (all : List A) → AreItemsOf Tells items all → (later : List A) × AreItemsOf Tells rest later

pub none_yet : {A : Type 0} (Tells : Data → A → Type 0) (items : Items) → SoFar Tells items [] items
none_yet Tells items = record { on = λ later told. told; back = λ all told. (all, told) }

parts : {A : Type 0} (Tells : Data → A → Type 0) (value : Data) (rest : Items) (all : List A) → AreItemsOf Tells (item value rest) all → (a : A) × (later : List A) × Tells value a × AreItemsOf Tells rest later
parts Tells value rest [] told = absurd told
parts Tells value rest (a ∷ later) told = (a, later, told.0, told.1)

pub one_more : {A : Type 0} (Tells : Data → A → Type 0) (items : Items) (done longer : List A) (value : Data) (rest : Items) (a : A) → SoFar Tells items done (item value rest) → Tells value a → longer ≡ done ++ a ∷ [] → SoFar Tells items longer rest
one_more {A} Tells items done longer value rest a so tells is =
    let same : (later : List A) → done ++ (a ∷ later) ≡ longer ++ later = λ later. sym (append_assoc done (a ∷ []) later) ∙ ap (λ xs. xs ++ later) (sym is) in
    let All : List A → Type 0 = λ all. AreItemsOf Tells items all in
    record {
      on = λ later told. subst All (same later) (so.on (a ∷ later) (tells, told));
      back = λ all told. let behind = so.back all told in let split = parts Tells value rest behind.0 behind.1 in (split.1, split.3);
    }

pub stuck : {A : Type 0} (Tells : Data → A → Type 0) (items : Items) (done : List A) (value : Data) (rest : Items) → SoFar Tells items done (item value rest) → ((a : A) → Tells value a → ⊥) → (all : List A) → AreItemsOf Tells items all → ⊥
stuck Tells items done value rest so none all told = let behind = so.back all told in let split = parts Tells value rest behind.0 behind.1 in none split.0 split.2

pub all_read : {A : Type 0} (Tells : Data → A → Type 0) (items : Items) (done : List A) → SoFar Tells items done no_items → AreItemsOf Tells items done
all_read {A} Tells items done so = let All : List A → Type 0 = λ all. AreItemsOf Tells items all in subst All (append-nil done) (so.on [] tt)
