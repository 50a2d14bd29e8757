-- Looking up a text among the texts of keys.
use Rattle.std.proofs.Common.{◌≡◌, ℕ, List, [], ◌∷◌, ◌++◌, map, length, Bool, true, false, not, position, String, Global, string_bytes, bytes_eq, refl, sym, ◌∙◌, arith, inl, inr}
use Rattle.std.proofs.lemmas.Bool.{cases_Bool, and_parts, not-true}
use Rattle.std.proofs.lemmas.List.{length-map, map-append}
use Rattle.std.specs.List.{list_any, prefix_len, position_or_len}
use Rattle.std.specs.String.{string_eq}
use Rattle.indexmap.specs.IndexSet.{insert_key}
use Rattle.rme_line_io.specs.Names.{may_add_name}

pub list_any_map : {A B : Type 0} (f : A → B) (p : B → Bool) (xs : List A) → list_any (λ x. p (f x)) xs ≡ list_any p (map f xs)
list_any_map f p [] = refl
list_any_map f p (x ∷ xs) = rw (list_any_map f p xs) refl

prefix_len_map : {A B : Type 0} (f : A → B) (p : B → Bool) (xs : List A) → prefix_len (λ x. p (f x)) xs ≡ prefix_len p (map f xs)
prefix_len_map f p [] = refl
prefix_len_map f p (x ∷ xs) = rw (prefix_len_map f p xs) refl

pub position_map : {A B : Type 0} (f : A → B) (p : B → Bool) (xs : List A) → position (λ x. p (f x)) xs ≡ position p (map f xs)
position_map f p xs = rw (prefix_len_map f (λ y. not (p y)) xs, length-map xs f) refl

pub position_or_len_absent : {A : Type 0} (p : A → Bool) (xs : List A) → list_any p xs ≡ false → position_or_len p xs ≡ length xs
position_or_len_absent p [] none = refl
position_or_len_absent p (x ∷ xs) none =
    elim (cases_Bool (p x)) [
      | inl t ↦ let bad : true ≡ false = rw t at none in cc
      | inr f ↦ let rest : list_any p xs ≡ false = rw f at none in rw (f, position_or_len_absent p xs rest) (omega arith)
    ]

not_there : (names : List (List ℕ)) (text : List ℕ) → may_add_name names text ≡ true → list_any (bytes_eq text) names ≡ false
not_there names text may = not-true _ ((and_parts _ _ may).1)

absent_key : (ks : List (String Global)) (name : String Global) → may_add_name (map string_bytes ks) (string_bytes name) ≡ true → list_any (string_eq name) ks ≡ false
absent_key ks name may = list_any_map string_bytes (bytes_eq (string_bytes name)) ks ∙ not_there (map string_bytes ks) (string_bytes name) may

-- a new name is added at the end, and its number is the previous number of names
pub added_place : (ks : List (String Global)) (name : String Global) (text : List ℕ) → string_bytes name ≡ text → may_add_name (map string_bytes ks) text ≡ true
    → position_or_len (string_eq name) ks ≡ length (map string_bytes ks)
added_place ks name text same may = let may = rw (← same) at may in position_or_len_absent (string_eq name) ks (absent_key ks name may) ∙ sym (length-map ks string_bytes)

pub added_keys : (ks : List (String Global)) (name : String Global) (text : List ℕ) → string_bytes name ≡ text → may_add_name (map string_bytes ks) text ≡ true
    → map string_bytes (insert_key string_eq ks name) ≡ map string_bytes ks ++ text ∷ []
added_keys ks name text same may =
    let may = rw (← same) at may in
    rw (absent_key ks name may, map-append string_bytes ks (name ∷ []), same) refl
