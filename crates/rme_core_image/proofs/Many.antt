-- Lists of items: parsed bytes are the concatenated encodings, and these are parsed.
use Rattle.std.proofs.Common.{◌≡◌, ℕ, zero, suc, List, [], ◌∷◌, ◌++◌, length, Option, Some, refl, sym, ap, subst, ◌∙◌, append_assoc}
use Rattle.std.specs.List.{All, AllByRecursion, flat_map}
use Rattle.std.proofs.lemmas.List.{append-nil}
use Rattle.std.proofs.lemmas.List.Elements.{All-from_recursion, recursion_from_All}
use Rattle.rme_core_image.specs.Parsing.{parse_many}
use Rattle.rme_core_image.proofs.Fields.{IsBytes, Takes, Takes-then, bind_some, some_is}

-- The bytes of some items; those of an item may depend on the items before it.
abbrev pub spell_after : {A : Type 0} → (List A → A → List ℕ) → List A → List A → List ℕ
spell_after spell earlier [] = []
spell_after spell earlier (x ∷ xs) = spell earlier x ++ spell_after spell (earlier ++ x ∷ []) xs

-- Each item has a property, which may depend on the items before it.
abbrev pub AllAfter : {A : Type 0} → (List A → A → Type 0) → List A → List A → Type 0
AllAfter Small earlier [] = Unit {0}
AllAfter Small earlier (x ∷ xs) = Small earlier x × AllAfter Small (earlier ++ x ∷ []) xs

pub record TookMany {A : Type 0} (spell : List A → A → List ℕ) (Small : List A → A → Type 0) (n : ℕ) (earlier all : List A) (bytes rest : List ℕ) : Type 0 where
  pub new : List A
  pub joined : all ≡ earlier ++ new
  pub counted : length new ≡ n
  pub took : Takes bytes (spell_after spell earlier new) rest
  pub small : AllAfter Small earlier new

module _ {A : Type 0} (read : List A → List ℕ → Option (A × List ℕ)) (spell : List A → A → List ℕ) (Small : List A → A → Type 0) where
  pub many_take : ((earlier : List A) (bytes : List ℕ) (x : A) (rest : List ℕ) → IsBytes bytes → read earlier bytes ≡ Some (x, rest) → Takes bytes (spell earlier x) rest × Small earlier x)
      → (n : ℕ) (earlier : List A) (bytes : List ℕ) (all : List A × List ℕ) → IsBytes bytes → parse_many read n earlier bytes ≡ Some all → TookMany spell Small n earlier all.0 bytes all.1
  many_take takes zero earlier bytes all fits e =
      subst (λ (y : List A × List ℕ). TookMany spell Small 0 earlier y.0 bytes y.1) (some_is (earlier, bytes) all e)
      (record { new = []; joined = sym (append-nil earlier); counted = refl; took = record { parts = refl; rest_fits = fits }; small = tt })
  many_take takes (suc n) earlier bytes all fits e =
      let b = bind_some (read earlier bytes) (λ item. parse_many read n (earlier ++ item.0 ∷ []) item.1) all e in
      let t = takes earlier bytes b.0.0 b.0.1 fits b.1 in
      let more = many_take takes n (earlier ++ b.0.0 ∷ []) b.0.1 all t.0.rest_fits b.2 in
      record {
        new = b.0.0 ∷ more.new;
        joined = more.joined ∙ append_assoc earlier (b.0.0 ∷ []) more.new;
        counted = ap (λ (k : ℕ). suc k) more.counted;
        took = Takes-then bytes (spell earlier b.0.0) b.0.1 (spell_after spell (earlier ++ b.0.0 ∷ []) more.new) all.1 t.0 more.took;
        small = (t.1, more.small);
      }

  pub many_again : ((earlier : List A) (x : A) (rest : List ℕ) → Small earlier x → read earlier (spell earlier x ++ rest) ≡ Some (x, rest))
      → (earlier new : List A) (rest : List ℕ) → AllAfter Small earlier new → parse_many read (length new) earlier (spell_after spell earlier new ++ rest) ≡ Some (earlier ++ new, rest)
  many_again again earlier [] rest small = rw (append-nil earlier) refl
  many_again again earlier (x ∷ xs) rest small =
      let behind : List ℕ = spell_after spell (earlier ++ x ∷ []) xs ++ rest in
      let here : read earlier (spell_after spell earlier (x ∷ xs) ++ rest) ≡ Some (x, behind) =
      ap (λ (bytes : List ℕ). read earlier bytes) (append_assoc (spell earlier x) (spell_after spell (earlier ++ x ∷ []) xs) rest) ∙ again earlier x behind small.0 in
      rw here (many_again again (earlier ++ x ∷ []) xs rest small.1 ∙ ap (λ (all : List A). Some (all, rest)) (append_assoc earlier (x ∷ []) xs))

-- ---- items that do not depend on those before them

pub spell_flat : {A : Type 0} (spell : A → List ℕ) (earlier xs : List A) → spell_after (λ _. spell) earlier xs ≡ flat_map spell xs
spell_flat spell earlier [] = refl
spell_flat spell earlier (x ∷ xs) = ap (λ (rest : List ℕ). spell x ++ rest) (spell_flat spell (earlier ++ x ∷ []) xs)

all_flat : {A : Type 0} (Small : A → Type 0) (earlier xs : List A) → AllAfter (λ _. Small) earlier xs → AllByRecursion Small xs
all_flat Small earlier [] h = tt
all_flat Small earlier (x ∷ xs) h = (h.0, all_flat Small (earlier ++ x ∷ []) xs h.1)

flat_all : {A : Type 0} (Small : A → Type 0) (earlier xs : List A) → AllByRecursion Small xs → AllAfter (λ _. Small) earlier xs
flat_all Small earlier [] h = tt
flat_all Small earlier (x ∷ xs) h = (h.0, flat_all Small (earlier ++ x ∷ []) xs h.1)

module _ {A : Type 0} (read : List ℕ → Option (A × List ℕ)) (spell : A → List ℕ) (Small : A → Type 0) where
  pub list_takes : ((bytes : List ℕ) (x : A) (rest : List ℕ) → IsBytes bytes → read bytes ≡ Some (x, rest) → Takes bytes (spell x) rest × Small x)
      → (n : ℕ) (bytes : List ℕ) (all : List A × List ℕ) → IsBytes bytes → parse_many (λ _. read) n [] bytes ≡ Some all → Takes bytes (flat_map spell all.0) all.1 × (length all.0 ≡ n) × All Small all.0
  list_takes takes n bytes all fits e =
      let many = many_take (λ _. read) (λ _. spell) (λ _. Small) (λ _. takes) n [] bytes all fits e in
      let same : many.new ≡ all.0 = sym many.joined in
      let took : Takes bytes (flat_map spell many.new) all.1 = rw (← spell_flat spell [] many.new) many.took in
      let small : All Small many.new = All-from_recursion Small many.new (all_flat Small [] many.new many.small) in
      subst (λ (xs : List A). Takes bytes (flat_map spell xs) all.1 × (length xs ≡ n) × All Small xs) same (took, many.counted, small)

  pub list_again : ((x : A) (rest : List ℕ) → Small x → read (spell x ++ rest) ≡ Some (x, rest))
      → (xs : List A) (rest : List ℕ) → All Small xs → parse_many (λ _. read) (length xs) [] (flat_map spell xs ++ rest) ≡ Some (xs, rest)
  list_again again xs rest small =
      ap (λ (text : List ℕ). parse_many (λ _. read) (length xs) [] (text ++ rest)) (sym (spell_flat spell [] xs))
      ∙ many_again (λ _. read) (λ _. spell) (λ _. Small) (λ _. again) [] xs rest (flat_all Small [] xs (recursion_from_All Small xs small))
