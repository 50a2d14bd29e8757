-- Names that are given in order.
use Rattle.std.proofs.Common.{◌≡◌, ℕ, ◌+◌, ◌<◌, ◌≤◌, List, [], ◌∷◌, ◌++◌, map, length, take, drop, get_or, Bool, true, false, not, ◌&&◌, nat_le, nat_lt, String, Global, string_bytes, bytes_eq, refl, sym, ap, ◌∙◌, arith, add-one, append_assoc, append-nil, Option, Some, None, option_map}
use Rattle.std.proofs.lemmas.Bool.{and_left, and_parts, and_right, le-leb, leb-true, lt-leb, lt-ltb}
use Rattle.std.proofs.lemmas.List.{length-map, map-append, length-take-le}
use Rattle.std.proofs.Math.Seq.{take-suc}
use Rattle.std.specs.List.{list_any}
use Rattle.rme_line_io.specs.Names.{is_name, may_add_name}
use Rattle.serde_json.specs.Data.{Data, Items, no_items, item}
use Rattle.serde_json.specs.Find.{as_str}
use Rattle.rme_wire.specs.Openings.{are_lock_names, are_new_names, texts_of_items}
use Rattle.rme_line_io.proofs.NameLemmas.{list_any_map}
use Rattle.rme_line_io.proofs.ListLemmas.{drop_read}

abbrev pub texts : List (String Global) → List (List ℕ)
texts xs = map string_bytes xs

pub one_more : (earlier : List (List ℕ)) (text : List ℕ) (rest : List (List ℕ))
    → are_new_names earlier (text ∷ rest) ≡ (is_name text && not (list_any (bytes_eq text) earlier) && are_new_names (earlier ++ text ∷ []) rest)
unfolding are_new_names
one_more earlier text rest = refl

pub none_more : (earlier : List (List ℕ)) → are_new_names earlier [] ≡ true
unfolding are_new_names
none_more earlier = refl

module _ (xs : List (String Global)) (i : ℕ) (x : String Global) (within : i < length xs) (item : x ≡ get_or xs i x) where
  -- the text at the index, and those after it
  here : are_new_names (texts (take i xs)) (texts (drop i xs))
      ≡ (is_name (string_bytes x) && not (list_any (bytes_eq (string_bytes x)) (texts (take i xs))) && are_new_names (texts (take i xs) ++ string_bytes x ∷ []) (texts (drop (i + 1) xs)))
  here = rw (drop_read xs i x within item) (one_more (texts (take i xs)) (string_bytes x) (texts (drop (i + 1) xs)))

  pub texts_next : texts (take (i + 1) xs) ≡ texts (take i xs) ++ string_bytes x ∷ []
  texts_next = rw (add-one, take-suc xs i x within, ← item) (map-append string_bytes (take i xs) (x ∷ []))

  pub no_name : is_name (string_bytes x) ≡ false → are_new_names (texts (take i xs)) (texts (drop i xs)) ≡ false
  no_name e = here ∙ rw e refl

  pub stands_twice : is_name (string_bytes x) ≡ true → list_any (λ other. bytes_eq (string_bytes x) (string_bytes other)) (take i xs) ≡ true
      → are_new_names (texts (take i xs)) (texts (drop i xs)) ≡ false
  stands_twice e f = let f = rw (list_any_map string_bytes (bytes_eq (string_bytes x)) (take i xs)) at f in here ∙ rw (e, f) refl

  pub new_name : is_name (string_bytes x) ≡ true → list_any (λ other. bytes_eq (string_bytes x) (string_bytes other)) (take i xs) ≡ false
      → are_new_names (texts (take i xs)) (texts (drop i xs)) ≡ are_new_names (texts (take (i + 1) xs)) (texts (drop (i + 1) xs))
  new_name e f = let f = rw (list_any_map string_bytes (bytes_eq (string_bytes x)) (take i xs)) at f in here ∙ rw (e, f, texts_next) refl

  -- with few names, all new, the next one may be added, and the later ones are still new
  pub may_add_next : length xs ≤ 16 → are_new_names (texts (take i xs)) (texts (drop i xs)) ≡ true
      → (may_add_name (texts (take i xs)) (string_bytes x) ≡ true) × (are_new_names (texts (take (i + 1) xs)) (texts (drop (i + 1) xs)) ≡ true)
  may_add_next few left =
      let text = string_bytes x in
      let earlier = texts (take i xs) in
      let rest : Bool = are_new_names (earlier ++ text ∷ []) (texts (drop (i + 1) xs)) in
      let fresh : Bool = not (list_any (bytes_eq text) earlier) in
      let parts = and_parts (is_name text && fresh) rest (sym here ∙ left) in
      let named = and_parts (is_name text) fresh parts.0 in
      let short : length earlier ≤ i = omega (arith, length-map (take i xs) (λ (s : String Global). string_bytes s), length-take-le i xs (omega arith)) in
      let room : nat_lt (length earlier) 16 ≡ true = lt-ltb _ _ (omega arith) in
      (rw (named.0, room) named.1, rw texts_next parts.1)

-- texts that may be names of locks are few, and all new
pub are_few : (names : List (List ℕ)) → are_lock_names names ≡ true → (length names ≤ 16) × (are_new_names [] names ≡ true)
unfolding are_lock_names
are_few names h =
    let parts = and_parts (nat_le 1 (length names) && nat_le (length names) 16) (are_new_names [] names) h in
    let sizes = and_parts (nat_le 1 (length names)) (nat_le (length names) 16) parts.0 in (leb-true _ _ sizes.1, parts.1)

pub none_given : (xs : List (String Global)) → length xs ≡ 0 → are_lock_names (texts xs) ≡ false
unfolding are_lock_names
none_given xs e = let none : length (texts xs) ≡ 0 = length-map xs string_bytes ∙ e in rw none refl

pub too_many : (xs : List (String Global)) → 16 < length xs → are_lock_names (texts xs) ≡ false
unfolding are_lock_names
too_many xs many =
    let e : length (texts xs) ≡ length xs = length-map xs string_bytes in
    let over : nat_le (length (texts xs)) 16 ≡ false = lt-leb _ _ (omega arith) in
    and_left _ _ (and_right (nat_le 1 (length (texts xs))) _ over)

pub few_given : (xs : List (String Global)) → 1 ≤ length xs → length xs ≤ 16 → are_lock_names (texts xs) ≡ are_new_names [] (texts xs)
unfolding are_lock_names
few_given xs some few =
    let e : length (texts xs) ≡ length xs = length-map xs string_bytes in
    let at_least : nat_le 1 (length (texts xs)) ≡ true = le-leb _ _ (omega arith) in
    let at_most : nat_le (length (texts xs)) 16 ≡ true = le-leb _ _ (omega arith) in rw (at_least, at_most) refl

-- ---- reading texts

-- the texts read, with those of the rest, are the texts of all the items
abbrev pub ReadsTexts : Items → List (List ℕ) → Items → Type 0
ReadsTexts items done rest = option_map (λ later. done ++ later) (texts_of_items rest) ≡ texts_of_items items

texts_step : (d : Data) (ds : Items) (text : List ℕ) → as_str d ≡ Some text → texts_of_items (item d ds) ≡ option_map (λ later. text ∷ later) (texts_of_items ds)
unfolding texts_of_items
texts_step d ds text e = rw e refl

longer_by : (found : Option (List (List ℕ))) (done longer : List (List ℕ)) (text : List ℕ) → longer ≡ done ++ text ∷ []
    → option_map (λ later. longer ++ later) found ≡ option_map (λ later. done ++ later) (option_map (λ later. text ∷ later) found)
longer_by None done longer text e = refl
longer_by (Some later) done longer text e = rw e (ap Some (append_assoc done (text ∷ []) later))

pub texts_more : (items : Items) (done longer : List (List ℕ)) (d : Data) (ds : Items) (text : List ℕ) → ReadsTexts items done (item d ds) → as_str d ≡ Some text
    → longer ≡ done ++ text ∷ [] → ReadsTexts items longer ds
texts_more items done longer d ds text reads e f =
    longer_by (texts_of_items ds) done longer text f ∙ sym (ap (option_map (λ later. done ++ later)) (texts_step d ds text e)) ∙ reads

pub texts_stuck : (items : Items) (done : List (List ℕ)) (d : Data) (ds : Items) → ReadsTexts items done (item d ds) → as_str d ≡ None → texts_of_items items ≡ None
unfolding texts_of_items
texts_stuck items done d ds reads e = sym reads ∙ rw e refl

pub texts_all : (items : Items) (done : List (List ℕ)) → ReadsTexts items done no_items → texts_of_items items ≡ Some done
unfolding texts_of_items
texts_all items done reads = sym reads ∙ ap Some (append-nil done)
