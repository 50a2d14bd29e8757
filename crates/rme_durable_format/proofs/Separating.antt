-- Texts of lists, written item by item, each after the comma that is due.
use Rattle.std.proofs.Common.{◌≡◌, ℕ, ◌+◌, ◌<◌, ◌≤◌, List, [], ◌∷◌, ◌++◌, length, get_or, drop, Bool, true, false, codes, refl, sym, ap, ◌∙◌, subst, append_assoc, add-one, drop-cons}
use Rattle.std.proofs.lemmas.List.{drop_all}
use Rattle.rme_line_text.specs.Texts.{comma_text, separated_text}
use Rattle.std.specs.Prelude.{Result, Ok, Err, OnOk, decimal, if◌then◌else◌}
use Rattle.std.specs.Result.{is_ok}
use Rattle.std.proofs.lemmas.Result.{on_ok_weaker}
use Rattle.rme_durable_format.specs.Headers.{HeaderValues}
use Rattle.rme_durable_format.specs.HeaderTexts.{header_line, last_jobs_text, numbers_text, places_text}
use Rattle.rme_line_text.proofs.TextLemmas.{Separates, append_five, separates_all, separates_next}

-- The items before the rest are written, and this comma is due before the next.
pub record HasSeparated {A : Type 0} (text : A → List ℕ) (start : List ℕ) (all : List A) (out comma : List ℕ) (rest : List A) : Type 0 where
  pub later : Bool
  pub due : comma ≡ comma_text later
  pub so_far : Separates text start all out later rest

module _ {A : Type 0} (text : A → List ℕ) (start : List ℕ) (all : List A) where
  pub none_separated : HasSeparated text start all start [] all
  none_separated = record { later = false; due = refl; so_far = refl }

  -- The comma and the element at an index are written.
  pub next_separated : (out comma : List ℕ) (i : ℕ) (x : A) (after : List ℕ) → HasSeparated text start all out comma (drop i all) → i < length all
      → after ≡ out ++ (comma ++ text (get_or all i x)) → HasSeparated text start all after (codes ",") (drop (i + 1) all)
  next_separated out comma i x after so below put =
      let split : drop i all ≡ get_or all i x ∷ drop (i + 1) all = rw add-one (drop-cons all i x below) in
      let here : Separates text start all out so.later (get_or all i x ∷ drop (i + 1) all) = subst (λ (rest : List A). Separates text start all out so.later rest) split so.so_far in
      record {
        later = true;
        due = refl;
        so_far =
            separates_next text start all out so.later (get_or all i x) (drop (i + 1) all) (out ++ comma) after here (ap (λ (due : List ℕ). out ++ due) so.due) (put ∙ sym (append_assoc out comma (text (get_or all i x))));
      }

  pub all_separated : (out comma : List ℕ) (i : ℕ) → HasSeparated text start all out comma (drop i all) → length all ≤ i → out ≡ start ++ separated_text text false all
  all_separated out comma i so none =
      separates_all text start all out so.later (subst (λ (rest : List A). Separates text start all out so.later rest) (drop_all i all none) so.so_far)

regroup_line : (a e b last c lives d numbers f places z end : List ℕ)
    → (a ++ (e ++ b)) ++ (last ++ (c ++ (lives ++ (d ++ (numbers ++ (f ++ (places ++ (z ++ end)))))))) ≡ (a ++ (e ++ (b ++ (last ++ (c ++ (lives ++ (d ++ (numbers ++ (f ++ (places ++ z)))))))))) ++ end
regroup_line a e b last c lives d numbers f places z end = simp append_assoc refl

when_ok : {T E : Type 0} (result : Result T E) (after longer before : List ℕ) → after ≡ (if is_ok result then longer else before) → OnOk result (after ≡ longer)
when_ok (Ok t) after longer before is = is
when_ok (Err e) after longer before is = tt

-- A header's parts are written one after another.
pub header_written : {T E : Type 0} (result : Result T E) (names : List (List ℕ)) (past : HeaderValues) (out first second third fourth fifth sixth seventh eighth last : List ℕ)
    → first ≡ out ++ (codes "{\"epoch\":" ++ (decimal past.epoch ++ codes ",\"last\":[")) → second ≡ first ++ last_jobs_text names past.last → third ≡ second ++ codes "],\"lives\":["
    → fourth ≡ third ++ numbers_text past.lives → fifth ≡ fourth ++ codes "],\"numbers\":[" → sixth ≡ fifth ++ numbers_text past.numbers
    → seventh ≡ sixth ++ codes "],\"places\":[" → eighth ≡ seventh ++ places_text past.places
    → last ≡ (if is_ok result then eighth ++ codes "],\"rme\":\"kept\",\"version\":2}\n" else eighth) → OnOk result (last ≡ out ++ header_line names past)
header_written result names past out first second third fourth fifth sixth seventh eighth last a b c d e f h i z =
    let front : List ℕ = codes "{\"epoch\":" ++ (decimal past.epoch ++ codes ",\"last\":[") in
    let words = last_jobs_text names past.last in
    let lives = numbers_text past.lives in
    let numbers = numbers_text past.numbers in
    let places = places_text past.places in
    let end : List ℕ = codes "],\"rme\":\"kept\",\"version\":2}" in
    on_ok_weaker result
    (λ g. append_five out first second third fourth last front words (codes "],\"lives\":[") lives (codes "],\"numbers\":[" ++ (numbers ++ (codes "],\"places\":[" ++ (places ++ (end ++ 10 ∷ []))))) a b c d
    (append_five fourth fifth sixth seventh eighth last (codes "],\"numbers\":[") numbers (codes "],\"places\":[") places (end ++ 10 ∷ []) e f h i g)
    ∙ ap (λ (line : List ℕ). out ++ line)
    (regroup_line (codes "{\"epoch\":") (decimal past.epoch) (codes ",\"last\":[") words (codes "],\"lives\":[") lives (codes "],\"numbers\":[") numbers (codes "],\"places\":[") places end (10 ∷ [])))
    (when_ok result last (eighth ++ (end ++ 10 ∷ [])) eighth z)
