-- Texts that name values in turn, read one after another.
use Rattle.std.proofs.Common.{◌≡◌, ℕ, ◌+◌, ◌<◌, List, [], ◌∷◌, ◌++◌, Bor, length, Option, Some, None, Result, Ok, Err, IfOk, option_map, map, get_or, drop, append_assoc, append-nil, sym, ap, ◌∙◌, subst}
use Rattle.std.proofs.lemmas.List.{drop_more}
use Rattle.std.proofs.lemmas.Option.{none-some, same_Some}
use Rattle.rme_keys.specs.Finding.{Finds, NameInTurn}

-- the bytes that references point to
abbrev pub bytes_of : List (Bor (List ℕ)) → List (List ℕ)
bytes_of texts = map (λ (text : Bor (List ℕ)). text.now) texts

-- no bytes
abbrev pub blank : Bor (List ℕ)
blank = record { ref_ptr = (0, 0); now = [] }

pub bytes_of-drop : (texts : List (Bor (List ℕ))) (i : ℕ) (d : Bor (List ℕ)) → i < length texts
    → bytes_of (drop i texts) ≡ (get_or texts i d).now ∷ bytes_of (drop (i + 1) texts)
bytes_of-drop texts i d within = ap bytes_of (drop_more texts i d within)

-- The texts up to an index have these values, whatever the rest has.
pub record ReadSoFar {A : Type 0} (Names : List ℕ → A → Type 0) (texts : List (List ℕ)) (done : List A) (rest : List (List ℕ)) : Type 0 where
  pub on : (later : List A) → NameInTurn Names rest later → NameInTurn Names texts (done ++ later)
  pub back : (all : List A) → NameInTurn Names texts all → (later : List A) × NameInTurn Names rest later

parts : {A : Type 0} (Names : List ℕ → A → Type 0) (text : List ℕ) (rest : List (List ℕ)) (all : List A)
    → NameInTurn Names (text ∷ rest) all → (a : A) × (later : List A) × Names text a × NameInTurn Names rest later
parts Names text rest [] named = absurd named
parts Names text rest (a ∷ later) named = (a, later, named.0, named.1)

pub one_more : {A : Type 0} (Names : List ℕ → A → Type 0) (texts : List (List ℕ)) (done longer : List A)
    (text : List ℕ) (rest : List (List ℕ)) (a : A)
    → ReadSoFar Names texts done (text ∷ rest) → Names text a → longer ≡ done ++ a ∷ []
    → ReadSoFar Names texts longer rest
one_more {A} Names texts done longer text rest a so names is =
    let same : (later : List A) → done ++ (a ∷ later) ≡ longer ++ later = λ later. sym (append_assoc done (a ∷ []) later) ∙ ap (λ xs. xs ++ later) (sym is) in
    let All : List A → Type 0 = λ all. NameInTurn Names texts all in
    record {
      on = λ later named. subst All (same later) (so.on (a ∷ later) (names, named));
      back = λ all named. let behind = so.back all named in let split = parts Names text rest behind.0 behind.1 in (split.1, split.3);
    }

pub stuck : {A : Type 0} (Names : List ℕ → A → Type 0) (texts : List (List ℕ)) (done : List A) (text : List ℕ)
    (rest : List (List ℕ))
    → ReadSoFar Names texts done (text ∷ rest) → ((a : A) → Names text a → ⊥) → (all : List A)
    → NameInTurn Names texts all → ⊥
stuck Names texts done text rest so none all named =
    let behind = so.back all named in
    let split = parts Names text rest behind.0 behind.1 in
    none split.0 split.2

pub all_read : {A : Type 0} (Names : List ℕ → A → Type 0) (texts : List (List ℕ)) (done : List A)
    → ReadSoFar Names texts done [] → NameInTurn Names texts done
all_read {A} Names texts done so =
    let All : List A → Type 0 = λ all. NameInTurn Names texts all in
    subst All (append-nil done) (so.on [] tt)

-- what was found of some texts was found of the text that they are cut from
pub found_then : {V A E : Type 0} (r : Result (Option V) E) (items : V → List A) (P Q : List A → Type 0)
    → ((found : Option (List A)) → Finds P found → Finds Q found) → IfOk r (λ found. Finds P (option_map items found))
    → IfOk r (λ found. Finds Q (option_map items found))
found_then (Ok found) items P Q follows finds = follows (option_map items found) finds
found_then (Err e) items P Q follows finds = tt

-- what was found, where the search is known to have found it, or not to
pub nothing_fits : {V A : Type 0} {o : Option V} → o ≡ None → (items : V → List A) (P : List A → Type 0)
    → Finds P (option_map items o) → (all : List A) → P all → ⊥
nothing_fits {o = None} is items P finds = finds
nothing_fits {o = Some v} is items P finds = absurd (none-some v (sym is))

pub this_fits : {V A : Type 0} {o : Option V} {v : V} → o ≡ Some v → (items : V → List A) (P : List A → Type 0)
    → Finds P (option_map items o) → P (items v)
this_fits {o = None} {v} is items P finds = absurd (none-some v is)
this_fits {V} {o = Some w} {v} is items P finds = subst (λ (x : V). P (items x)) (same_Some w v is) finds
