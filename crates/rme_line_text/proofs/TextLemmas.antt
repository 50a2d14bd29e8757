-- Texts of lists, written item by item.
use Rattle.std.proofs.Common.{◌≡◌, ℕ, List, [], ◌∷◌, ◌++◌, Bool, true, false, ap, ◌∙◌, sym, append_assoc, append-nil}
use Rattle.rme_line_text.specs.Texts.{comma_text, separated_text}

-- the written text, with that of the rest, is the text of all
abbrev pub Separates : {A : Type 0} → (A → List ℕ) → List ℕ → List A → List ℕ → Bool → List A → Type 0
Separates text start all out later rest = out ++ separated_text text later rest ≡ start ++ separated_text text false all

-- one more item is written
pub separates_next : {A : Type 0} (text : A → List ℕ) (start : List ℕ) (all : List A) (out : List ℕ) (later : Bool) (x : A) (rest : List A) (between after : List ℕ)
    → Separates text start all out later (x ∷ rest) → between ≡ out ++ comma_text later → after ≡ between ++ text x → Separates text start all after true rest
separates_next text start all out later x rest between after so_far e f =
    let after_is : after ≡ (out ++ comma_text later) ++ text x = f ∙ ap (λ l. l ++ text x) e in
    ap (λ l. l ++ separated_text text true rest) after_is ∙ append_assoc (out ++ comma_text later) (text x) (separated_text text true rest)
    ∙ append_assoc out (comma_text later) (text x ++ separated_text text true rest) ∙ so_far

-- none is left
pub separates_all : {A : Type 0} (text : A → List ℕ) (start : List ℕ) (all : List A) (out : List ℕ) (later : Bool) → Separates text start all out later []
    → out ≡ start ++ separated_text text false all
separates_all text start all out later so_far = sym (append-nil out) ∙ so_far

-- three texts, one after another
pub append_three : (out first second third : List ℕ) (a b c : List ℕ) → first ≡ out ++ a → second ≡ first ++ b → third ≡ second ++ c → third ≡ out ++ (a ++ (b ++ c))
append_three out first second third a b c e f g =
    g ∙ ap (λ l. l ++ c) (f ∙ ap (λ l. l ++ b) e) ∙ append_assoc (out ++ a) b c ∙ append_assoc out a (b ++ c)

-- five texts, one after another
pub append_five : (out first second third fourth fifth : List ℕ) (a b c d e : List ℕ) → first ≡ out ++ a → second ≡ first ++ b → third ≡ second ++ c → fourth ≡ third ++ d → fifth ≡ fourth ++ e
    → fifth ≡ out ++ (a ++ (b ++ (c ++ (d ++ e))))
append_five out first second third fourth fifth a b c d e f g h i j =
    append_three out first second fifth a b (c ++ (d ++ e)) f g (append_three second third fourth fifth c d e h i j)
