-- Texts that are appended one after another.
use Rattle.std.proofs.Common.{◌≡◌, ℕ, List, ◌++◌, ap, append_assoc, ◌∙◌}

pub appends_two : (out first second a b : List ℕ) → first ≡ out ++ a → second ≡ first ++ b → second ≡ out ++ (a ++ b)
appends_two out first second a b e f = f ∙ ap (λ (text : List ℕ). text ++ b) e ∙ append_assoc out a b

pub appends_three : (out first second third a b c : List ℕ) → first ≡ out ++ a → second ≡ first ++ b → third ≡ second ++ c
    → third ≡ out ++ (a ++ (b ++ c))
appends_three out first second third a b c e f g =
    appends_two out first third a (b ++ c) e (appends_two first second third b c f g)

pub appends_five : (out first second third fourth fifth a b c d e : List ℕ) → first ≡ out ++ a → second ≡ first ++ b
    → third ≡ second ++ c → fourth ≡ third ++ d → fifth ≡ fourth ++ e → fifth ≡ out ++ (a ++ (b ++ (c ++ (d ++ e))))
appends_five out first second third fourth fifth a b c d e f g h i j =
    appends_three out first second fifth a b (c ++ (d ++ e)) f g (appends_three second third fourth fifth c d e h i j)

pub appends_four : (out first second third fourth a b c d : List ℕ) → first ≡ out ++ a → second ≡ first ++ b
    → third ≡ second ++ c → fourth ≡ third ++ d → fourth ≡ out ++ (a ++ (b ++ (c ++ d)))
appends_four out first second third fourth a b c d e f g h =
    appends_two out first fourth a (b ++ (c ++ d)) e (appends_three first second third fourth b c d f g h)

pub appends_six : (out first second third fourth fifth sixth a b c d e f : List ℕ) → first ≡ out ++ a
    → second ≡ first ++ b → third ≡ second ++ c → fourth ≡ third ++ d → fifth ≡ fourth ++ e → sixth ≡ fifth ++ f
    → sixth ≡ out ++ (a ++ (b ++ (c ++ (d ++ (e ++ f)))))
appends_six out first second third fourth fifth sixth a b c d e f g h i j k l =
    appends_three out first second sixth a b (c ++ (d ++ (e ++ f))) g h
    (appends_four second third fourth fifth sixth c d e f i j k l)
