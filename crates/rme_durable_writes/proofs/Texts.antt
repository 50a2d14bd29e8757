-- Texts of parts that were appended one by one.
use Rattle.std.proofs.Common.{◌≡◌, List, ◌++◌, ℕ, ◌∙◌}
use Rattle.std.proofs.lemmas.List.{append_assoc}

pub five_parts : (text a b c d e : List ℕ) → ((((text ++ a) ++ b) ++ c) ++ d) ++ e ≡ text ++ (a ++ (b ++ (c ++ (d ++ e))))
five_parts text a b c d e =
    append_assoc (((text ++ a) ++ b) ++ c) d e ∙ append_assoc ((text ++ a) ++ b) c (d ++ e) ∙ append_assoc (text ++ a) b (c ++ (d ++ e)) ∙ append_assoc text a (b ++ (c ++ (d ++ e)))
