use Rattle.std.proofs.Common.{ℕ, List, ap, ◌∙◌, subst}
use Rattle.rme_keys.specs.KeyFiles.{IsKeyFile, IsWhyRefused}
use Rattle.rme_keys.proofs.InTurn.{bytes_of}
use Rattle.rme_keys.proofs.keys.Keys.parse.Goals as goal

pub returns-in-Ok-clause-ok : goal.returns-in-Ok-clause-ok
returns-in-Ok-clause-ok c =
    let same = ap bytes_of c.as_slice.ensures.value ∙ c.in_ok-lines.ensures in
    subst (λ (lines : List (List ℕ)). IsKeyFile lines c.in-Ok.keys.items) same c.in-Ok.ensures.ok

pub returns-clause-err : goal.returns-clause-err
returns-clause-err c =
    let same = ap bytes_of c.as_slice.ensures.value ∙ c.in_ok-lines.ensures in
    subst (λ (lines : List (List ℕ)). IsWhyRefused lines c.in-Err.error) same c.in-Err.ensures.err
