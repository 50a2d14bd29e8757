use Rattle.std.proofs.Common.{◌≡◌, ◌<◌, ℕ, List, ◌∷◌, ◌++◌, Some, ap, arith, drop, get_or, length, ◌∙◌}
use Rattle.std.proofs.lemmas.Bool.Decides.{Decides-eqb}
use Rattle.std.proofs.lemmas.List.{drop_more}
use Rattle.std.proofs.lemmas.Slice.Eq.{strip_prefix_is}
use Rattle.rme_session_metrics.proofs.answer_text.is_word.Goals as goal

pub returns-in-Some-eq34 : goal.returns-in-Some-eq34
returns-in-Some-eq34 c = λ is.
    let behind = c.in-Some-eq34.field-0.now in
    let split = strip_prefix_is Decides-eqb c.args.text.now c.args.word.now (Some c.in-Some-eq34.field-0) c.in-Some-eq34.ensures.cases in
    let long : 0 < length behind = omega arith in
    let here : get_or behind 0 0 ≡ 34 = omega arith in
    (drop 1 behind, split ∙ ap (λ (rest : List ℕ). c.args.word.now ++ rest) (drop_more behind 0 0 long ∙ ap (λ (byte : ℕ). byte ∷ drop 1 behind) here))
