use Rattle.std.proofs.lemmas.Result.{IfOk-weaker}
use Rattle.rme_keys.specs.Finding.{Finds}
use Rattle.rme_keys.specs.Spaces.{IsNamePattern, IsPatternText, IsPrefixPattern}
use Rattle.rme_keys.proofs.SpaceTexts.{from_name, from_prefix}
use Rattle.rme_keys.proofs.spaces.pattern_of_text.Goals as goal

pub returns-in-Some : goal.returns-in-Some
returns-in-Some c =
    let text = c.args.text.now in
    let front = c.in-Some.front.now in
    IfOk-weaker c.prefix_pattern.result (Finds (IsPrefixPattern front)) (Finds (IsPatternText text)) (λ found. from_prefix text front found c.in-Some.ensures) c.prefix_pattern.ensures

pub returns-in-None : goal.returns-in-None
returns-in-None c =
    let text = c.args.text.now in
    IfOk-weaker c.name_pattern.result (Finds (IsNamePattern text)) (Finds (IsPatternText text)) (λ found. from_name text found c.in-None.ensures) c.name_pattern.ensures
