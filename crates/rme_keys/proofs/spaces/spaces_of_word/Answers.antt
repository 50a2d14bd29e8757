use Rattle.std.proofs.Common.{true, false}
use Rattle.std.proofs.lemmas.Result.{IfOk-weaker}
use Rattle.rme_keys.specs.Finding.{Finds}
use Rattle.rme_keys.specs.Spaces.{IsTextOf, IsWordOf}
use Rattle.rme_keys.proofs.SpaceTexts.{from_no_plus, from_plus}
use Rattle.rme_keys.proofs.spaces.spaces_of_word.Goals as goal

pub returns-in-Some : goal.returns-in-Some
returns-in-Some c =
    let word = c.args.word.now in
    let rest = c.in-Some.text.now in
    IfOk-weaker c.spaces_with.result (Finds (IsTextOf true rest)) (Finds (IsWordOf word)) (λ found. from_plus word rest found c.in-Some.ensures) c.spaces_with.ensures

pub returns-in-None : goal.returns-in-None
returns-in-None c =
    let word = c.args.word.now in
    IfOk-weaker c.spaces_with-in-None.result (Finds (IsTextOf false word)) (Finds (IsWordOf word)) (λ found. from_no_plus word found c.in-None.ensures) c.spaces_with-in-None.ensures
