-- The answer to a request.
use Rattle.std.specs.Prelude.{◌≡◌, ℕ, List, Some, codes}
use Rattle.serde_json.specs.View.{view}
use Rattle.rme_ask_client.specs.Members.{text_member}
use Rattle.rme_ask_client.specs.declared.answer.ServerAnswer.{ServerAnswer}
use Rattle.rme_ask_client.specs.declared.answer.ServerAnswer.TheVariants.{Accepted, Refused}

-- If the request is accepted, the answer repeats its word.
abbrev pub RepeatsWord : List ℕ → ServerAnswer → Type 0
RepeatsWord word (Accepted value) = text_member (codes "ok") (view value) ≡ Some word
RepeatsWord word (Refused refused) = Unit {0}
