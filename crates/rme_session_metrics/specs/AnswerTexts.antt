-- What the text of an answer says, for counting.
use Rattle.std.specs.Prelude.{◌≡◌, ℕ, List, ◌∷◌, ◌++◌, codes, drop}
use Rattle.rme_metrics.specs.OrderKinds.{order_kind_word}
use Rattle.rme_metrics.specs.declared.order_kind.OrderKind.{OrderKind}
use Rattle.rme_session_metrics.specs.declared.answer_text.CountedAnswer.{CountedAnswer}
use Rattle.rme_session_metrics.specs.declared.answer_text.CountedAnswer.TheVariants.{Answered, Refused, Uncounted}

-- From some place on it has the member `"ok"` with the word of this kind.
abbrev pub SaysKind : List ℕ → OrderKind → Type 0
SaysKind text kind =
    (at : ℕ) × (behind : List ℕ) × (drop at text ≡ codes "\"ok\":\"" ++ (order_kind_word kind ++ 34 ∷ behind))

-- It is that of a refusal.
abbrev pub SaysRefusal : List ℕ → Type 0
SaysRefusal text = (behind : List ℕ) × (text ≡ codes "{\"code\":" ++ behind)

-- What is counted is what the text says.
abbrev pub SaysAnswer : List ℕ → CountedAnswer → Type 0
SaysAnswer text (Answered kind) = SaysKind text kind
SaysAnswer text (Refused code) = SaysRefusal text
SaysAnswer text Uncounted = Unit {0}
