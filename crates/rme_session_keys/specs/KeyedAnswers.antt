-- HOW A LINE IS ANSWERED BY A SERVER WITH KEYS. A line reaches the backend only with a key that allows the worker and
-- the space that the line asks for.
use Rattle.std.specs.Prelude.{◌≡◌, ◌⊎◌, ℕ, Bool, List, [], ◌∷◌, ◌++◌, Option, Some, None}
use Rattle.sha2.specs.Sha256.{sha256}
use Rattle.rme_keys.specs.Allowing.{FindsKey, IsCopy, name_of}
use Rattle.rme_keys.specs.declared.key.Key.{Key}
use Rattle.rme_line_io.specs.Pieces.{InputLine}
use Rattle.rme_line_text.specs.Replies.{refusal_text}
use Rattle.rme_session_keys.specs.AskedSpaces.{AllowsSpaceLine}
use Rattle.rme_session_keys.specs.AskedWorkers.{AllowsAsked, asked_worker}
use Rattle.rme_session_keys.specs.Hellos.{hello_line, secret_of_line}
use Rattle.rme_session_keys.specs.declared.hello.Greeting.{Greeting}
use Rattle.rme_session_keys.specs.declared.hello.Greeting.TheVariants.{NoHello, WrongSecret, Known}
use Rattle.rme_session_keys.specs.declared.keyed_backend.Access.{Access}
use Rattle.rme_session_keys.specs.declared.keyed_backend.Access.TheVariants.{NoKey, Refused, Granted}
use Rattle.rme_session_keys.specs.declared.keyed_backend.KeyedStand.{KeyedStand}
use Rattle.rme_words.specs.declared.refusal.Refusal.TheVariants.{NotAllowed}

-- What was found for a secret among keys that the server had at some time: a copy of a key, or none.
abbrev pub FoundKey : (List Key → Type 0) → List ℕ → Option Key → Type 0
FoundKey had secret None = (keys : List Key) × had keys × FindsKey keys (sha256 secret) None
FoundKey had secret (Some copy) =
    (keys : List Key) × (key : Key) × had keys × FindsKey keys (sha256 secret) (Some key) × IsCopy key copy

-- What a line is for a session without a key, by its secret.
abbrev pub Greeted : (List Key → Type 0) → Option (List ℕ) → Greeting → Type 0
Greeted had None NoHello = Unit {0}
Greeted had (Some secret) WrongSecret = FoundKey had secret None
Greeted had (Some secret) (Known key) = FoundKey had secret (Some key)
Greeted had secret greeting = ⊥

-- The refusal of what no key allows.
abbrev pub refused_line : List ℕ
refused_line = refusal_text NotAllowed ++ 10 ∷ []

-- The answer to a line of a session without a key, and its access then.
abbrev pub AnswersGreeting : Greeting → List ℕ → Access → Type 0
AnswersGreeting NoHello bytes access = (bytes ≡ refused_line) × (access ≡ NoKey)
AnswersGreeting WrongSecret bytes access = (bytes ≡ refused_line) × (access ≡ Refused)
AnswersGreeting (Known key) bytes access = (bytes ≡ hello_line (name_of key)) × (access ≡ Granted key)

abbrev pub AnswersStranger : (List Key → Type 0) → Option (List ℕ) → List ℕ → Access → Type 0
AnswersStranger had secret bytes access =
    (greeting : Greeting) × Greeted had secret greeting × AnswersGreeting greeting bytes access

-- What the answers depend on: the keys that the server had, the names of its locks, the number of its workers, and
-- whether it has orders on spaces.
pub record KeyedTerms : Type 1 where
  pub had : List Key → Type 0
  pub names : List (List ℕ)
  pub workers : ℕ
  pub has_spaces : Bool

abbrev pub keyed_terms : (List Key → Type 0) → List (List ℕ) → ℕ → Bool → KeyedTerms
keyed_terms had names workers has_spaces =
    record { had = had; names = names; workers = workers; has_spaces = has_spaces }

-- The key allows the worker and the space that the line asks for.
abbrev pub AllowsLine : KeyedTerms → Key → InputLine → Type 0
AllowsLine terms key line =
    AllowsAsked terms.workers key (asked_worker terms.names line) × AllowsSpaceLine terms.has_spaces key line

-- A line that the key allows is answered by the backend; any other is refused, and changes nothing.
abbrev pub AnswersHolder : {S : Type 0} → (S → InputLine → List ℕ → S → Type 0) → S → InputLine → List ℕ → S
    → Type 0 → Type 0
AnswersHolder answers old line bytes new allowed =
    (allowed × answers old line bytes new) ⊎ ((allowed → ⊥) × (bytes ≡ refused_line) × (new ≡ old))

abbrev pub AnswersByAccess : {S : Type 0} → KeyedTerms → (S → InputLine → List ℕ → S → Type 0) → KeyedStand S
    → InputLine → List ℕ → KeyedStand S → Access → Type 0
AnswersByAccess terms answers old line bytes new NoKey =
    (new.stand ≡ old.stand) × AnswersStranger terms.had (secret_of_line line) bytes new.access
AnswersByAccess terms answers old line bytes new Refused = (bytes ≡ refused_line) × (new ≡ old)
AnswersByAccess terms answers old line bytes new (Granted key) =
    (new.access ≡ Granted key)
    × AnswersHolder answers old.stand line bytes new.stand (AllowsLine terms key line)

abbrev pub KeyedLineAnswer : {S : Type 0} → KeyedTerms → (S → InputLine → List ℕ → S → Type 0) → KeyedStand S
    → InputLine → List ℕ → KeyedStand S → Type 0
KeyedLineAnswer terms answers old line bytes new = AnswersByAccess terms answers old line bytes new old.access
