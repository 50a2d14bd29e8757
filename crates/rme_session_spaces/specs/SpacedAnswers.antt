-- HOW A LINE IS ANSWERED BY A SERVER OF SPACES. An order on spaces never reaches the backend of a space, and every
-- other line does. The answer to an order on spaces is what the directory answered to the call of that order. A session
-- goes on in the space that it asked for, and only behind the answer that says so.
use Rattle.std.specs.Prelude.{◌≡◌, ℕ, List, Option, Some, None, Result, Ok, Err}
use Rattle.rme_line_io.specs.Pieces.{InputLine, text, too_long}
use Rattle.rme_session_protocol.specs.SessionLines.{session_reply_line}
use Rattle.rme_session_protocol.specs.declared.reply.SessionReply.TheVariants.{Refused}
use Rattle.rme_session_spaces.specs.DirectoryCalls.{DirectoryCalls}
use Rattle.rme_session_spaces.specs.declared.directory.SpacePage.{SpacePage}
use Rattle.rme_session_spaces.specs.declared.spaced_backend.SpacedStand.{SpacedStand}
use Rattle.rme_space_orders.specs.SpaceOrders.{line_of_bytes}
use Rattle.rme_space_orders.specs.SpaceReplies.{space_reply_text, spaces_text}
use Rattle.rme_space_orders.specs.declared.space_line.SpaceLine.{SpaceLine}
use Rattle.rme_space_orders.specs.declared.space_line.SpaceLine.TheVariants as line
use Rattle.rme_space_orders.specs.declared.space_line.SpaceOrder.{SpaceOrder}
use Rattle.rme_space_orders.specs.declared.space_line.SpaceOrder.TheVariants.{Create, Use, Spaces, Drop}
use Rattle.rme_space_orders.specs.declared.space_reply.SpaceReply.TheVariants.{Created, Used, Dropped}
use Rattle.rme_words.specs.declared.refusal.Refusal.{Refusal}
use Rattle.rme_words.specs.declared.refusal.Refusal.TheVariants.{Busy}

-- What a line is for a server of spaces; one that is too long is no order.
abbrev pub asked_space_line : InputLine → SpaceLine
asked_space_line too_long = line.Other
asked_space_line (text bytes) = line_of_bytes bytes

-- The line of a refusal, which names no lock.
abbrev pub refused_order_line : List (List ℕ) → Refusal → List ℕ
refused_order_line names why = session_reply_line names (Refused why)

-- What the answers depend on: the names of the backend's locks, the calls of the directory, and the worker that a
-- session has.
pub record SpacedTerms (S V : Type 0) : Type 1 where
  pub names : List (List ℕ)
  pub calls : DirectoryCalls V
  pub attached : S → Option ℕ

abbrev pub spaced_terms : {S V : Type 0} → List (List ℕ) → DirectoryCalls V → (S → Option ℕ) → SpacedTerms S V
spaced_terms names calls attached = record { names = names; calls = calls; attached = attached }

-- The lines that tell what the directory did.
abbrev pub created_line : Unit {0} → List ℕ
created_line done = space_reply_text Created

abbrev pub used_line : {V : Type 0} → V → List ℕ
used_line visit = space_reply_text Used

abbrev pub page_line : SpacePage → List ℕ
page_line page = spaces_text page.names.items page.has_more

abbrev pub dropped_line : Unit {0} → List ℕ
dropped_line done = space_reply_text Dropped

-- The line of an answer of the directory: what it did, or its refusal.
abbrev pub answer_line : {A : Type 0} → List (List ℕ) → (A → List ℕ) → Result A Refusal → List ℕ
answer_line names line_of (Ok done) = line_of done
answer_line names line_of (Err why) = refused_order_line names why

-- THE LINE TELLS A CALL: the directory was asked for this, and the line is that of its answer.
abbrev pub TellsCall : {Q A : Type 0} → (Q → Result A Refusal → Type 0) → (A → List ℕ) → List (List ℕ) → Q → List ℕ
    → Type 0
TellsCall {Q} {A} Answered line_of names asked bytes =
    (answer : Result A Refusal) × Answered asked answer × (bytes ≡ answer_line names line_of answer)

-- A session behind its order to use a space: it goes on with its visit, if there is one.
abbrev pub stand_after : {S V : Type 0} → SpacedStand S V → Result V Refusal → SpacedStand S V
stand_after old (Ok visit) = record { stand = old.stand; visit = Some visit }
stand_after old (Err why) = old

-- A session without a worker is told what the directory answered, and goes on so. With a worker it is refused.
abbrev pub AnswersUse : {S V : Type 0} → SpacedTerms S V → SpacedStand S V → List ℕ → List ℕ → SpacedStand S V
    → Option ℕ → Type 0
AnswersUse terms old name bytes new (Some worker) = (bytes ≡ refused_order_line terms.names Busy) × (new ≡ old)
AnswersUse {S} {V} terms old name bytes new None =
    (answer : Result V Refusal) × terms.calls.entered name answer × (bytes ≡ answer_line terms.names used_line answer)
    × (new ≡ stand_after old answer)

abbrev pub AnswersSpaceOrder : {S V : Type 0} → SpacedTerms S V → SpacedStand S V → SpaceOrder → List ℕ
    → SpacedStand S V → Type 0
AnswersSpaceOrder terms old (Use name) bytes new = AnswersUse terms old name bytes new (terms.attached old.stand)
AnswersSpaceOrder terms old (Create space) bytes new =
    TellsCall terms.calls.created created_line terms.names space bytes × (new ≡ old)
AnswersSpaceOrder terms old (Spaces after) bytes new =
    TellsCall terms.calls.listed page_line terms.names after bytes × (new ≡ old)
AnswersSpaceOrder terms old (Drop name) bytes new =
    TellsCall terms.calls.removed dropped_line terms.names name bytes × (new ≡ old)

abbrev pub AnswersSpaceLine : {S V : Type 0} → SpacedTerms S V → (S → InputLine → List ℕ → S → Type 0)
    → SpacedStand S V → InputLine → List ℕ → SpacedStand S V → SpaceLine → Type 0
AnswersSpaceLine terms answers old input bytes new line.Other =
    answers old.stand input bytes new.stand × (new.visit ≡ old.visit)
AnswersSpaceLine terms answers old input bytes new (line.Refused why) =
    (bytes ≡ refused_order_line terms.names why) × (new ≡ old)
AnswersSpaceLine terms answers old input bytes new (line.Order order) = AnswersSpaceOrder terms old order bytes new

abbrev pub SpacedLineAnswer : {S V : Type 0} → SpacedTerms S V → (S → InputLine → List ℕ → S → Type 0)
    → SpacedStand S V → InputLine → List ℕ → SpacedStand S V → Type 0
SpacedLineAnswer terms answers old input bytes new =
    AnswersSpaceLine terms answers old input bytes new (asked_space_line input)
