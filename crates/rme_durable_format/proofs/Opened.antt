-- The world that a file opens: line 2 opens it, or is rejected, and not both; no later line changes its sizes or names.
use Rattle.std.proofs.Common.{◌≡◌, ◌≢◌, ℕ, List, [], ◌∷◌, refl, sym, ◌∙◌, ap, subst, inl, inr}
use Rattle.std.specs.Prelude.{true, Option, Some, None, Result, Ok, Err}
use Rattle.std.proofs.lemmas.Bool.{false≢true}
use Rattle.std.proofs.lemmas.Option.{none-some, same_Some}
use Rattle.rme_words.specs.declared.refusal.Refusal.{Refusal}
use Rattle.rme_words.specs.declared.refusal.Refusal.TheVariants.{BadShape, NoMemory}
use Rattle.rme_words.specs.declared.shape.Shape.{Shape}
use Rattle.rme_words.proofs.Shapes.{same_shape}
use Rattle.rme_program.specs.declared.event.Answer.{Answer}
use Rattle.rme_program.specs.declared.event.Event.{Event}
use Rattle.rme_program.specs.declared.event.Event.TheVariants as event
use Rattle.rme_line_io.specs.Pieces.{InputLine}
use Rattle.rme_line_text.specs.declared.answer.Acknowledgement.TheVariants as word
use Rattle.rme_line_text.specs.declared.reply.Reply.{Reply}
use Rattle.rme_line_text.specs.declared.reply.Reply.TheVariants.{Done, Refused}
use Rattle.rme_wire.specs.Openings.{ShapeIsAsGiven, IsGoodOpening, MayRefuseOpening}
use Rattle.rme_wire.specs.Requests.{request_read}
use Rattle.rme_wire.specs.declared.opening.Opening.{Opening}
use Rattle.rme_wire.specs.declared.request.Request.{Request}
use Rattle.rme_wire.specs.declared.request.Request.TheVariants.{Open, Load, World}
use Rattle.rme_world.specs.EventLists.{EventContract, EventListContract}
use Rattle.rme_world.specs.WorldViews.{WorldView}
use Rattle.rme_line_engine.specs.Lines.{RequestEffect, OpenOutcome}
use Rattle.rme_line_engine.specs.EngineStates.{EngineState, nothing_open}
use Rattle.rme_line_engine.specs.Tallies.{tallied_opening}
use Rattle.rme_line_engine.specs.declared.tallied.TalliedWorld.{TalliedWorld}
use Rattle.rme_durable_format.specs.Recovery.{AcceptsLine, AcceptsLines, RejectsLine, is_log_request, reply_refusal}
use Rattle.rme_durable_format.proofs.Running.{line_runs}

-- ---- later lines

event_shape : (one : Event) (given : Answer) (old new : WorldView) → EventContract old one given new → new.shape ≡ old.shape
event_shape (event.Submit worker job) given old new call = call.2.headline.shape
event_shape (event.Step worker) given old new call = call.2.headline.shape
event_shape (event.Crash worker) given old new call = call.2.headline.shape
event_shape (event.Restart worker) given old new call = call.2.headline.shape
event_shape (event.Withdraw worker) given old new call = call.2.headline.shape

events_shape : (events : List Event) (given : List Answer) (old new : WorldView) → EventListContract old events given new → new.shape ≡ old.shape
events_shape [] [] old new all = ap (λ (s : WorldView). s.shape) all
events_shape [] (answer ∷ given) old new all = absurd all
events_shape (one ∷ events) [] old new all = absurd all
events_shape (one ∷ events) (answer ∷ given) old new all = events_shape events given all.0 new all.2 ∙ event_shape one answer old all.0 all.1.call

-- An open world stays open, with the same names and sizes.
abbrev pub StaysOpen : List (List ℕ) → Shape → EngineState → Type 0
StaysOpen names shape new = (after : TalliedWorld) × (new ≡ record { names = names; world = Some after }) × (after.world.shape ≡ shape)

pub stays_open : (lines : List InputLine) (names : List (List ℕ)) (old : TalliedWorld) (new : EngineState) → AcceptsLines record { names = names; world = Some old } lines new → StaysOpen names old.world.shape new
stays_open [] names old new accepts = (old, accepts, refl)
stays_open (line ∷ lines) names old new accepts =
    let its = accepts.1 in
    let one = line_runs names old its.request its.reply accepts.0 its.kept its.taken its.obeys in
    let A : EngineState → Type 0 = λ (s : EngineState). AcceptsLines s lines new in
    let rest = stays_open lines names one.0 new (subst A one.1 accepts.2) in
    (rest.0, rest.1, rest.2 ∙ events_shape one.2.0 one.2.1.0 old.world one.0.world one.2.1.1)

-- ---- line 2

-- From no world, a line opens this one: it asks for that, within the limits.
pub record OpensAsGiven (line : InputLine) (new : EngineState) : Type 0 where
  pub given : Opening
  pub shape : Shape
  pub asks : request_read [] line ≡ Some (Open given)
  pub good : IsGoodOpening given
  pub sizes : ShapeIsAsGiven given shape
  pub opens : new ≡ record { names = given.locks; world = Some (tallied_opening shape) }

opened_by : (line : InputLine) (given : Opening) (result : Result Shape Refusal) (told : Reply) (new : EngineState) → request_read [] line ≡ Some (Open given) → reply_refusal told ≡ None → OpenOutcome nothing_open given result told new → OpensAsGiven line new
opened_by line given (Ok shape) told new asks taken opens = record { given = given; shape = shape; asks = asks; good = opens.0; sizes = opens.1; opens = opens.3 }
opened_by line given (Err refusal) told new asks taken opens = absurd (none-some _ (sym taken ∙ ap reply_refusal opens.1))

accepted_by : (line : InputLine) (request : Request) (told : Reply) (new : EngineState) → request_read [] line ≡ Some request → is_log_request request ≡ true → reply_refusal told ≡ None → RequestEffect nothing_open (Some request) told new → OpensAsGiven line new
accepted_by line (Open given) told new asks kept taken obeys = opened_by line given obeys.0 told new asks taken obeys.1
accepted_by line (Load given) told new asks kept taken obeys = absurd (false≢true kept)
accepted_by line (World its) told new asks kept taken obeys = absurd (none-some _ (sym taken ∙ ap reply_refusal obeys.0))

pub accepted_opens : (line : InputLine) (new : EngineState) → AcceptsLine nothing_open line new → OpensAsGiven line new
accepted_opens line new accepts = accepted_by line accepts.request accepts.reply new accepts.asks accepts.kept accepts.taken accepts.obeys

-- The lines from line 2 on are accepted: line 2 opens a world, which stays open.
pub first_opens : (line : InputLine) (lines : List InputLine) (new : EngineState) → AcceptsLines nothing_open (line ∷ lines) new → (mid : EngineState) × AcceptsLine nothing_open line mid × (opened : OpensAsGiven line mid) × StaysOpen opened.given.locks opened.shape new
first_opens line lines new accepts =
    let opened = accepted_opens line accepts.0 accepts.1 in
    let A : EngineState → Type 0 = λ (s : EngineState). AcceptsLines s lines new in
    (accepts.0, accepts.1, opened, stays_open lines opened.given.locks (tallied_opening opened.shape) new (subst A opened.opens accepts.2))

-- A line opens one world at most.
pub opens_same : (line : InputLine) (one other : EngineState) → AcceptsLine nothing_open line one → AcceptsLine nothing_open line other → one ≡ other
opens_same line one other first second =
    let a = accepted_opens line one first in
    let b = accepted_opens line other second in
    let request : Open a.given ≡ Open b.given = same_Some _ _ (sym a.asks ∙ b.asks) in
    let given : a.given ≡ b.given = cc in
    let S : Opening → Type 0 = λ (g : Opening). ShapeIsAsGiven g b.shape in
    let sizes : ShapeIsAsGiven a.given b.shape = subst S (sym given) b.sizes in
    let shape : a.shape ≡ b.shape = same_shape a.shape b.shape (a.sizes.0 ∙ sym sizes.0) (a.sizes.1 ∙ sym sizes.1) (a.sizes.2 ∙ sym sizes.2) (a.sizes.3 ∙ sym sizes.3) in
    let named : Opening → EngineState = λ (g : Opening). record { names = g.locks; world = Some (tallied_opening a.shape) } in
    let sized : Shape → EngineState = λ (s : Shape). record { names = b.given.locks; world = Some (tallied_opening s) } in
    a.opens ∙ (ap named given ∙ (ap sized shape ∙ sym b.opens))

-- A good opening is refused for want of memory only.
refusal_of_good : (given : Opening) (why : Refusal) → IsGoodOpening given → MayRefuseOpening given why → why ≡ NoMemory
refusal_of_good given BadShape good may = absurd (may good)
refusal_of_good given NoMemory good may = refl
refusal_of_good given other good may = absurd may

refuses_good : (given : Opening) (why : Refusal) (new : EngineState) (result : Result Shape Refusal) → IsGoodOpening given → OpenOutcome nothing_open given result (Refused why) new → why ≢ NoMemory → ⊥
refuses_good given why new (Ok shape) good opens real = let e : Refused why ≡ Done word.Open = opens.2 in cc
refuses_good given why new (Err refusal) good opens real =
    let e : Refused why ≡ Refused refusal = opens.1 in
    let same : why ≡ refusal = cc in real (same ∙ refusal_of_good given refusal good opens.0)

rejects_good : (given : Opening) → IsGoodOpening given → RejectsLine nothing_open (Some (Open given)) → ⊥
rejects_good given good (inl closed) = false≢true (sym closed)
rejects_good given good (inr refuses) = refuses_good given refuses.why refuses.new refuses.obeys.0 good refuses.obeys.1 refuses.real

-- A line that opens a world is not rejected.
pub opens_unrejected : (line : InputLine) (new : EngineState) → AcceptsLine nothing_open line new → RejectsLine nothing_open (request_read [] line) → ⊥
opens_unrejected line new accepts rejects =
    let opened = accepted_opens line new accepts in
    let R : Option Request → Type 0 = λ (request : Option Request). RejectsLine nothing_open request in
    rejects_good opened.given opened.good (subst R opened.asks rejects)
