-- Accepted lines, from alike worlds.
use Rattle.std.proofs.Common.{◌≡◌, ℕ, List, [], ◌∷◌, refl, sym, ap, subst, ◌∙◌}
use Rattle.std.specs.Prelude.{true, false, Option, Some, None, Result, Ok, Err}
use Rattle.std.proofs.lemmas.Bool.{false≢true}
use Rattle.std.proofs.lemmas.Option.{none-some, same_Some}
use Rattle.rme_words.specs.declared.shape.Shape.{Shape}
use Rattle.rme_words.specs.declared.refusal.Refusal.{Refusal}
use Rattle.rme_words.specs.declared.refusal.Refusal.TheVariants.{AlreadyOpen, NotOpen}
use Rattle.rme_words.proofs.Shapes.{same_shape}
use Rattle.rme_script.specs.declared.job.Job.{Job}
use Rattle.rme_line_io.specs.Pieces.{InputLine}
use Rattle.rme_line_text.specs.declared.reply.Reply.{Reply}
use Rattle.rme_line_text.specs.declared.reply.Reply.TheVariants as reply
use Rattle.rme_wire.specs.Requests.{request_read}
use Rattle.rme_wire.specs.declared.command.Command.{Command}
use Rattle.rme_wire.specs.declared.command.Command.TheVariants.{Submit, Step, Walk, Crash, Restart, Withdraw, Owner, Cells, Last, History, Report, Save}
use Rattle.rme_wire.specs.declared.opening.Opening.{Opening}
use Rattle.rme_wire.specs.declared.request.Request.{Request}
use Rattle.rme_wire.specs.declared.request.Request.TheVariants.{Open, Load, World}
use Rattle.rme_world.specs.Calls.{SubmitContract}
use Rattle.rme_world.specs.Opening.{world_at_opening}
use Rattle.rme_world.specs.WorldViews.{WorldView}
use Rattle.rme_line_engine.specs.CommandEffects.{CommandEffect}
use Rattle.rme_line_engine.specs.Lines.{CommandEffectIn, RequestEffect, OpenOutcome, OpenEffect}
use Rattle.rme_line_engine.specs.EngineStates.{EngineState, nothing_open, reply_of_call}
use Rattle.rme_line_engine.specs.Tallies.{tallied_opening}
use Rattle.rme_line_engine.specs.declared.tallied.TalliedWorld.{TalliedWorld}
use Rattle.rme_durable_format.specs.Recovery.{AcceptsLine, AcceptsLines, RecoversWorld, changes_world, is_log_request, reply_refusal}
use Rattle.rme_laws.specs.AlikeWorlds.{AreWorldsAlike}
use Rattle.rme_laws.proofs.Events.{alike_itself, crash_one, restart_one, step_one, submits, withdraw_one}
use Rattle.rme_laws.proofs.Walks.{walk_one}

-- An accepted reply is not a refusal.
pub not_refused : {A : Type 0} (says : Reply) (why : Refusal) → says ≡ reply.Refused why → reply_refusal says ≡ None → A
not_refused says why is taken = absurd (none-some why (sym taken ∙ ap reply_refusal is))

pub no_change : {A : Type 0} → false ≡ true → A
no_change is = absurd (false≢true is)

-- Commands.
module _ (old again one other : TalliedWorld) (alike : AreWorldsAlike old.world again.world) where
  submitted_one : (worker : ℕ) (job : Job) (result repeat : Result ℕ Refusal) (says also : Reply)
      → says ≡ reply_of_call reply.Handed result → also ≡ reply_of_call reply.Handed repeat → reply_refusal says ≡ None
      → reply_refusal also ≡ None
      → SubmitContract old.world worker job result one.world → SubmitContract again.world worker job repeat other.world → AreWorldsAlike one.world other.world
  submitted_one worker job (Ok number) (Ok same) says also its was taken too first second = submits old.world again.world one.world other.world alike worker job number same first.accepted second.accepted
  submitted_one worker job (Err why) repeat says also its was taken too first second = not_refused says why its taken
  submitted_one worker job (Ok number) (Err why) says also its was taken too first second = not_refused also why was too

  command_one : (command : Command) (says also : Reply) → changes_world command ≡ true
      → CommandEffect old command says one → CommandEffect again command also other → reply_refusal says ≡ None
      → reply_refusal also ≡ None → AreWorldsAlike one.world other.world
  command_one (Submit worker job) says also kept first second taken too = submitted_one worker job first.0 second.0 says also first.2 second.2 taken too first.1 second.1
  command_one (Step worker) says also kept first second taken too = step_one old.world again.world one.world other.world alike worker first.0 second.0 first.1.stepped second.1.stepped
  command_one (Walk walk) says also kept first second taken too = walk_one walk.worker walk.until walk.max old again alike first.1.0 second.1.0 first.1.1 second.1.1 one other first.1.2 second.1.2
  command_one (Crash worker) says also kept first second taken too = crash_one old.world again.world one.world other.world alike worker first.0 second.0 first.1 second.1
  command_one (Restart worker) says also kept first second taken too = restart_one old.world again.world one.world other.world alike worker first.0 second.0 first.1 second.1
  command_one (Withdraw worker) says also kept first second taken too = withdraw_one old.world again.world one.world other.world alike worker first.0 second.0 first.1 second.1
  command_one (Owner lock) says also kept first second taken too = no_change kept
  command_one (Cells lock) says also kept first second taken too = no_change kept
  command_one (Last worker) says also kept first second taken too = no_change kept
  command_one History says also kept first second taken too = no_change kept
  command_one Report says also kept first second taken too = no_change kept
  command_one Save says also kept first second taken too = no_change kept

-- Both have alike worlds open, or neither has one.
abbrev pub OpenAlike : Option TalliedWorld → Option TalliedWorld → Type 0
OpenAlike None None = Unit {0}
OpenAlike (Some one) (Some other) = AreWorldsAlike one.world other.world
OpenAlike one other = ⊥

abbrev pub Same : EngineState → EngineState → Type 0
Same one other = (one.names ≡ other.names) × OpenAlike one.world other.world

same_by : (one other : EngineState) (was too : EngineState) → one ≡ was → other ≡ too → Same was too → Same one other
same_by one other was too first second same =
    let P : EngineState → Type 0 = λ s. Same s other in
    let Q : EngineState → Type 0 = λ s. Same was s in
    subst P (sym first) (subst Q (sym second) same)

module _ (old again one other : EngineState) (names : old.names ≡ again.names) (says also : Reply) (taken : reply_refusal says ≡ None) (too : reply_refusal also ≡ None) where
  does_one : (command : Command) (was also_was : Option TalliedWorld) → changes_world command ≡ true
      → OpenAlike was also_was → CommandEffectIn was old command says one
      → CommandEffectIn also_was again command also other → Same one other
  does_one command None None kept alike first second = not_refused says NotOpen first.0 taken
  does_one command None (Some world) kept alike first second = absurd alike
  does_one command (Some world) None kept alike first second = absurd alike
  does_one command (Some world) (Some same) kept alike first second =
      same_by one other record { names = old.names; world = Some first.0 } record { names = again.names; world = Some second.0 } first.2 second.2
      (names, command_one world same first.0 second.0 alike command says also kept first.1 second.1 taken too)

  opens_one : (given : Opening) (result repeat : Result Shape Refusal) → OpenOutcome old given result says one
      → OpenOutcome again given repeat also other → Same one other
  opens_one given (Ok shape) (Ok found) first second =
      let is : shape ≡ found = same_shape shape found (first.1.0 ∙ sym second.1.0) (first.1.1 ∙ sym second.1.1) (first.1.2 ∙ sym second.1.2) (first.1.3 ∙ sym second.1.3) in
      let P : Shape → Type 0 = λ s. Same record { names = given.locks; world = Some (tallied_opening shape) } record { names = given.locks; world = Some (tallied_opening s) } in
      same_by one other record { names = given.locks; world = Some (tallied_opening shape) } record { names = given.locks; world = Some (tallied_opening found) } first.3 second.3
      (subst P is (refl, alike_itself (world_at_opening shape)))
  opens_one given (Err why) repeat first second = not_refused says why first.1 taken
  opens_one given (Ok shape) (Err why) first second = not_refused also why second.1 too

  opens_in : (given : Opening) (was also_was : Option TalliedWorld) → OpenAlike was also_was
      → OpenEffect was old given says one → OpenEffect also_was again given also other → Same one other
  opens_in given None None alike first second = opens_one given first.0 second.0 first.1 second.1
  opens_in given None (Some world) alike first second = absurd alike
  opens_in given (Some world) also_was alike first second = not_refused says AlreadyOpen first.0 taken

  obeys_one : (request : Request) → is_log_request request ≡ true → OpenAlike old.world again.world
      → RequestEffect old (Some request) says one → RequestEffect again (Some request) also other → Same one other
  obeys_one (Open given) kept alike first second = opens_in given old.world again.world alike first second
  obeys_one (Load given) kept alike first second = no_change kept
  obeys_one (World command) kept alike first second = does_one command old.world again.world kept alike first second

accept_one : (line : InputLine) (old again one other : EngineState) → Same old again → AcceptsLine old line one
    → AcceptsLine again line other → Same one other
accept_one line old again one other same first second =
    let is : first.request ≡ second.request = same_Some _ _ (sym first.asks ∙ ap (λ (names : List (List ℕ)). request_read names line) same.0 ∙ second.asks) in
    let P : Request → Type 0 = λ r. RequestEffect again (Some r) second.reply other in
    obeys_one old again one other same.0 first.reply second.reply first.taken second.taken first.request first.kept same.1 first.obeys (subst P (sym is) second.obeys)

pub accept_all : (lines : List InputLine) (old again one other : EngineState) → Same old again
    → AcceptsLines old lines one → AcceptsLines again lines other → Same one other
accept_all [] old again one other same first second = same_by one other old again first second same
accept_all (line ∷ lines) old again one other same first second =
    accept_all lines first.0 second.0 one other (accept_one line old again first.0 second.0 same first.1 second.1) first.2 second.2

rest_of : List InputLine → List InputLine
rest_of [] = []
rest_of (line ∷ lines) = lines

pub starts_alike : (bytes : List ℕ) (names others : List (List ℕ)) (one other : WorldView)
    → RecoversWorld bytes names one → RecoversWorld bytes others other → (names ≡ others) × AreWorldsAlike one other
unfolding rest_of
starts_alike bytes names others one other first second =
    let lines : first.lines ≡ second.lines = ap rest_of (sym first.are ∙ second.are) in
    let to : EngineState = record { names = names; world = Some first.tallied } in
    let too : EngineState = record { names = others; world = Some second.tallied } in
    let P : List InputLine → Type 0 = λ ls. AcceptsLines nothing_open ls too in
    let same : Same to too = accept_all first.lines nothing_open nothing_open to too (refl, tt) first.accepts (subst P (sym lines) second.accepts) in
    let Q : WorldView → Type 0 = λ s. AreWorldsAlike s other in
    let R : WorldView → Type 0 = λ s. AreWorldsAlike first.tallied.world s in
    (same.0, subst Q first.its (subst R second.its same.1))
