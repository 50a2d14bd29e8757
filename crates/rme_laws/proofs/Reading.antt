-- The lines of commands are read, and lead to the same state as their events.
use Rattle.std.proofs.Common.{◌≡◌, ℕ, List, [], ◌∷◌, ◌++◌, map, replicate, refl, sym, ap, subst, ◌∙◌}
use Rattle.std.specs.Prelude.{Option, Some, None, Result, Ok, Err}
use Rattle.std.proofs.lemmas.Option.{same_Some}
use Rattle.rme_words.specs.declared.refusal.Refusal.{Refusal}
use Rattle.rme_line_io.specs.Pieces.{text}
use Rattle.rme_program.specs.declared.event.Event.{Event}
use Rattle.rme_program.specs.declared.event.Event.TheVariants as event
use Rattle.rme_program.specs.declared.event.Answer.{Answer}
use Rattle.rme_program.specs.declared.note.Note.{Note}
use Rattle.rme_line_text.specs.declared.reply.Reply.{Reply}
use Rattle.rme_line_text.specs.declared.reply.Reply.TheVariants as reply
use Rattle.rme_line_text.specs.declared.walked.WalkEnd.{WalkEnd}
use Rattle.rme_line_text.specs.declared.walked.Walked.{Walked}
use Rattle.rme_wire.specs.declared.command.Command.{Command}
use Rattle.rme_wire.specs.declared.command.Command.TheVariants.{Submit, Step, Walk, Crash, Restart, Withdraw, Owner, Cells, Last, History, Report, Save}
use Rattle.rme_wire.specs.declared.command.Until.{Until}
use Rattle.rme_wire.specs.declared.command.Walk.{Walk as TheWalk}
use Rattle.rme_wire.specs.declared.request.Request.{Request}
use Rattle.rme_wire.specs.declared.request.Request.TheVariants.{World}
use Rattle.rme_line_engine.specs.CommandEffects.{CommandEffect}
use Rattle.rme_line_engine.specs.Lines.{CommandEffectIn, RequestEffect}
use Rattle.rme_line_engine.specs.EngineStates.{EngineState, reply_of_call}
use Rattle.rme_line_engine.specs.WorldWalks.{WalkStepSequence, walk_result, walk_outcome}
use Rattle.rme_line_engine.specs.declared.tallied.TalliedWorld.{TalliedWorld}
use Rattle.rme_session_world.specs.EventBatches.{AppliesEvents}
use Rattle.rme_durable_format.specs.BatchCommands.{all_asked_events, asked_events}
use Rattle.rme_durable_format.specs.CommandLines.{IsCommandLine}
use Rattle.rme_durable_format.specs.Recovery.{AcceptsLine, AcceptsLines, reply_refusal}
use Rattle.rme_durable_format.proofs.Running.{command_runs}
use Rattle.rme_world.specs.EventLists.{EventListContract}
use Rattle.rme_world.specs.WorldViews.{WorldView}
use Rattle.rme_laws.specs.AlikeWorlds.{AreWorldsAlike}
use Rattle.rme_laws.specs.LoggedLines.{AreCommandLines, HasAlikeWorldOpen, IsOrderCommand}
use Rattle.rme_laws.proofs.Events.{all_happen}
use Rattle.rme_laws.proofs.Lines.{no_change, not_refused}
use Rattle.rme_laws.proofs.Written.{walk_written}

-- The events of two lists are those of the first and then those of the second.
split : (first rest : List Event) (answers : List Answer) (old new : WorldView)
    → EventListContract old (first ++ rest) answers new
    → (mid : WorldView) × (given : List Answer) × (more : List Answer) × EventListContract old first given mid × EventListContract mid rest more new
split [] rest answers old new all = (old, [], answers, refl, all)
split (event ∷ first) rest [] old new all = absurd all
split (event ∷ first) rest (given ∷ answers) old new all =
    let s = split first rest answers all.0 new all.2 in
    (s.0, given ∷ s.1, s.2, (all.0, all.1, s.3), s.4)

-- One command.
module _ (old one : TalliedWorld) (seen new : WorldView) (answers : List Answer) (says : Reply) (alike : AreWorldsAlike seen old.world) (taken : reply_refusal says ≡ None) where
  by_events : (events : List Event) → EventListContract seen events answers new → (made : List Event) → made ≡ events
      → AppliesEvents old.world made one.world → AreWorldsAlike new one.world
  by_events events all made is happened =
      let P : List Event → Type 0 = λ es. AppliesEvents old.world es one.world in
      let same : AppliesEvents old.world events one.world = subst P is happened in
      all_happen events answers same.0 seen old.world new one.world alike all same.1

  by_walk : (walk : TheWalk) (result : Result Walked Refusal) (notes : List Note) (outcome : Result WalkEnd Refusal)
      → walk.until ≡ None → EventListContract seen (replicate walk.max (event.Step walk.worker)) answers new
      → WalkStepSequence walk.max old walk.worker walk.until (walk_outcome notes outcome one) → result ≡ walk_result outcome notes → says ≡ reply_of_call reply.Walked result → AreWorldsAlike new one.world
  by_walk walk result notes (Ok ended) plain all walks is told =
      let P : Option Until → Type 0 = λ u. WalkStepSequence walk.max old walk.worker u (walk_outcome notes (Ok ended) one) in
      walk_written walk.max walk.worker answers seen new old one notes (Ok ended) ended refl alike all (subst P plain walks)
  by_walk walk result notes (Err why) plain all walks is told = not_refused says why (told ∙ ap (reply_of_call reply.Walked) is) taken

  command_written : (command : Command) → IsOrderCommand command
      → EventListContract seen (asked_events command) answers new → CommandEffect old command says one
      → AreWorldsAlike new one.world
  command_written (Submit worker job) its all does = let runs = command_runs old one says taken (Submit worker job) refl does in by_events (asked_events (Submit worker job)) all runs.0 runs.1 runs.2
  command_written (Step worker) its all does = let runs = command_runs old one says taken (Step worker) refl does in by_events (asked_events (Step worker)) all runs.0 runs.1 runs.2
  command_written (Walk walk) its all does = by_walk walk does.0 does.1.0 does.1.1 its all does.1.2 does.1.3 does.2
  command_written (Crash worker) its all does = let runs = command_runs old one says taken (Crash worker) refl does in by_events (asked_events (Crash worker)) all runs.0 runs.1 runs.2
  command_written (Restart worker) its all does = let runs = command_runs old one says taken (Restart worker) refl does in by_events (asked_events (Restart worker)) all runs.0 runs.1 runs.2
  command_written (Withdraw worker) its all does = let runs = command_runs old one says taken (Withdraw worker) refl does in by_events (asked_events (Withdraw worker)) all runs.0 runs.1 runs.2
  command_written (Owner lock) its all does = no_change its
  command_written (Cells lock) its all does = no_change its
  command_written (Last worker) its all does = no_change its
  command_written History its all does = no_change its
  command_written Report its all does = no_change its
  command_written Save its all does = no_change its

-- One line.
line_read : (names : List (List ℕ)) (command : Command) (line : List ℕ) (old new : WorldView) (answers : List Answer)
    (from to : EngineState)
    → IsOrderCommand command → IsCommandLine names command line
    → HasAlikeWorldOpen names old from → EventListContract old (asked_events command) answers new → AcceptsLine from (text line) to → HasAlikeWorldOpen names new to
line_read names command line old new answers from to its written opened all accepts =
    let state : EngineState = record { names = names; world = Some opened.tallied } in
    let F : EngineState → Type 0 = λ s. AcceptsLine s (text line) to in
    let accepted : AcceptsLine state (text line) to = subst F opened.is accepts in
    let is : accepted.request ≡ World command = same_Some _ _ (sym accepted.asks ∙ written.asks) in
    let G : Request → Type 0 = λ r. RequestEffect state (Some r) accepted.reply to in
    let does : CommandEffectIn (Some opened.tallied) state command accepted.reply to = subst G is accepted.obeys in
    record { tallied = does.0; is = does.2; alike = command_written opened.tallied does.0 old new answers accepted.reply opened.alike accepted.taken command its all does.1 }

same_open : (names : List (List ℕ)) (old new : WorldView) (from to : EngineState) → new ≡ old → to ≡ from
    → HasAlikeWorldOpen names old from → HasAlikeWorldOpen names new to
same_open names old new from to is left opened =
    let P : WorldView → Type 0 = λ s. HasAlikeWorldOpen names s to in
    let Q : EngineState → Type 0 = λ s. HasAlikeWorldOpen names old s in
    subst P (sym is) (subst Q (sym left) opened)

-- All lines.
pub all_read : (names : List (List ℕ)) (commands : List Command) (lines : List (List ℕ)) (old new : WorldView)
    (answers : List Answer) (from to : EngineState)
    → AreCommandLines names commands lines → HasAlikeWorldOpen names old from
    → EventListContract old (all_asked_events commands) answers new → AcceptsLines from (map text lines) to → HasAlikeWorldOpen names new to
all_read names [] [] old new [] from to are opened all accepts = same_open names old new from to all accepts opened
all_read names [] [] old new (given ∷ answers) from to are opened all accepts = absurd all
all_read names [] (line ∷ lines) old new answers from to are opened all accepts = absurd are
all_read names (command ∷ commands) [] old new answers from to are opened all accepts = absurd are
all_read names (command ∷ commands) (line ∷ lines) old new answers from to are opened all accepts =
    let s = split (asked_events command) (all_asked_events commands) answers old new all in
    all_read names commands lines s.0 new s.2 accepts.0 to are.2 (line_read names command line old s.0 s.1 from accepts.0 are.0 are.1 opened s.3 accepts.1) s.4 accepts.2
