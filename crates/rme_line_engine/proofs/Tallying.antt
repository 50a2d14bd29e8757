-- Every line leaves a complete tally.
use Rattle.std.proofs.Common.{◌≡◌, ℕ, zero, suc, List, Option, Some, None, Result, Ok, Err, refl, sym, ap, subst, ◌∙◌}
use Rattle.std.proofs.lemmas.Option.{same_Some}
use Rattle.rme_words.specs.declared.refusal.Refusal.{Refusal}
use Rattle.rme_words.specs.declared.shape.Shape.{Shape}
use Rattle.rme_line_io.specs.Pieces.{InputLine, text, too_long}
use Rattle.rme_program.specs.declared.kinds.Phase.{Phase}
use Rattle.rme_program.specs.declared.kinds.Phase.TheVariants.{Post, Exit}
use Rattle.rme_program.specs.declared.note.Note.{Note}
use Rattle.rme_program.specs.Phases.{phase_of}
use Rattle.rme_program.specs.Steps.{private_after}
use Rattle.rme_history.specs.declared.tally.Tally.{Tally}
use Rattle.rme_history.specs.Tallies.{TallySees}
use Rattle.rme_world.specs.Counting.{CountsAfterStep}
use Rattle.rme_world.specs.Events.{StepChange}
use Rattle.rme_world.specs.Queries.{world_phase}
use Rattle.rme_world.specs.WorldViews.{WorldView, worker_counts}
use Rattle.rme_wire.specs.declared.command.Command.{Command}
use Rattle.rme_wire.specs.declared.command.Command.TheVariants as command
use Rattle.rme_wire.specs.declared.command.Until.{Until}
use Rattle.rme_wire.specs.declared.loading.Loading.{Loading}
use Rattle.rme_wire.specs.declared.opening.Opening.{Opening}
use Rattle.rme_wire.specs.declared.request.Request.{Request}
use Rattle.rme_wire.specs.declared.request.Request.TheVariants as request
use Rattle.rme_wire.specs.Requests.{request_of_line}
use Rattle.rme_line_text.specs.declared.reply.Reply.{Reply}
use Rattle.rme_line_text.specs.declared.walked.WalkEnd.{WalkEnd}
use Rattle.rme_line_engine.specs.declared.tallied.TalliedWorld.{TalliedWorld}
use Rattle.rme_world.specs.Calls.{CrashContract, RestartContract, SubmitContract, WithdrawContract}
use Rattle.rme_line_engine.specs.CommandEffects.{CommandEffect}
use Rattle.rme_line_engine.specs.Laws.{OpenTallyIsComplete}
use Rattle.rme_line_engine.specs.Lines.{LineAnswer, CommandEffectIn, LoadOutcome, RequestEffect, OpenOutcome, OpenEffect, LineReply}
use Rattle.rme_line_engine.specs.EngineStates.{EngineState}
use Rattle.rme_line_engine.specs.Tallies.{TallyIsComplete, TallySeesPhases, TalliedStep, empty_tally, phase_steps_of}
use Rattle.rme_line_engine.specs.WorldWalks.{WalkOutcome, WalkAfterStep, WalkAfterNote, WalkStepSequence, walk_end_after, walk_outcome}
use Rattle.rme_line_engine.proofs.Seeing.{begun_seen, loaded_seen, none_seen, opening_seen, same_seen, step_phases, step_seen}

abbrev HasSeenIn : TalliedWorld → Type 0
HasSeenIn tallied = TallyIsComplete tallied.tally tallied.world

kept_in : (old new : TalliedWorld) → new ≡ old → HasSeenIn old → HasSeenIn new
kept_in old new e has = let P : TalliedWorld → Type 0 = λ t. HasSeenIn t in subst P (sym e) has

-- ---- a step

module _ (old new : TalliedWorld) (worker : ℕ) (note : Note) (has : HasSeenIn old) (steps : StepChange old.world worker note new.world) (phase : Phase) (of : world_phase old.world worker ≡ Some phase)
    (sees : TallySees old.tally new.tally phase (phase_steps_of new.world worker phase)) where
  is_phase : phase_of steps.private.stage ≡ phase
  is_phase =
      let found : world_phase old.world worker ≡ Some (phase_of steps.private.stage) = rw steps.found refl in
      same_Some (phase_of steps.private.stage) phase (sym found ∙ of)

  goes : new.world.counts ≡ Rattle.std.specs.Prelude.slice_set old.world.counts worker steps.counts
  goes = ap (λ (s : WorldView). s.counts) steps.goes

  abbrev next : Phase
  next = phase_of (private_after old.world.shape steps.private steps.value).stage

  so : CountsAfterStep (worker_counts old.world worker) phase next note steps.counts
  so = let P : Phase → Type 0 = λ p. CountsAfterStep (worker_counts old.world worker) p next note steps.counts in subst P is_phase steps.counted

  stepped_seen : HasSeenIn new
  stepped_seen = step_seen old.world new.world worker old.tally new.tally phase steps.counts next note has goes so sees

  stepped_phases : TallySeesPhases old.tally new.world worker new.tally
  stepped_phases = step_phases old.world new.world worker old.tally new.tally phase steps.counts next note has goes so sees

pub step_kept : (old new : TalliedWorld) (worker : ℕ) (result : Result Note Refusal) → HasSeenIn old → TalliedStep old worker result new → HasSeenIn new
step_kept old new worker (Ok note) has s = stepped_seen old new worker note has s.stepped.accepted s.fed.0 s.fed.1 s.fed.2
step_kept old new worker (Err refusal) has s =
    let P : WorldView → Type 0 = λ w. TallyIsComplete old.tally w in
    let Q : Tally → Type 0 = λ t. TallyIsComplete t new.world in subst Q (sym s.fed) (subst P (sym s.stepped.unchanged) has)

pub sees_phases : (old new : TalliedWorld) (worker : ℕ) (note : Note) → HasSeenIn old → TalliedStep old worker (Ok note) new → TallySeesPhases old.tally new.world worker new.tally
sees_phases old new worker note has s = stepped_phases old new worker note has s.stepped.accepted s.fed.0 s.fed.1 s.fed.2

-- ---- a walk

goes_kept : (rest : WalkOutcome → Type 0) (mid new : TalliedWorld) (note : Note) (end : Option WalkEnd) (notes : List Note) (walked : Result WalkEnd Refusal) → HasSeenIn mid
    → ((more : List Note) → rest (walk_outcome more walked new) → HasSeenIn new) → WalkAfterNote rest mid note end (walk_outcome notes walked new) → HasSeenIn new
goes_kept rest mid new note (Some end) notes walked has later (shown, ended, same) = kept_in mid new same has
goes_kept rest mid new note None notes walked has later (more, follows, shown) = later more follows

follows_kept : (rest : WalkOutcome → Type 0) (mid new : TalliedWorld) (worker : ℕ) (wanted : Option Until) (result : Result Note Refusal) (notes : List Note) (walked : Result WalkEnd Refusal)
    → HasSeenIn mid → ((more : List Note) → rest (walk_outcome more walked new) → HasSeenIn new) → WalkAfterStep rest mid worker wanted result (walk_outcome notes walked new) → HasSeenIn new
follows_kept rest mid new worker wanted (Ok note) notes walked has later (ready, shows, goes) = goes_kept rest mid new note (walk_end_after wanted note ready) notes walked has later goes
follows_kept rest mid new worker wanted (Err refusal) notes walked has later (none, ended, same) = kept_in mid new same has

walks_kept : (most : ℕ) (old new : TalliedWorld) (worker : ℕ) (wanted : Option Until) (notes : List Note) (walked : Result WalkEnd Refusal) → HasSeenIn old → WalkStepSequence most old worker wanted (walk_outcome notes walked new) → HasSeenIn new
unfolding WalkStepSequence
walks_kept zero old new worker wanted notes walked has (none, ended, same) = kept_in old new same has
walks_kept (suc most) old new worker wanted notes walked has (result, mid, stepped, follows) =
    let now = step_kept old mid worker result has stepped in
    follows_kept (WalkStepSequence most mid worker wanted) mid new worker wanted result notes walked now (λ more rest. walks_kept most mid new worker wanted more walked now rest) follows

-- ---- the other events

same_tally : (old new : TalliedWorld) → TallyIsComplete old.tally new.world → new.tally ≡ old.tally → HasSeenIn new
same_tally old new has e = let P : Tally → Type 0 = λ t. TallyIsComplete t new.world in subst P (sym e) has

unchanged_seen : (old new : TalliedWorld) → HasSeenIn old → new.world ≡ old.world → TallyIsComplete old.tally new.world
unchanged_seen old new has e = let P : WorldView → Type 0 = λ w. TallyIsComplete old.tally w in subst P (sym e) has

submitted_seen : (old new : TalliedWorld) (worker : ℕ) (job : Rattle.rme_script.specs.declared.job.Job.Job) (result : Result ℕ Refusal) → HasSeenIn old → SubmitContract old.world worker job result new.world
    → TallyIsComplete old.tally new.world
submitted_seen old new worker job (Ok number) has s = begun_seen old.tally old.world new.world worker _ has (ap (λ (w : WorldView). w.counts) s.accepted.hands) Post refl
submitted_seen old new worker job (Err refusal) has s = unchanged_seen old new has s.unchanged

crashed_seen : (old new : TalliedWorld) (worker : ℕ) (result : Result (Unit {0}) Refusal) → HasSeenIn old → CrashContract old.world worker result new.world → TallyIsComplete old.tally new.world
crashed_seen old new worker (Ok done) has s = same_seen old.tally old.world new.world worker _ has (ap (λ (w : WorldView). w.counts) s.accepted.falls) refl
crashed_seen old new worker (Err refusal) has s = unchanged_seen old new has s.unchanged

restarted_seen : (old new : TalliedWorld) (worker : ℕ) (result : Result (Unit {0}) Refusal) → HasSeenIn old → RestartContract old.world worker result new.world → TallyIsComplete old.tally new.world
restarted_seen old new worker (Ok done) has s = none_seen old.tally old.world new.world worker _ has (ap (λ (w : WorldView). w.counts) s.accepted.rises) refl
restarted_seen old new worker (Err refusal) has s = unchanged_seen old new has s.unchanged

withdrawn_seen : (old new : TalliedWorld) (worker : ℕ) (result : Result (Unit {0}) Refusal) → HasSeenIn old → WithdrawContract old.world worker result new.world → TallyIsComplete old.tally new.world
withdrawn_seen old new worker (Ok done) has s = begun_seen old.tally old.world new.world worker _ has (ap (λ (w : WorldView). w.counts) s.accepted.turns) Exit refl
withdrawn_seen old new worker (Err refusal) has s = unchanged_seen old new has s.unchanged

-- ---- a line

does_kept : (old new : TalliedWorld) (given : Command) (reply : Reply) → HasSeenIn old → CommandEffect old given reply new → HasSeenIn new
does_kept old new (command.Submit worker job) reply has (result, s, e, same) = same_tally old new (submitted_seen old new worker job result has s) same
does_kept old new (command.Step worker) reply has (result, s, e) = step_kept old new worker result has s
does_kept old new (command.Walk walk) reply has (result, (notes, outcome, w, is), e) = walks_kept walk.max old new walk.worker walk.until notes outcome has w
does_kept old new (command.Crash worker) reply has (result, s, e, same) = same_tally old new (crashed_seen old new worker result has s) same
does_kept old new (command.Restart worker) reply has (result, s, e, same) = same_tally old new (restarted_seen old new worker result has s) same
does_kept old new (command.Withdraw worker) reply has (result, s, e, same) = same_tally old new (withdrawn_seen old new worker result has s) same
does_kept old new (command.Owner lock) reply has (result, s, e, same) = kept_in old new same has
does_kept old new (command.Cells lock) reply has (result, s, e, same) = kept_in old new same has
does_kept old new (command.Last worker) reply has (result, s, e, same) = kept_in old new same has
does_kept old new command.History reply has (e, same) = kept_in old new same has
does_kept old new command.Report reply has (e, same) = kept_in old new same has
does_kept old new command.Save reply has (saves, same) = kept_in old new same has

stays : (old new : EngineState) → new ≡ old → OpenTallyIsComplete old.world → OpenTallyIsComplete new.world
stays old new e has = let P : EngineState → Type 0 = λ s. OpenTallyIsComplete s.world in subst P (sym e) has

does_in_kept : (world : Option TalliedWorld) (old new : EngineState) (given : Command) (reply : Reply) → OpenTallyIsComplete world → world ≡ old.world → CommandEffectIn world old given reply new → OpenTallyIsComplete new.world
does_in_kept None old new given reply has is (e, same) = let P : Option TalliedWorld → Type 0 = λ w. OpenTallyIsComplete w in stays old new same (subst P is has)
does_in_kept (Some world) old new given reply has is (after, does, e) =
    let P : EngineState → Type 0 = λ s. OpenTallyIsComplete s.world in subst P (sym e) (does_kept world after given reply has does)

opens_by_kept : (old new : EngineState) (given : Opening) (result : Result Shape Refusal) (reply : Reply) → OpenTallyIsComplete old.world → OpenOutcome old given result reply new → OpenTallyIsComplete new.world
opens_by_kept old new given (Ok shape) reply has (good, as_given, e, opened) =
    let P : EngineState → Type 0 = λ s. OpenTallyIsComplete s.world in subst P (sym opened) (opening_seen empty_tally shape)
opens_by_kept old new given (Err refusal) reply has (may, e, same) = stays old new same has

opens_in_kept : (world : Option TalliedWorld) (old new : EngineState) (given : Opening) (reply : Reply) → OpenTallyIsComplete old.world → OpenEffect world old given reply new → OpenTallyIsComplete new.world
opens_in_kept (Some world) old new given reply has (e, same) = stays old new same has
opens_in_kept None old new given reply has (result, opens) = opens_by_kept old new given result reply has opens

loads_by_kept : (old new : EngineState) (given : Loading) (result : Result TalliedWorld Refusal) (reply : Reply) → OpenTallyIsComplete old.world → LoadOutcome old given result reply new → OpenTallyIsComplete new.world
loads_by_kept old new given (Ok tallied) reply has (loaded, e, opened) =
    let P : Option TalliedWorld → Type 0 = λ w. OpenTallyIsComplete w in
    let Q : TalliedWorld → Type 0 = λ t. HasSeenIn t in
    subst P (sym opened) (subst Q (sym loaded.fresh) (loaded_seen empty_tally given.image tallied.world loaded.read))
loads_by_kept old new given (Err refusal) reply has (may, e, same) = stays old new same has

obeys_kept : (old new : EngineState) (asked : Option Request) (reply : Reply) → OpenTallyIsComplete old.world → RequestEffect old asked reply new → OpenTallyIsComplete new.world
obeys_kept old new None reply has (e, same) = stays old new same has
obeys_kept old new (Some (request.Open given)) reply has opens = opens_in_kept old.world old new given reply has opens
obeys_kept old new (Some (request.Load given)) reply has (result, loads) = loads_by_kept old new given result reply has loads
obeys_kept old new (Some (request.World given)) reply has does = does_in_kept old.world old new given reply has refl does

replies_kept : (old new : EngineState) (line : InputLine) (reply : Reply) → OpenTallyIsComplete old.world → LineReply old line reply new → OpenTallyIsComplete new.world
replies_kept old new too_long reply has (e, same) = stays old new same has
replies_kept old new (text bytes) reply has obeys = obeys_kept old new (request_of_line old.names bytes) reply has obeys

pub answers_kept : (old new : EngineState) (line : InputLine) (answer : List ℕ) → OpenTallyIsComplete old.world → LineAnswer old line answer new → OpenTallyIsComplete new.world
answers_kept old new line answer has (reply, replies, e) = replies_kept old new line reply has replies
