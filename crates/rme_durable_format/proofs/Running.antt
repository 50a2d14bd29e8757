-- The lines of a file are events of the world that it opens.
use Rattle.std.proofs.Common.{◌≡◌, ℕ, zero, suc, ◌≤◌, List, [], ◌∷◌, ◌++◌, arith, refl, sym, ◌∙◌, ap, subst}
use Rattle.std.specs.Prelude.{true, replicate, Option, Some, None, Result, Ok, Err}
use Rattle.std.proofs.lemmas.Option.{none-some, same_Some}
use Rattle.rme_words.specs.declared.refusal.Refusal.{Refusal}
use Rattle.rme_words.specs.declared.shape.Shape.{Shape}
use Rattle.rme_program.specs.declared.event.Answer.TheVariants as answer
use Rattle.rme_program.specs.declared.event.Event.{Event}
use Rattle.rme_program.specs.declared.event.Event.TheVariants as event
use Rattle.rme_program.specs.declared.note.Note.{Note}
use Rattle.rme_line_io.specs.Pieces.{InputLine}
use Rattle.rme_line_text.specs.declared.reply.Reply.{Reply}
use Rattle.rme_line_text.specs.declared.reply.Reply.TheVariants as reply
use Rattle.rme_line_text.specs.declared.answer.Acknowledgement.TheVariants as word
use Rattle.rme_line_text.specs.declared.walked.Walked.{Walked}
use Rattle.rme_line_text.specs.declared.walked.WalkEnd.{WalkEnd}
use Rattle.rme_wire.specs.declared.command.Command.{Command}
use Rattle.rme_wire.specs.declared.command.Command.TheVariants as command
use Rattle.rme_wire.specs.declared.command.Until.{Until}
use Rattle.rme_wire.specs.declared.command.Walk.{Walk}
use Rattle.rme_wire.specs.declared.opening.Opening.{Opening}
use Rattle.rme_wire.specs.declared.request.Request.{Request}
use Rattle.rme_wire.specs.declared.request.Request.TheVariants.{Open, Load, World}
use Rattle.rme_script.specs.declared.job.Job.{Job}
use Rattle.rme_world.specs.Calls.{CrashContract, RestartContract, SubmitContract, WithdrawContract}
use Rattle.rme_world.specs.WorldViews.{WorldView}
use Rattle.rme_world.specs.Opening.{world_at_opening}
use Rattle.rme_session_world.specs.EventBatches.{AppliesEvents}
use Rattle.rme_session_world.proofs.Events.{crash_happens, happens_one, happens_then, nothing_happens, restart_happens, submit_happens, withdraw_happens}
use Rattle.rme_line_engine.specs.CommandEffects.{CommandEffect}
use Rattle.rme_line_engine.specs.Lines.{RequestEffect, OpenOutcome}
use Rattle.rme_line_engine.specs.EngineStates.{EngineState, nothing_open, reply_of_call}
use Rattle.rme_line_engine.specs.Tallies.{TalliedStep, tallied_opening}
use Rattle.rme_line_engine.specs.WorldWalks as walks
use Rattle.rme_line_engine.specs.declared.tallied.TalliedWorld.{TalliedWorld}
use Rattle.rme_durable_format.specs.CommandRuns.{IsCommandRun}
use Rattle.rme_durable_format.specs.Recovery.{AcceptsLines, RecoversWorld, changes_world, is_log_request, reply_refusal}

no_refusal : {A : Type 0} (says : A → Reply) (refusal : Refusal) (told : Reply) → told ≡ reply_of_call says (Err refusal) → reply_refusal told ≡ None → ⊥
no_refusal says refusal told is none = none-some refusal (sym none ∙ ap reply_refusal is)

step_happens : (old new : TalliedWorld) (worker : ℕ) (note : Note) → TalliedStep old worker (Ok note) new → AppliesEvents old.world (event.Step worker ∷ []) new.world
step_happens old new worker note steps = happens_one (event.Step worker) (answer.Stepped note) old.world new.world record { call = (Ok note, refl, steps.stepped); memory = λ q. cc }

-- At most this number of steps, of one worker.
abbrev IsSteps : ℕ → ℕ → WorldView → WorldView → Type 0
IsSteps most worker old new = (steps : ℕ) × (steps ≤ most) × AppliesEvents old (replicate steps (event.Step worker)) new

module _ (most worker : ℕ) (wanted : Option Until) (notes : List Note) (outcome : Result WalkEnd Refusal) (old new : TalliedWorld) where
  by_end : (note : Note) (mid : TalliedWorld) (after : Option WalkEnd) → TalliedStep old worker (Ok note) mid → walks.WalkAfterNote (walks.WalkStepSequence most mid worker wanted) mid note after (walks.walk_outcome notes outcome new)
      → ((more : List Note) → walks.WalkStepSequence most mid worker wanted (walks.walk_outcome more outcome new) → IsSteps most worker mid.world new.world) → IsSteps (suc most) worker old.world new.world
  by_end note mid (Some ended) stepped went rest = (1, omega arith, subst (λ (t : TalliedWorld). AppliesEvents old.world (event.Step worker ∷ []) t.world) (sym went.2) (step_happens old mid worker note stepped))
  by_end note mid None stepped went rest =
      let others = rest went.0 went.1 in
      let few = others.1 in (
        suc others.0,
        omega (arith, few),
        happens_then (event.Step worker ∷ []) (replicate others.0 (event.Step worker)) old.world mid.world new.world (step_happens old mid worker note stepped) others.2,
      )

  by_result : (end : WalkEnd) → outcome ≡ Ok end → (result : Result Note Refusal) (mid : TalliedWorld) → TalliedStep old worker result mid → walks.WalkAfterStep (walks.WalkStepSequence most mid worker wanted) mid worker wanted result (walks.walk_outcome notes outcome new)
      → ((more : List Note) → walks.WalkStepSequence most mid worker wanted (walks.walk_outcome more outcome new) → IsSteps most worker mid.world new.world) → IsSteps (suc most) worker old.world new.world
  by_result end ok (Ok note) mid stepped follows rest = by_end note mid (walks.walk_end_after wanted note follows.0) stepped follows.2 rest
  by_result end ok (Err refusal) mid stepped follows rest = absurd (let q : Err refusal ≡ Ok end = sym follows.1 ∙ ok in cc)

-- A walk that was not refused is a number of steps.
walk_happens : (most worker : ℕ) (wanted : Option Until) (notes : List Note) (outcome : Result WalkEnd Refusal) (end : WalkEnd) (old new : TalliedWorld) → walks.WalkStepSequence most old worker wanted (walks.walk_outcome notes outcome new) → outcome ≡ Ok end
    → IsSteps most worker old.world new.world
unfolding walks.WalkStepSequence
walk_happens zero worker wanted notes outcome end old new goes ok = (0, omega arith, subst (λ (t : TalliedWorld). AppliesEvents old.world [] t.world) (sym goes.2) (nothing_happens old.world))
walk_happens (suc most) worker wanted notes outcome end old new goes ok =
    by_result most worker wanted notes outcome old new end ok goes.0 goes.1 goes.2 goes.3 (λ more rest. walk_happens most worker wanted more outcome end goes.1 new rest ok)

walk_done : (old new : TalliedWorld) (walk : Walk) (notes : List Note) (outcome : Result WalkEnd Refusal) (told : Reply) → walks.WalkStepSequence walk.max old walk.worker walk.until (walks.walk_outcome notes outcome new)
    → told ≡ reply_of_call reply.Walked (walks.walk_result outcome notes) → reply_refusal told ≡ None → IsSteps walk.max walk.worker old.world new.world
walk_done old new walk notes (Ok end) told goes is none = walk_happens walk.max walk.worker walk.until notes (Ok end) end old new goes refl
walk_done old new walk notes (Err refusal) told goes is none = absurd (no_refusal reply.Walked refusal told is none)

module _ (old new : TalliedWorld) (told : Reply) (none : reply_refusal told ≡ None) where
  abbrev Runs : Command → Type 0
  Runs its = (events : List Event) × IsCommandRun its events × AppliesEvents old.world events new.world

  submit_runs : (worker : ℕ) (job : Job) (result : Result ℕ Refusal) → SubmitContract old.world worker job result new.world → told ≡ reply_of_call reply.Handed result → Runs (command.Submit worker job)
  submit_runs worker job (Ok number) submitted is = (event.Submit worker job ∷ [], refl, submit_happens worker job number old.world new.world submitted)
  submit_runs worker job (Err refusal) submitted is = absurd (no_refusal reply.Handed refusal told is none)

  step_runs : (worker : ℕ) (result : Result Note Refusal) → TalliedStep old worker result new → told ≡ reply_of_call reply.Stepped result → Runs (command.Step worker)
  step_runs worker (Ok note) steps is = (event.Step worker ∷ [], refl, step_happens old new worker note steps)
  step_runs worker (Err refusal) steps is = absurd (no_refusal reply.Stepped refusal told is none)

  walk_runs : (walk : Walk) (result : Result Walked Refusal) → walks.WalkEffect old walk result new → told ≡ reply_of_call reply.Walked result → Runs (command.Walk walk)
  walk_runs walk result goes is =
      let steps = walk_done old new walk goes.0 goes.1 told goes.2 (is ∙ ap (reply_of_call reply.Walked) goes.3) none in
      (replicate steps.0 (event.Step walk.worker), (steps.0, steps.1, refl), steps.2)

  crash_runs : (worker : ℕ) (result : Result (Unit {0}) Refusal) → CrashContract old.world worker result new.world → told ≡ reply_of_call (λ _. reply.Done word.Crash) result → Runs (command.Crash worker)
  crash_runs worker (Ok done) crashed is = (event.Crash worker ∷ [], refl, crash_happens worker old.world new.world crashed)
  crash_runs worker (Err refusal) crashed is = absurd (no_refusal {A = Unit {0}} (λ _. reply.Done word.Crash) refusal told is none)

  restart_runs : (worker : ℕ) (result : Result (Unit {0}) Refusal) → RestartContract old.world worker result new.world → told ≡ reply_of_call (λ _. reply.Done word.Restart) result → Runs (command.Restart worker)
  restart_runs worker (Ok done) restarted is = (event.Restart worker ∷ [], refl, restart_happens worker old.world new.world restarted)
  restart_runs worker (Err refusal) restarted is = absurd (no_refusal {A = Unit {0}} (λ _. reply.Done word.Restart) refusal told is none)

  withdraw_runs : (worker : ℕ) (result : Result (Unit {0}) Refusal) → WithdrawContract old.world worker result new.world → told ≡ reply_of_call (λ _. reply.Done word.Withdraw) result → Runs (command.Withdraw worker)
  withdraw_runs worker (Ok done) withdrawn is = (event.Withdraw worker ∷ [], refl, withdraw_happens worker old.world new.world withdrawn)
  withdraw_runs worker (Err refusal) withdrawn is = absurd (no_refusal {A = Unit {0}} (λ _. reply.Done word.Withdraw) refusal told is none)

  -- A command that changes a world and was not refused is a list of its events.
  pub command_runs : (its : Command) → changes_world its ≡ true → CommandEffect old its told new → Runs its
  command_runs (command.Submit worker job) changes_world does = submit_runs worker job does.0 does.1 does.2
  command_runs (command.Step worker) changes_world does = step_runs worker does.0 does.1 does.2
  command_runs (command.Walk walk) changes_world does = walk_runs walk does.0 does.1 does.2
  command_runs (command.Crash worker) changes_world does = crash_runs worker does.0 does.1 does.2
  command_runs (command.Restart worker) changes_world does = restart_runs worker does.0 does.1 does.2
  command_runs (command.Withdraw worker) changes_world does = withdraw_runs worker does.0 does.1 does.2
  command_runs (command.Owner lock) changes_world does = cc
  command_runs (command.Cells lock) changes_world does = cc
  command_runs (command.Last worker) changes_world does = cc
  command_runs command.History changes_world does = cc
  command_runs command.Report changes_world does = cc
  command_runs command.Save changes_world does = cc

-- A line, when a world is open.
pub line_runs : (names : List (List ℕ)) (old : TalliedWorld) (request : Request) (told : Reply) (new : EngineState) → is_log_request request ≡ true → reply_refusal told ≡ None → RequestEffect record { names = names; world = Some old } (Some request) told new
    → (after : TalliedWorld) × (new ≡ record { names = names; world = Some after }) × ((events : List Event) × AppliesEvents old.world events after.world)
line_runs names old (Open given) told new kept none obeys = absurd (none-some _ (sym none ∙ ap reply_refusal obeys.0))
line_runs names old (Load given) told new kept none obeys = cc
line_runs names old (World its) told new kept none obeys =
    let runs = command_runs old obeys.0 told none its kept obeys.1 in (obeys.0, obeys.2, (runs.0, runs.2))

-- The lines, when a world is open.
lines_run : (lines : List InputLine) (names : List (List ℕ)) (old : TalliedWorld) (new : EngineState) (last : TalliedWorld) → AcceptsLines record { names = names; world = Some old } lines new → new.world ≡ Some last → (events : List Event) × AppliesEvents old.world events last.world
lines_run [] names old new last accepts is =
    let same : old ≡ last = same_Some _ _ (sym (ap (λ (s : EngineState). s.world) accepts) ∙ is) in
    ([], subst (λ (t : TalliedWorld). AppliesEvents old.world [] t.world) same (nothing_happens old.world))
lines_run (line ∷ lines) names old new last accepts is =
    let its = accepts.1 in
    let one = line_runs names old its.request its.reply accepts.0 its.kept its.taken its.obeys in
    let A : EngineState → Type 0 = λ (s : EngineState). AcceptsLines s lines new in
    let rest = lines_run lines names one.0 new last (subst A one.1 accepts.2) is in
    (one.2.0 ++ rest.0, happens_then one.2.0 rest.0 old.world one.0.world last.world one.2.1 rest.1)

-- The line that opens a world.
open_runs : (given : Opening) (result : Result Shape Refusal) (told : Reply) (new : EngineState) → reply_refusal told ≡ None → OpenOutcome nothing_open given result told new → (shape : Shape) × (new ≡ record { names = given.locks; world = Some (tallied_opening shape) })
open_runs given (Ok shape) told new none opens = (shape, opens.3)
open_runs given (Err refusal) told new none opens = absurd (none-some _ (sym none ∙ ap reply_refusal opens.1))

first_runs : (request : Request) (told : Reply) (new : EngineState) → is_log_request request ≡ true → reply_refusal told ≡ None → RequestEffect nothing_open (Some request) told new
    → (names : List (List ℕ)) × (shape : Shape) × (new ≡ record { names = names; world = Some (tallied_opening shape) })
first_runs (Open given) told new kept none obeys = let opened = open_runs given obeys.0 told new none obeys.1 in (given.locks, opened.0, opened.1)
first_runs (Load given) told new kept none obeys = cc
first_runs (World its) told new kept none obeys = absurd (none-some _ (sym none ∙ ap reply_refusal obeys.0))

all_run : (lines : List InputLine) (new : EngineState) (last : TalliedWorld) → AcceptsLines nothing_open lines new → new.world ≡ Some last → (shape : Shape) × (events : List Event) × AppliesEvents (world_at_opening shape) events last.world
all_run [] new last accepts is = absurd (none-some _ (ap (λ (s : EngineState). s.world) (sym accepts) ∙ is))
all_run (line ∷ lines) new last accepts is =
    let its = accepts.1 in
    let first = first_runs its.request its.reply accepts.0 its.kept its.taken its.obeys in
    let A : EngineState → Type 0 = λ (s : EngineState). AcceptsLines s lines new in
    let rest = lines_run lines first.0 (tallied_opening first.1) new last (subst A first.2 accepts.2) is in
    (first.1, rest.0, rest.1)

-- The state of a file's bytes is one to which some events lead from a new world.
pub starts_run : (bytes : List ℕ) (names : List (List ℕ)) (world : WorldView) → RecoversWorld bytes names world → (shape : Shape) × (events : List Event) × AppliesEvents (world_at_opening shape) events world
starts_run bytes names world starts =
    let runs = all_run starts.lines record { names = names; world = Some starts.tallied } starts.tallied starts.accepts refl in
    (runs.0, runs.1, subst (λ (w : WorldView). AppliesEvents (world_at_opening runs.0) runs.1 w) starts.its runs.2)
