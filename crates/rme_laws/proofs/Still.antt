-- Steps that change nothing: blocked ones, and those of a worker that is ready.
use Rattle.std.proofs.Common.{◌≡◌, ◌≢◌, ℕ, zero, suc, ◌+◌, List, [], ◌∷◌, replicate, refl, sym, ap, subst, ◌∙◌}
use Rattle.std.specs.Prelude.{get_or, unwrap_or, ◌==◌, Bool, true, false, if◌then◌else◌, Option, Some, None, Result, Ok, Err, slice_get, slice_set}
use Rattle.std.proofs.lemmas.Bool.{eq-eqb, ne_eqb}
use Rattle.std.proofs.lemmas.List.{set-get_or}
use Rattle.std.proofs.lemmas.Option.{none-some, same_Some, unwrap_or-slice_get}
use Rattle.rme_words.specs.declared.shape.Shape.{Shape}
use Rattle.rme_words.specs.declared.refusal.Refusal.{Refusal}
use Rattle.rme_words.specs.declared.refusal.Refusal.TheVariants.{Idle}
use Rattle.rme_program.specs.declared.event.Event.TheVariants.{Step}
use Rattle.rme_program.specs.declared.event.Answer.{Answer}
use Rattle.rme_program.specs.declared.note.Note.{Note}
use Rattle.rme_program.specs.declared.note.Note.TheVariants.{Quiet, Blocked, Entered}
use Rattle.rme_program.specs.declared.private.Private.{Private}
use Rattle.rme_program.specs.declared.stage.Ascent.{Ascent}
use Rattle.rme_program.specs.declared.stage.Log.TheVariants.{LoadTurn}
use Rattle.rme_program.specs.declared.stage.Stage.{Stage}
use Rattle.rme_program.specs.declared.stage.Stage.TheVariants.{Climbing, Logging}
use Rattle.rme_program.specs.ActionEffects.{ActionEffect}
use Rattle.rme_program.specs.Steps.{stage_action, after_ascent, outcome_at, begun_after, private_after}
use Rattle.rme_world.specs.Calls.{StepContract}
use Rattle.rme_world.specs.EventLists.{EventListContract}
use Rattle.rme_world.specs.Events.{StepChange}
use Rattle.rme_world.specs.Queries.{WorkerIsReady, WorkerIsBlocked}
use Rattle.rme_world.specs.Refusals.{is_resting_stage, refusal_unless_up, step_refusal}
use Rattle.rme_world.specs.WorldViews.{WorldView, world_memory}
use Rattle.rme_laws.specs.AlikeWorlds.{AreWorldsAlike}
use Rattle.rme_laws.proofs.Events.{alike_after, alike_itself, step_result}

pub alike_then : (one mid other : WorldView) → AreWorldsAlike one mid → AreWorldsAlike mid other → AreWorldsAlike one other
alike_then one mid other first second = record { shape = first.shape ∙ second.shape; words = first.words ∙ second.words; privates = first.privates ∙ second.privates; history = first.history ∙ second.history }

pub alike_back : (one other : WorldView) → AreWorldsAlike one other → AreWorldsAlike other one
alike_back one other alike = record { shape = sym alike.shape; words = sym alike.words; privates = sym alike.privates; history = sym alike.history }

set_same : {A : Type 0} (xs : List A) (i : ℕ) (x : A) → slice_get xs i ≡ Some x → slice_set xs i x ≡ xs
set_same xs i x found =
    let is : get_or xs i x ≡ x = sym (unwrap_or-slice_get xs i x) ∙ ap (λ o. unwrap_or o x) found in
    ap (slice_set xs i) (sym is) ∙ set-get_or xs i x

-- A climb that took a node is not blocked.
taken_apart : (lock held : ℕ) (top : Bool) → let out : Stage × Note = if top then (Logging (LoadTurn lock), Entered lock) else (Climbing record { lock = lock; held = held }, Quiet) in out.1 ≡ Blocked → ⊥
taken_apart lock held true is = let bad : Entered lock ≡ Blocked = is in cc
taken_apart lock held false is = let bad : Quiet ≡ Blocked = is in cc

not_free : (shape : Shape) (ascent : Ascent) (value : ℕ) → (after_ascent shape ascent value).1 ≡ Blocked → value ≢ 0
not_free shape ascent value is free = taken_apart ascent.lock (ascent.held + 1) (ascent.held + 1 == shape.height) (rw (eq-eqb value 0 free) at is)

stays_there : (shape : Shape) (ascent : Ascent) (value : ℕ) → value ≢ 0 → let there : Stage × Note = (Climbing ascent, Blocked) in after_ascent shape ascent value ≡ there
stays_there shape ascent value apart = rw (ne_eqb value 0 apart) refl

knows_still : (shape : Shape) (worker begun : ℕ) (ascent : Ascent) (value : ℕ) → value ≢ 0
    → let now : Private = record { worker = worker; begun = begun_after begun (Climbing ascent) value; stage = (outcome_at shape worker begun (Climbing ascent) value).0 } in
    let before : Private = record { worker = worker; begun = begun; stage = Climbing ascent } in now ≡ before
knows_still shape worker begun ascent value apart = ap (λ (s : Stage × Note). let p : Private = record { worker = worker; begun = begun; stage = s.0 } in p) (stays_there shape ascent value apart)

module _ (old one : WorldView) (worker : ℕ) (step : StepContract old worker (Ok Blocked) one) where
  its : WorkerIsBlocked old worker
  its = step.blocked refl

  made : StepChange old worker Blocked one
  made = step.accepted

  climbs : made.private.stage ≡ Climbing its.ascent
  climbs = ap (λ (p : Private). p.stage) (sym (same_Some its.private made.private (same_Some _ _ (sym its.found ∙ made.found)))) ∙ its.climbs

  apart : made.value ≢ 0
  apart =
      let N : Stage → Type 0 = λ s. (outcome_at old.shape made.private.worker made.private.begun s made.value).1 ≡ Blocked in
      not_free old.shape its.ascent made.value (subst N climbs (sym made.says))

  knows : private_after old.shape made.private made.value ≡ made.private
  knows =
      let M : Stage → Type 0 = λ s. let now : Private = record { worker = made.private.worker; begun = begun_after made.private.begun s made.value; stage = (outcome_at old.shape made.private.worker made.private.begun s made.value).0 } in
      let before : Private = record { worker = made.private.worker; begun = made.private.begun; stage = s } in now ≡ before in
      subst M (sym climbs) (knows_still old.shape made.private.worker made.private.begun its.ascent made.value apart)

  words : world_memory one ≡ world_memory old
  words =
      let D : Stage → Type 0 = λ s. ActionEffect (world_memory old) (world_memory one) (stage_action old.shape made.private.worker made.private.begun s) made.value in
      (subst D climbs made.did).2 apart

  -- A blocked step changes nothing.
  pub blocked_same : AreWorldsAlike old one
  blocked_same = record {
    shape = sym (ap (λ (s : WorldView). s.shape) made.goes);
    words = sym words;
    privates = sym (ap (λ (s : WorldView). s.privates) made.goes ∙ ap (λ (p : Private). slice_set old.privates worker (Some p)) knows ∙ set_same old.privates worker (Some made.private) made.found);
    history = sym (ap (λ (s : WorldView). s.history) made.goes);
  }

-- Nor do further blocked steps.
pub all_blocked : (steps worker : ℕ) (answers : List Answer) (base after old one : WorldView) → StepContract base worker (Ok Blocked) after → AreWorldsAlike base old → EventListContract old (replicate steps (Step worker)) answers one → AreWorldsAlike old one
all_blocked zero worker [] base after old one step alike all = alike_after old old old one (alike_itself old) refl all
all_blocked zero worker (given ∷ answers) base after old one step alike all = absurd all
all_blocked (suc steps) worker [] base after old one step alike all = absurd all
all_blocked (suc steps) worker (given ∷ answers) base after old one step alike all =
    let mid : WorldView = all.0 in
    let P : Result Note Refusal → Type 0 = λ r. StepContract old worker r mid in
    let again : StepContract old worker (Ok Blocked) mid = subst P (sym (step_result base old after mid alike worker (Ok Blocked) all.1.call.0 step all.1.call.2)) all.1.call.2 in
    let same : AreWorldsAlike old mid = blocked_same old mid worker again in
    alike_then old mid one same (all_blocked steps worker answers old mid mid one again same all.2)

-- A worker that is ready has no step to make.
refused_ready : (seen : WorldView) (worker : ℕ) → WorkerIsReady seen worker → step_refusal seen worker ≡ Some Idle
refused_ready seen worker its =
    ap (λ (found : Option (Option Private)). refusal_unless_up found (λ (p : Private). if is_resting_stage p.stage then Some Idle else None)) its.1 ∙ ap (λ (s : Stage). if is_resting_stage s then Some Idle else None) its.2

ready_step : (old one : WorldView) (worker : ℕ) (result : Result Note Refusal) → WorkerIsReady old worker → StepContract old worker result one → AreWorldsAlike old one
ready_step old one worker (Ok note) ready step = absurd (none-some Idle (sym step.accepted.may ∙ refused_ready old worker ready))
ready_step old one worker (Err why) ready step = alike_after old old old one (alike_itself old) refl step.unchanged

pub ready_on : (one other : WorldView) (worker : ℕ) → AreWorldsAlike one other → WorkerIsReady one worker → WorkerIsReady other worker
ready_on one other worker alike its = (its.0, sym (ap (λ (ps : List (Option Private)). slice_get ps worker) alike.privates) ∙ its.1, its.2)

pub all_ready : (steps worker : ℕ) (answers : List Answer) (old one : WorldView) → WorkerIsReady old worker → EventListContract old (replicate steps (Step worker)) answers one → AreWorldsAlike old one
all_ready zero worker [] old one ready all = alike_after old old old one (alike_itself old) refl all
all_ready zero worker (given ∷ answers) old one ready all = absurd all
all_ready (suc steps) worker [] old one ready all = absurd all
all_ready (suc steps) worker (given ∷ answers) old one ready all =
    let same : AreWorldsAlike old all.0 = ready_step old all.0 worker all.1.call.0 ready all.1.call.2 in
    alike_then old all.0 one same (all_ready steps worker answers all.0 one (ready_on old all.0 worker same ready) all.2)
