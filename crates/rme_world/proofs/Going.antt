-- One own step of a worker, as the code executes it: its preconditions and its effect.
use Rattle.std.proofs.Common.{◌≡◌, ◌≢◌, ℕ, ◌+◌, ◌/◌, ◌%◌, ◌<◌, ◌≤◌, List, [], ◌∷◌, ◌++◌, false, length, refl, sym, ◌∙◌, ap, subst, arith}
use Rattle.std.specs.Prelude.{Option, Some, slice_get, slice_set, slice_index_or, unwrap_or}
use Rattle.std.proofs.lemmas.Option.{same_Some, slice_get_read}
use Rattle.rme_words.specs.declared.shape.Shape.{Shape}
use Rattle.rme_words.specs.declared.address.Address.{Address}
use Rattle.rme_words.specs.declared.address.Address.TheVariants.{Done, SlateLock, SlateLen, SlateWord}
use Rattle.rme_words.specs.Words.{StoreEffect, read_word_at}
use Rattle.rme_script.specs.declared.job.Job.{Job}
use Rattle.rme_program.specs.declared.action.Action.{Action}
use Rattle.rme_program.specs.declared.note.Entry.{Entry}
use Rattle.rme_program.specs.declared.note.Receipt.{Receipt}
use Rattle.rme_program.specs.declared.note.Note.{Note}
use Rattle.rme_program.specs.declared.note.Note.TheVariants.{Quiet, Asked, Blocked, Entered, Reentered, Finished, Left, Ready, Withdrew}
use Rattle.rme_program.specs.declared.kinds.Phase.{Phase}
use Rattle.rme_program.specs.declared.kinds.Phase.TheVariants as phase
use Rattle.rme_program.specs.declared.private.Private.{Private}
use Rattle.rme_program.specs.declared.stage.Stage.{Stage}
use Rattle.rme_program.specs.declared.stage.Stage.TheVariants.{Resting, Recovering, Posting, Climbing, Logging, Copying, Leaving}
use Rattle.rme_program.specs.Conditions.{IsPrivate, IsValidLoad}
use Rattle.rme_program.specs.ActionEffects.{ActionEffect}
use Rattle.rme_program.specs.Phases.{phase_of}
use Rattle.rme_program.specs.Steps.{private_action, stage_action, private_after, note_after, outcome_at}
use Rattle.rme_machine.specs.Changes.{history_after}
use Rattle.rme_machine.specs.Views.{worker_words, slate_of_worker, slate_job}
use Rattle.rme_machine.proofs.Further.{fitting}
use Rattle.rme_machine.proofs.Own_step.{own_step}
use Rattle.rme_machine.proofs.Lists.{made_same}
use Rattle.rme_machine.proofs.Taking.{taking}
use Rattle.rme_world.specs.declared.counts.Counts.{Counts}
use Rattle.rme_world.specs.Counting.{CountsAfterStep, phase_count, max_phase_steps, no_counts}
use Rattle.rme_world.specs.WorldViews.{WorldView, worker_counts, world_memory, world_privates, world_abstract_state}
use Rattle.rme_world.specs.WorldInvariants.{WorldInvariant}
use Rattle.rme_world.specs.Refusals.{is_resting_stage}
use Rattle.rme_world.specs.Queries.{WorkerIsBusy}
use Rattle.rme_world.specs.Events.{StepChange}
use Rattle.rme_program.specs.NoteLaws.{NoteMeaning}
use Rattle.rme_program.proofs.NoteLaws.{note_law}
use Rattle.rme_world.proofs.Owing.{owed_step}
use Rattle.rme_world.proofs.Worlds.{became, changed, is_worker, up_at}

-- ---- the slate of a worker whose section is finished

slate_same : (old new : Address → ℕ) (worker value : ℕ) → StoreEffect old new (Done worker) value → slate_of_worker new worker ≡ slate_of_worker old worker
unfolding slate_of_worker
slate_same old new worker value wrote = made_same _ _ 24 (λ i within. wrote.off (SlateWord worker (i / 3) (i % 3)) (λ q. cc))

job_same : (old new : Address → ℕ) (worker value : ℕ) → StoreEffect old new (Done worker) value → slate_job (worker_words new worker) ≡ slate_job (worker_words old worker)
job_same old new worker value wrote =
    rw (wrote.off (SlateLock worker) (λ q. cc), wrote.off (SlateLen worker) (λ q. cc), slate_same old new worker value wrote) refl

-- The history after a step is the same, whether the slate is read before the step or after it.
history_same : (shape : Shape) (old new : Address → ℕ) (history : List Entry) (worker begun value : ℕ) (stage : Stage) (note : Note)
    → ActionEffect old new (stage_action shape worker begun stage) value → NoteMeaning shape record { worker = worker; begun = begun; stage = stage } value (outcome_at shape worker begun stage value).0 note
    → history_after history new worker note ≡ history_after history old worker note
history_same shape old new history worker begun value stage Quiet did tells = refl
history_same shape old new history worker begun value stage (Asked k) did tells = refl
history_same shape old new history worker begun value stage Blocked did tells = refl
history_same shape old new history worker begun value stage (Entered lock) did tells = refl
history_same shape old new history worker begun value stage (Reentered lock) did tells = refl
history_same shape old new history worker begun value stage (Finished receipt) did (visit, mask, reply, e, to) =
    let wrote : StoreEffect old new (Done worker) begun = rw e at did in
    ap (λ (j : Job). history ++ record { receipt = receipt; script = j.script } ∷ []) (job_same old new worker begun wrote)
history_same shape old new history worker begun value stage (Left lock) did tells = refl
history_same shape old new history worker begun value stage Ready did tells = refl
history_same shape old new history worker begun value stage (Withdrew k) did tells = refl

seen_same : (a b : WorldView) → a.shape ≡ b.shape → a.words ≡ b.words → a.privates ≡ b.privates → a.history ≡ b.history → a.counts ≡ b.counts → a.room ≡ b.room → a ≡ b
seen_same a b shape words privates history counts room =
    ap (λ (x : Shape). record a { shape = x }) shape
    ∙ ap (λ (x : List ℕ). record a { shape = b.shape; words = x }) words
    ∙ ap (λ (x : List (Option Private)). record a { shape = b.shape; words = b.words; privates = x }) privates
    ∙ ap (λ (x : List Entry). record a { shape = b.shape; words = b.words; privates = b.privates; history = x }) history
    ∙ ap (λ (x : List Counts). record b { counts = x; room = a.room }) counts
    ∙ ap (λ (x : ℕ). record b { room = x }) room

not_idle : (stage : Stage) → stage ≢ Resting → is_resting_stage stage ≡ false
not_idle Resting busy = absurd (busy refl)
not_idle (Recovering recovery) busy = refl
not_idle (Posting slate) busy = refl
not_idle (Climbing ascent) busy = refl
not_idle (Logging log) busy = refl
not_idle (Copying redo) busy = refl
not_idle (Leaving departure) busy = refl

-- The slot of a busy worker holds its private state.
pub lies : (old : WorldView) (worker : ℕ) (private : Private) (place : Option Private) → WorldInvariant old → WorkerIsBusy old worker → place ≡ slice_index_or old.privates worker place → place ≡ Some private
    → (slice_get old.privates worker ≡ Some (Some private)) × (private.stage ≢ Resting)
lies old worker private place kept (its, found, busy) value is =
    let within : worker < old.shape.workers = is_worker old worker (Some its) kept.all_privates found in
    let here : slice_get old.privates worker ≡ Some (Some private) = slice_get_read old.privates old.shape.workers worker place (sym kept.all_privates) within value ∙ ap (λ (p : Option Private). Some p) is in
    let same : its ≡ private = same_Some its private (same_Some (Some its) (Some private) (sym found ∙ here)) in
    (here, λ rests. busy (ap (λ (p : Private). p.stage) same ∙ rests))

-- Each busy worker has a slot, and the slot holds its counts.
pub busy_within : (old : WorldView) (worker : ℕ) → WorldInvariant old → WorkerIsBusy old worker → worker < old.shape.workers
busy_within old worker kept (its, found, busy) = is_worker old worker (Some its) kept.all_privates found

pub counts_lie : (old : WorldView) (worker : ℕ) (place : Counts) → WorldInvariant old → worker < old.shape.workers → place ≡ slice_index_or old.counts worker place → place ≡ worker_counts old worker
counts_lie old worker place kept within value =
    sym (ap (λ (c : Option Counts). unwrap_or c no_counts) (slice_get_read old.counts old.shape.workers worker place (sym kept.all_counts) within value))

module _ (old : WorldView) (worker : ℕ) (private : Private) (kept : WorldInvariant old) (found : slice_get old.privates worker ≡ Some (Some private)) (busy : private.stage ≢ Resting) where
  within : worker < old.shape.workers
  within = is_worker old worker (Some private) kept.all_privates found

  up : world_privates old worker ≡ Some private
  up = up_at old worker (Some private) found

  its : (private.worker ≡ worker) × IsPrivate old.shape private
  its = fitting old.shape (world_memory old) (world_privates old) old.history worker private kept.fact within up

  -- The private state is one of the shape, and the loaded value is one that it accepts.
  pub known : (shape : Shape) → shape ≡ old.shape → IsPrivate shape private
  known shape same = subst (λ (s : Shape). IsPrivate s private) (sym same) its.1

  abbrev DidIt : Shape → List ℕ → Action → ℕ → Type 0
  DidIt shape words action value = ActionEffect (world_memory old) (read_word_at shape words) action value

  pub takes : (shape : Shape) → shape ≡ old.shape → (words : List ℕ) (action : Action) (value : ℕ) (bank : Shape) → bank ≡ old.shape → action ≡ private_action shape private
      → DidIt bank words action value → IsValidLoad shape private.stage value
  takes shape same words action value bank banks next did =
      let P : Shape → Type 0 = λ (s : Shape). (a : Action) → a ≡ private_action s private → DidIt bank words a value → IsValidLoad s private.stage value in
      subst P (sym same) (λ a e d. taking old.shape (world_memory old) (read_word_at bank words) (world_privates old) old.history worker private value kept.fact within up busy
      (subst (λ (b : Action). DidIt bank words b value) e d)) action next did

  -- The count of the phase can be incremented without overflow.
  pub few : (counts : Counts) → counts ≡ worker_counts old worker → phase_count counts (phase_of private.stage) < 4294967295
  few counts same =
      let limit = kept.short worker (phase_of private.stage) within in
      subst (λ (c : Counts). phase_count c (phase_of private.stage) < 4294967295) (sym same) (small_count (phase_of private.stage) _ limit)
    where
      small_count : (p : Phase) (n : ℕ) → n ≤ max_phase_steps old.shape p → n < 4294967295
      small_count phase.Recover n le = omega (arith, le, old.shape.counted.tree.few_levels)
      small_count phase.Post n le = omega (arith, le)
      small_count phase.Enter n le = omega (arith, le, old.shape.counted.tree.few_levels)
      small_count phase.Section n le = omega (arith, le, old.shape.counted.limits)
      small_count phase.Exit n le = omega (arith, le, old.shape.counted.tree.few_levels)
      small_count phase.Ready n le = omega (arith, le)

  -- The history has room for a finished section.
  pub roomy : (shape : Shape) → shape ≡ old.shape → (words : List ℕ) (action : Action) (value : ℕ) (bank : Shape) → bank ≡ old.shape → action ≡ private_action shape private → DidIt bank words action value
      → (note : Note) → note ≡ note_after shape private value → (receipt : Receipt) → note ≡ Finished receipt → 1 ≤ old.room
  roomy shape same words action value bank banks next did note says receipt finished =
      let P : Shape → Type 0 = λ (s : Shape). DidIt s words (private_action old.shape private) value in
      let did_here : ActionEffect (world_memory old) (read_word_at old.shape words) (private_action old.shape private) value
      = subst P banks (subst (λ (a : Action). DidIt bank words a value) (next ∙ ap (λ (s : Shape). private_action s private) same) did) in
      let says_here : Finished receipt ≡ note_after old.shape private value = sym finished ∙ says ∙ ap (λ (s : Shape). note_after s private value) same in
      let after : WorldView = changed old worker (Some (private_after old.shape private value)) no_counts words old.history 0 in
      let goes = own_step old.shape (world_memory old) (read_word_at old.shape words) (world_privates old) (world_privates after) old.history worker private value kept.fact within up busy did_here
      (became old worker (Some (private_after old.shape private value)) no_counts words old.history 0 kept.all_privates within) in
      let one = owed_step old.shape _ (world_abstract_state old) worker _ goes.1 in
      omega (arith, rw (← says_here) at one, kept.room)

  -- The executed action is the step.
  pub stepped : (new : WorldView) (shape : Shape) → shape ≡ old.shape → (action : Action) (value : ℕ) (next : Private) (note : Note) (counts start : Counts) (before after : Phase)
      → new.shape ≡ old.shape → action ≡ private_action shape private → ActionEffect (world_memory old) (world_memory new) action value
      → next ≡ private_after shape private value → note ≡ note_after shape private value
      → new.privates ≡ slice_set old.privates worker (Some next) → new.counts ≡ slice_set old.counts worker counts
      → new.history ≡ history_after old.history (world_memory new) worker note → length new.history + new.room ≡ length old.history + old.room
      → start ≡ worker_counts old worker → before ≡ phase_of private.stage → after ≡ phase_of next.stage → CountsAfterStep start before after note counts
      → StepChange old worker note new
  stepped new shape same action value next note counts start before after shaped acts did is_next is_note privates counted_up history room begins is_before is_after count =
      record {
        may = rw (found, not_idle private.stage busy) refl;
        private = private;
        found = found;
        value = value;
        did = did_here;
        says = says;
        counts = counts;
        counted = subst (λ (c : Counts). CountsAfterStep c (phase_of private.stage) (phase_of (private_after old.shape private value).stage) note counts) begins
            (subst (λ (b : Phase). CountsAfterStep start b (phase_of (private_after old.shape private value).stage) note counts) is_before
            (subst (λ (a : Phase). CountsAfterStep start before a note counts) (is_after ∙ ap (λ (p : Private). phase_of p.stage) nexts) count));
        goes = seen_same new _ shaped refl (privates ∙ ap (λ (p : Private). slice_set old.privates worker (Some p)) nexts) (history ∙ before_it) counted_up refl;
        room = room;
      }
    where
      did_here : ActionEffect (world_memory old) (world_memory new) (private_action old.shape private) value
      did_here = subst (λ (a : Action). ActionEffect (world_memory old) (world_memory new) a value) (acts ∙ ap (λ (s : Shape). private_action s private) same) did

      says : note ≡ note_after old.shape private value
      says = is_note ∙ ap (λ (s : Shape). note_after s private value) same

      nexts : next ≡ private_after old.shape private value
      nexts = is_next ∙ ap (λ (s : Shape). private_after s private value) same

      worker_is : private.worker ≡ worker
      worker_is = its.0

      before_it : history_after old.history (world_memory new) worker note ≡ history_after old.history (world_memory old) worker note
      before_it = history_same old.shape (world_memory old) (world_memory new) old.history worker private.begun value private.stage note
          (let P : ℕ → Type 0 = λ (w : ℕ). ActionEffect (world_memory old) (world_memory new) (stage_action old.shape w private.begun private.stage) value in subst P worker_is did_here)
          (let P : Note → Type 0 = λ (n : Note). NoteMeaning old.shape record { worker = worker; begun = private.begun; stage = private.stage } value (outcome_at old.shape worker private.begun private.stage value).0 n in
          let Q : ℕ → Type 0 = λ (w : ℕ). note_after old.shape private value ≡ (outcome_at old.shape w private.begun private.stage value).1 in
          let at : note_after old.shape private value ≡ (outcome_at old.shape worker private.begun private.stage value).1 = subst Q worker_is refl in
          subst P (sym (says ∙ at)) (note_law old.shape worker private.begun private.stage value))
