-- One event from alike worlds, and all of a list.
use Rattle.std.proofs.Common.{◌≡◌, ◌≢◌, ℕ, List, [], ◌∷◌, refl, sym, ap, subst, ◌∙◌}
use Rattle.std.specs.Prelude.{Option, Some, None, Result, Ok, Err, slice_get, slice_set}
use Rattle.std.proofs.lemmas.Option.{none-some, same_Some}
use Rattle.rme_words.specs.declared.address.Address.{Address}
use Rattle.rme_words.specs.declared.shape.Shape.{Shape}
use Rattle.rme_words.specs.declared.refusal.Refusal.{Refusal}
use Rattle.rme_words.specs.declared.refusal.Refusal.TheVariants.{NoMemory}
use Rattle.rme_script.specs.declared.job.Job.{Job}
use Rattle.rme_program.specs.declared.event.Event.{Event}
use Rattle.rme_program.specs.declared.event.Event.TheVariants.{Submit, Step, Crash, Restart, Withdraw}
use Rattle.rme_program.specs.declared.event.Answer.{Answer}
use Rattle.rme_program.specs.declared.event.Answer.TheVariants as answer
use Rattle.rme_program.specs.declared.note.Note.{Note}
use Rattle.rme_program.specs.declared.private.Private.{Private}
use Rattle.rme_program.specs.ActionEffects.{ActionEffect}
use Rattle.rme_program.specs.Steps.{private_action, private_after, note_after, submitted_private, withdrawing_private, restarted_private}
use Rattle.rme_machine.specs.Changes.{history_after}
use Rattle.rme_program.specs.declared.note.Entry.{Entry}
use Rattle.rme_world.specs.declared.counts.Counts.{Counts}
use Rattle.rme_world.specs.WorldViews.{WorldView, world_memory}
use Rattle.rme_world.specs.Events.{SubmitChange, StepChange, CrashChange, RestartChange, WithdrawChange, world_with_private}
use Rattle.rme_world.specs.Calls.{SubmitContract, StepContract, CrashContract, RestartContract, WithdrawContract}
use Rattle.rme_world.specs.EventLists.{EventListContract, ListedEventContract}
use Rattle.rme_world.specs.Refusals.{RefusalIsGiven, crash_refusal, worker_job_refusal, refusal_unless_down, refusal_unless_up, restart_refusal, submit_refusal, withdraw_refusal}
use Rattle.rme_world.specs.Refinement.{answer_of_call}
use Rattle.rme_laws.specs.AlikeWorlds.{AreWorldsAlike}
use Rattle.rme_laws.proofs.Steps.{after_same, did_same, found_same}

-- Some refusal is not none.
some_none : {A : Type 0} (one other : Option Refusal) (refusal : Refusal) → one ≡ other → one ≡ None
    → other ≡ Some refusal → A
some_none one other refusal same none some = absurd (none-some refusal (sym none ∙ same ∙ some))

no_memory : {A : Type 0} (one : Option Refusal) (refusal : Refusal) (given : Answer) → one ≡ None
    → RefusalIsGiven one refusal → given ≡ answer.Refused refusal → given ≢ answer.Refused NoMemory → A
no_memory None refusal given none refused is memory = absurd (memory (is ∙ ap answer.Refused refused))
no_memory (Some other) refusal given none refused is memory = absurd (none-some other (sym none))

module _ (old again one other : WorldView) (alike : AreWorldsAlike old again) where
  -- Nothing changed.
  unchanged : one ≡ old → other ≡ again → AreWorldsAlike one other
  unchanged first second = record {
    shape = ap (λ (s : WorldView). s.shape) first ∙ alike.shape ∙ sym (ap (λ (s : WorldView). s.shape) second);
    words = ap world_memory first ∙ alike.words ∙ sym (ap world_memory second);
    privates = ap (λ (s : WorldView). s.privates) first ∙ alike.privates ∙ sym (ap (λ (s : WorldView). s.privates) second);
    history = ap (λ (s : WorldView). s.history) first ∙ alike.history ∙ sym (ap (λ (s : WorldView). s.history) second);
  }

  -- One worker's private state changed.
  known : (worker : ℕ) (private same : Option Private) (counts count : Counts) (room more : ℕ) → private ≡ same
      → one ≡ record (world_with_private old worker private counts) { room = room } → other ≡ record (world_with_private again worker same count) { room = more } → AreWorldsAlike one other
  known worker private same counts count room more is first second = record {
    shape = ap (λ (s : WorldView). s.shape) first ∙ alike.shape ∙ sym (ap (λ (s : WorldView). s.shape) second);
    words = ap world_memory first ∙ alike.words ∙ sym (ap world_memory second);
    privates = ap (λ (s : WorldView). s.privates) first ∙ ap (λ (ps : List (Option Private)). slice_set ps worker private) alike.privates ∙ ap (slice_set again.privates worker) is ∙ sym (ap (λ (s : WorldView). s.privates) second);
    history = ap (λ (s : WorldView). s.history) first ∙ alike.history ∙ sym (ap (λ (s : WorldView). s.history) second);
  }

  same_private : (worker : ℕ) (private same : Private) → slice_get old.privates worker ≡ Some (Some private)
      → slice_get again.privates worker ≡ Some (Some same) → private ≡ same
  same_private worker private same first second = same_Some _ _ (same_Some _ _ (sym first ∙ ap (λ (ps : List (Option Private)). slice_get ps worker) alike.privates ∙ second))

  pub submits : (worker : ℕ) (job : Job) (number also : ℕ) → SubmitChange old worker job number one
      → SubmitChange again worker job also other → AreWorldsAlike one other
  submits worker job number also first second =
      known worker (Some (submitted_private first.private job)) (Some (submitted_private second.private job)) _ _ one.room other.room
      (ap (λ (p : Private). Some (submitted_private p job)) (same_private worker first.private second.private first.found second.found)) first.hands second.hands

  pub withdraws : (worker : ℕ) → WithdrawChange old worker one → WithdrawChange again worker other
      → AreWorldsAlike one other
  withdraws worker first second =
      known worker (Some (withdrawing_private first.private)) (Some (withdrawing_private second.private)) _ _ old.room again.room
      (ap (λ (p : Private). Some (withdrawing_private p)) (same_private worker first.private second.private first.found second.found)) first.turns second.turns

  pub crashes : (worker : ℕ) → CrashChange old worker one → CrashChange again worker other → AreWorldsAlike one other
  crashes worker first second = known worker None None _ _ old.room again.room refl first.falls second.falls

  pub restarts : (worker : ℕ) → RestartChange old worker one → RestartChange again worker other
      → AreWorldsAlike one other
  restarts worker first second = known worker (Some (restarted_private worker)) (Some (restarted_private worker)) _ _ old.room again.room refl first.rises second.rises

  -- An own step, of one private state, from one memory.
  module _ (worker : ℕ) (note told : Note) (first : StepChange old worker note one) (second : StepChange again worker told other) where
    is : first.private ≡ second.private
    is = same_private worker first.private second.private first.found second.found

    did : ActionEffect (world_memory old) (world_memory other) (private_action old.shape first.private) second.value
    did =
        let P : Private → Type 0 = λ p. ActionEffect (world_memory again) (world_memory other) (private_action again.shape p) second.value in
        let Q : Shape → Type 0 = λ s. ActionEffect (world_memory again) (world_memory other) (private_action s first.private) second.value in
        let R : (Address → ℕ) → Type 0 = λ m. ActionEffect m (world_memory other) (private_action old.shape first.private) second.value in
        subst R (sym alike.words) (subst Q (sym alike.shape) (subst P (sym is) second.did))

    words : world_memory one ≡ world_memory other
    words = did_same (world_memory old) (world_memory one) (world_memory other) (private_action old.shape first.private) first.value second.value first.did did

    after : (private_after old.shape first.private first.value ≡ private_after old.shape first.private second.value) ×
        (note_after old.shape first.private first.value ≡ note_after old.shape first.private second.value)
    after = after_same old.shape first.private first.value second.value (found_same (world_memory old) (world_memory one) (world_memory other) (private_action old.shape first.private) first.value second.value first.did did)

    knows : private_after old.shape first.private first.value ≡ private_after again.shape second.private second.value
    knows = after.0 ∙ ap (λ (s : Shape). private_after s first.private second.value) alike.shape ∙ ap (λ (p : Private). private_after again.shape p second.value) is

    says : note ≡ told
    says = first.says ∙ after.1 ∙ ap (λ (s : Shape). note_after s first.private second.value) alike.shape ∙ ap (λ (p : Private). note_after again.shape p second.value) is ∙ sym second.says

    steps : AreWorldsAlike one other
    steps = record {
      shape = ap (λ (s : WorldView). s.shape) first.goes ∙ alike.shape ∙ sym (ap (λ (s : WorldView). s.shape) second.goes);
      words = words;
      privates = ap (λ (s : WorldView). s.privates) first.goes ∙ ap (λ (ps : List (Option Private)). slice_set ps worker (Some (private_after old.shape first.private first.value))) alike.privates
          ∙ ap (λ (p : Private). slice_set again.privates worker (Some p)) knows ∙ sym (ap (λ (s : WorldView). s.privates) second.goes);
      history = ap (λ (s : WorldView). s.history) first.goes ∙ ap (λ (h : List Entry). history_after h (world_memory old) worker note) alike.history
          ∙ ap (λ (m : Address → ℕ). history_after again.history m worker note) alike.words ∙ ap (history_after again.history (world_memory again) worker) says ∙ sym (ap (λ (s : WorldView). s.history) second.goes);
    }

-- One event. An event that is refused is refused in both, and not for want of memory.
module _ (old again one other : WorldView) (alike : AreWorldsAlike old again) where
  up_same : (worker : ℕ) (first second : Private → Option Refusal) → first ≡ second
      → refusal_unless_up (slice_get old.privates worker) first ≡ refusal_unless_up
      (slice_get again.privates worker) second
  up_same worker first second same =
      ap (λ (ps : List (Option Private)). refusal_unless_up (slice_get ps worker) first) alike.privates ∙ ap (refusal_unless_up (slice_get again.privates worker)) same

  job_same : (worker : ℕ) (job : Job) → submit_refusal old worker job ≡ submit_refusal again worker job
  job_same worker job = up_same worker (worker_job_refusal old job) (worker_job_refusal again job) (ap (λ (s : Shape). worker_job_refusal (record old { shape = s }) job) alike.shape)

  submit_one : (worker : ℕ) (job : Job) (result repeat : Result ℕ Refusal) (given also : Answer)
      → given ≡ answer_of_call answer.Handed result → also ≡ answer_of_call answer.Handed repeat
      → SubmitContract old worker job result one → SubmitContract again worker job repeat other → given ≢ answer.Refused NoMemory → also ≢ answer.Refused NoMemory → AreWorldsAlike one other
  submit_one worker job (Ok number) (Ok same) given also its was first second memory more = submits old again one other alike worker job number same first.accepted second.accepted
  submit_one worker job (Err why) (Err same) given also its was first second memory more = unchanged old again one other alike first.unchanged second.unchanged
  submit_one worker job (Ok number) (Err why) given also its was first second memory more =
      no_memory (submit_refusal again worker job) why also (sym (job_same worker job) ∙ first.accepted.may) second.refused was more
  submit_one worker job (Err why) (Ok number) given also its was first second memory more =
      no_memory (submit_refusal old worker job) why given (job_same worker job ∙ second.accepted.may) first.refused its memory

  pub step_one : (worker : ℕ) (result repeat : Result Note Refusal) → StepContract old worker result one
      → StepContract again worker repeat other → AreWorldsAlike one other
  step_one worker (Ok note) (Ok told) first second = steps old again one other alike worker note told first.accepted second.accepted
  step_one worker (Err why) (Err same) first second = unchanged old again one other alike first.unchanged second.unchanged
  step_one worker (Ok note) (Err why) first second = some_none _ _ why (up_same worker _ _ refl) first.accepted.may second.refused
  step_one worker (Err why) (Ok note) first second = some_none _ _ why (sym (up_same worker _ _ refl)) second.accepted.may first.refused

  -- The result is the same too.
  pub step_result : (worker : ℕ) (result repeat : Result Note Refusal) → StepContract old worker result one
      → StepContract again worker repeat other → result ≡ repeat
  step_result worker (Ok note) (Ok told) first second = ap Ok (says old again one other alike worker note told first.accepted second.accepted)
  step_result worker (Err why) (Err same) first second = ap Err (same_Some why same (sym first.refused ∙ up_same worker _ _ refl ∙ second.refused))
  step_result worker (Ok note) (Err why) first second = some_none _ _ why (up_same worker _ _ refl) first.accepted.may second.refused
  step_result worker (Err why) (Ok note) first second = some_none _ _ why (sym (up_same worker _ _ refl)) second.accepted.may first.refused

  pub crash_one : (worker : ℕ) (result repeat : Result (Unit {0}) Refusal) → CrashContract old worker result one
      → CrashContract again worker repeat other → AreWorldsAlike one other
  crash_one worker (Ok done) (Ok same) first second = crashes old again one other alike worker first.accepted second.accepted
  crash_one worker (Err why) (Err same) first second = unchanged old again one other alike first.unchanged second.unchanged
  crash_one worker (Ok done) (Err why) first second = some_none (crash_refusal old worker) (crash_refusal again worker) why (up_same worker _ _ refl) first.accepted.may second.refused
  crash_one worker (Err why) (Ok done) first second = some_none (crash_refusal again worker) (crash_refusal old worker) why (sym (up_same worker _ _ refl)) second.accepted.may first.refused

  pub restart_one : (worker : ℕ) (result repeat : Result (Unit {0}) Refusal) → RestartContract old worker result one
      → RestartContract again worker repeat other → AreWorldsAlike one other
  restart_one worker (Ok done) (Ok same) first second = restarts old again one other alike worker first.accepted second.accepted
  restart_one worker (Err why) (Err same) first second = unchanged old again one other alike first.unchanged second.unchanged
  restart_one worker (Ok done) (Err why) first second =
      some_none (restart_refusal old worker) (restart_refusal again worker) why (ap (λ (ps : List (Option Private)). refusal_unless_down (slice_get ps worker)) alike.privates) first.accepted.may second.refused
  restart_one worker (Err why) (Ok done) first second =
      some_none (restart_refusal again worker) (restart_refusal old worker) why (sym (ap (λ (ps : List (Option Private)). refusal_unless_down (slice_get ps worker)) alike.privates)) second.accepted.may first.refused

  pub withdraw_one : (worker : ℕ) (result repeat : Result (Unit {0}) Refusal) → WithdrawContract old worker result one
      → WithdrawContract again worker repeat other → AreWorldsAlike one other
  withdraw_one worker (Ok done) (Ok same) first second = withdraws old again one other alike worker first.accepted second.accepted
  withdraw_one worker (Err why) (Err same) first second = unchanged old again one other alike first.unchanged second.unchanged
  withdraw_one worker (Ok done) (Err why) first second = some_none (withdraw_refusal old worker) (withdraw_refusal again worker) why (up_same worker _ _ refl) first.accepted.may second.refused
  withdraw_one worker (Err why) (Ok done) first second = some_none (withdraw_refusal again worker) (withdraw_refusal old worker) why (sym (up_same worker _ _ refl)) second.accepted.may first.refused

  happens : (event : Event) (given also : Answer) → ListedEventContract old event given one
      → ListedEventContract again event also other → AreWorldsAlike one other
  happens (Submit worker job) given also first second = submit_one worker job first.call.0 second.call.0 given also first.call.1 second.call.1 first.call.2 second.call.2 first.memory second.memory
  happens (Step worker) given also first second = step_one worker first.call.0 second.call.0 first.call.2 second.call.2
  happens (Crash worker) given also first second = crash_one worker first.call.0 second.call.0 first.call.2 second.call.2
  happens (Restart worker) given also first second = restart_one worker first.call.0 second.call.0 first.call.2 second.call.2
  happens (Withdraw worker) given also first second = withdraw_one worker first.call.0 second.call.0 first.call.2 second.call.2

-- Unchanged worlds stay alike.
pub alike_after : (old again one other : WorldView) → AreWorldsAlike old again → one ≡ old → other ≡ again
    → AreWorldsAlike one other
alike_after old again one other alike first second = unchanged old again one other alike first second

-- All events of a list.
pub all_happen : (events : List Event) (told also : List Answer) (old again one other : WorldView)
    → AreWorldsAlike old again → EventListContract old events told one → EventListContract again events also other
    → AreWorldsAlike one other
all_happen [] [] [] old again one other alike first second = unchanged old again one other alike first second
all_happen [] (given ∷ told) also old again one other alike first second = absurd first
all_happen [] [] (given ∷ also) old again one other alike first second = absurd second
all_happen (event ∷ events) [] also old again one other alike first second = absurd first
all_happen (event ∷ events) (given ∷ told) [] old again one other alike first second = absurd second
all_happen (event ∷ events) (given ∷ told) (same ∷ also) old again one other alike first second =
    all_happen events told also first.0 second.0 one other (happens old again first.0 second.0 alike event given same first.1 second.1) first.2 second.2

pub alike_itself : (seen : WorldView) → AreWorldsAlike seen seen
alike_itself seen = record { shape = refl; words = refl; privates = refl; history = refl }
