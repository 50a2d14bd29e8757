-- Events of one worker leave the others as they are.
use Rattle.std.proofs.Common.{◌≡◌, ◌≢◌, ℕ, zero, suc, ◌+◌, ◌<◌, true, false, List, [], ◌∷◌, ◌++◌, refl, sym, subst, ap, ◌∙◌, inl, inr, arith}
use Rattle.std.specs.Prelude.{Bool, Option, Some, None, slice_get}
use Rattle.std.proofs.lemmas.Option.{none-some, same_Some}
use Rattle.rme_words.specs.declared.shape.Shape.{Shape}
use Rattle.rme_program.specs.declared.event.Answer.{Answer}
use Rattle.rme_program.specs.declared.event.Answer.TheVariants as answer
use Rattle.rme_program.specs.declared.event.Event.{Event}
use Rattle.rme_program.specs.declared.event.Event.TheVariants as event
use Rattle.rme_program.specs.declared.note.Entry.{Entry}
use Rattle.rme_machine.specs.declared.label.Act.{Act}
use Rattle.rme_machine.specs.declared.label.Act.TheVariants.{Hand, Ask, Take, Finish, Leave, Withdraw, Crash, Restart, Reenter, Still, Wait}
use Rattle.rme_machine.specs.declared.label.Label.{Label}
use Rattle.rme_machine.specs.declared.label.Label.TheVariants.{Nothing, Of}
use Rattle.rme_machine.specs.declared.stance.JobStance.{JobStance}
use Rattle.rme_machine.specs.declared.stance.JobStance.TheVariants.{Idle, Handed, Waiting, Inside, Finished}
use Rattle.rme_machine.specs.AbstractState.{abstract_worker}
use Rattle.rme_machine.specs.Histories.{last_entry_of_worker}
use Rattle.rme_machine.specs.Labels.{event_label}
use Rattle.rme_machine.specs.Machine.{ActEffect, LabelStep, MachineRun, MachineState, MachineStep, WorkerState, with_worker}
use Rattle.rme_machine.proofs.Historical.{last_by_other}
use Rattle.rme_machine.proofs.Lists.{get_set_other, made_get}
use Rattle.rme_world.specs.EventLists.{EventContract, EventListContract}
use Rattle.rme_world.specs.Refinement.{EventsHaveLabels, IsRefinement}
use Rattle.rme_world.specs.WorldViews.{WorldView, world_abstract_state, world_memory, world_privates}
use Rattle.rme_session_world.specs.EventBatches.{batch_events, crash_events, start_events, step_events}
use Rattle.rme_session_world.specs.Executors.{held_session, held_session_if}
use Rattle.rme_session_world.specs.SessionBatches.{holder_by}
use Rattle.rme_session_world.specs.WorkerSessions.{receipt_of_number, worker_session, worker_session_by, worker_state_in}
use Rattle.rme_session_world.specs.declared.event_batch.BatchStart.{BatchStart}
use Rattle.rme_session_world.specs.declared.event_batch.BatchStart.TheVariants as start
use Rattle.rme_session_world.specs.declared.event_batch.EventBatch.{EventBatch}
use Rattle.rme_session_protocol.specs.declared.view.Session.TheVariants.{Ready}
use Rattle.rme_program.specs.declared.note.Receipt.{Receipt}
use Rattle.rme_durable_log.specs.Logs.{AreNotByAuthor, IsNotByAuthor}
use Rattle.rme_durable_log.specs.declared.log_entry.LogEntry.{LogEntry}
use Rattle.rme_durable_log.specs.declared.log_entry.LogEntry.TheVariants.{Barrier, Lines, Whole}
use Rattle.rme_durable_epochs.specs.ClientValues.{client_session}
use Rattle.rme_durable_epochs.specs.declared.epoch_base.Base.{Base}
use Rattle.rme_durable_server.specs.ServerHistories.{AppendsSessionBatch, BeginsEpoch, EntriesLead, EntryLeads, KeepsWorker, ServerState}

-- ---- a step of the machine

-- The state of a worker, and its last entry, are the same.
abbrev pub SameIn : ℕ → MachineState → MachineState → Type 0
SameIn w old new = (slice_get new.workers w ≡ slice_get old.workers w) × (last_entry_of_worker new.history w ≡ last_entry_of_worker old.history w)

same_then : (w : ℕ) (old mid new : MachineState) → SameIn w old mid → SameIn w mid new → SameIn w old new
same_then w old mid new one two = (two.0 ∙ one.0, two.1 ∙ one.1)

module _ (shape : Shape) (v w : ℕ) (apart : w ≢ v) where
  by_worker : (old new : MachineState) (x : WorkerState) → new ≡ with_worker old v x → SameIn w old new
  by_worker old new x is = subst (SameIn w old) (sym is) (get_set_other old.workers v w x apart, refl)

  act_leaves : (act : Act) (old : MachineState) (me : WorkerState) (new : MachineState)
      → ActEffect shape act old v me new → SameIn w old new
  act_leaves (Hand k job) old me new goes = by_worker old new _ goes.5
  act_leaves (Ask k) old me new goes = by_worker old new _ goes.4
  act_leaves (Take lock) old me new goes = subst (SameIn w old) (sym goes.6) (get_set_other old.workers v w _ apart, refl)
  act_leaves (Finish receipt) old me new goes =
      let by : receipt.worker ≡ v = ap (λ (r : Receipt). r.worker) goes.5 in
      subst (SameIn w old) (sym goes.6) (get_set_other old.workers v w _ apart, last_by_other old.history record { receipt = receipt; script = goes.1.script } w (λ (same : receipt.worker ≡ w). apart (sym same ∙ by)))
  act_leaves (Leave lock) old me new goes = subst (SameIn w old) (sym goes.6) (get_set_other old.workers v w _ apart, refl)
  act_leaves (Withdraw k) old me new goes = by_worker old new _ goes.3
  act_leaves Crash old me new goes = by_worker old new _ goes.1
  act_leaves Restart old me new goes = by_worker old new _ goes.1
  act_leaves (Reenter lock) old me new goes = by_worker old new _ goes.3
  act_leaves Still old me new goes = subst (SameIn w old) (sym goes.1) (refl, refl)
  act_leaves Wait old me new goes = subst (SameIn w old) (sym goes.4) (refl, refl)

  -- A label is of this worker, or nothing.
  abbrev pub IsOf : Label → Type 0
  IsOf Nothing = Unit {0}
  IsOf (Of u act) = u ≡ v

  label_leaves : (label : Label) → IsOf label → (old new : MachineState) → LabelStep shape label old new
      → SameIn w old new
  label_leaves Nothing of_it old new step = subst (SameIn w old) (sym step) (refl, refl)
  label_leaves (Of u act) of_it old new step =
      let mine : MachineStep shape act old v new = subst (λ (x : ℕ). MachineStep shape act old x new) of_it step in
      act_leaves act old mine.me new mine.goes

  -- An event is of this worker.
  abbrev pub IsEventOf : Event → Type 0
  IsEventOf (event.Submit u job) = u ≡ v
  IsEventOf (event.Step u) = u ≡ v
  IsEventOf (event.Crash u) = u ≡ v
  IsEventOf (event.Restart u) = u ≡ v
  IsEventOf (event.Withdraw u) = u ≡ v

  pub label_of : (one : Event) → IsEventOf one → (given : Answer) (label : Label) → event_label one given ≡ Some label
      → IsOf label
  label_of one of_it (answer.Refused refusal) label is = subst IsOf (same_Some _ _ is) tt
  label_of (event.Submit u job) of_it (answer.Handed k) label is = subst IsOf (same_Some _ _ is) of_it
  label_of (event.Step u) of_it (answer.Stepped note) label is = subst IsOf (same_Some _ _ is) of_it
  label_of (event.Crash u) of_it answer.Crashed label is = subst IsOf (same_Some _ _ is) of_it
  label_of (event.Restart u) of_it answer.Restarted label is = subst IsOf (same_Some _ _ is) of_it
  label_of (event.Withdraw u) of_it answer.Withdrawing label is = subst IsOf (same_Some _ _ is) of_it
  label_of one of_it given label is = absurd (cc)

  told_leaves : (one : Event) → IsEventOf one → (given : Answer) (old new : WorldView) → old.shape ≡ shape
      → IsRefinement old (one ∷ []) (given ∷ []) new → (told : List Label)
      → EventsHaveLabels (one ∷ []) (given ∷ []) told
      → MachineRun shape (world_abstract_state old) told (world_abstract_state new)
      → SameIn w (world_abstract_state old) (world_abstract_state new)
  told_leaves one of_it given old new at refines [] labels run = absurd labels
  told_leaves one of_it given old new at refines (label ∷ []) labels run =
      subst (λ (s : MachineState). SameIn w (world_abstract_state old) s) (sym run.2) (label_leaves label (label_of one of_it given label labels.0) (world_abstract_state old) run.0 run.1)
  told_leaves one of_it given old new at refines (label ∷ more ∷ rest) labels run = absurd labels.1

  -- What is the same of a worker of a world.
  abbrev Same : WorldView → WorldView → Type 0
  Same old new = SameIn w (world_abstract_state old) (world_abstract_state new) × (new.shape ≡ shape)

  refined : (one : Event) → IsEventOf one → (given : Answer) (old new : WorldView) → old.shape ≡ shape
      → IsRefinement old (one ∷ []) (given ∷ []) new → Same old new
  refined one of_it given old new at refines = (
    told_leaves one of_it given old new at refines refines.told refines.are_labels (subst (λ (s : Shape). MachineRun s (world_abstract_state old) refines.told (world_abstract_state new)) at refines.run),
    refines.shape ∙ at,
  )

  pub event_leaves : (one : Event) → IsEventOf one → (given : Answer) (old new : WorldView) → old.shape ≡ shape
      → EventContract old one given new → Same old new
  event_leaves (event.Submit u job) of_it given old new at call = refined (event.Submit u job) of_it _ old new at call.2.headline
  event_leaves (event.Step u) of_it given old new at call = refined (event.Step u) of_it _ old new at call.2.headline
  event_leaves (event.Crash u) of_it given old new at call = refined (event.Crash u) of_it _ old new at call.2.headline
  event_leaves (event.Restart u) of_it given old new at call = refined (event.Restart u) of_it _ old new at call.2.headline
  event_leaves (event.Withdraw u) of_it given old new at call = refined (event.Withdraw u) of_it _ old new at call.2.headline

  abbrev pub AreEventsOf : List Event → Type 0
  AreEventsOf [] = Unit {0}
  AreEventsOf (one ∷ events) = IsEventOf one × AreEventsOf events

  list_leaves : (events : List Event) → AreEventsOf events → (given : List Answer) (old new : WorldView)
      → old.shape ≡ shape → EventListContract old events given new → Same old new
  list_leaves [] of_it [] old new at all = subst (Same old) (sym all) ((refl, refl), at)
  list_leaves [] of_it (a ∷ given) old new at all = absurd all
  list_leaves (one ∷ events) of_it [] old new at all = absurd all
  list_leaves (one ∷ events) of_it (a ∷ given) old new at all =
      let first = event_leaves one of_it.0 a old all.0 at all.1.call in
      let rest = list_leaves events of_it.1 given all.0 new first.1 all.2 in
      (same_then w (world_abstract_state old) (world_abstract_state all.0) (world_abstract_state new) first.0 rest.0, rest.1)

  -- All events of a batch are of its worker.
  events-append : (one two : List Event) → AreEventsOf one → AreEventsOf two → AreEventsOf (one ++ two)
  events-append [] two all more = more
  events-append (e ∷ one) two all more = (all.0, events-append one two all.1 more)

  steps_of : (steps : ℕ) → AreEventsOf (step_events v steps)
  steps_of zero = tt
  steps_of (suc steps) = (refl, steps_of steps)

  start_of : (begins : BatchStart) → AreEventsOf (start_events v begins)
  start_of start.Restart = (refl, tt)
  start_of (start.Submit job) = (refl, tt)
  start_of start.Withdraw = (refl, tt)
  start_of start.GoOn = tt

  crash_of : (falls : Bool) → AreEventsOf (crash_events v falls)
  crash_of true = (refl, tt)
  crash_of false = tt

  pub batch_of : (batch : EventBatch) → batch.worker ≡ v → AreEventsOf (batch_events batch)
  batch_of batch is =
      let at : AreEventsOf (start_events v batch.begins ++ (step_events v batch.steps ++ crash_events v batch.falls)) = events-append (start_events v batch.begins) (step_events v batch.steps ++ crash_events v batch.falls) (start_of batch.begins) (events-append (step_events v batch.steps) (crash_events v batch.falls) (steps_of batch.steps) (crash_of batch.falls)) in
      subst (λ (u : ℕ). AreEventsOf (start_events u batch.begins ++ (step_events u batch.steps ++ crash_events u batch.falls))) (sym is) at

-- ---- the view of a worker's session

session_same : (w asked : ℕ) (stance : JobStance) (one other : List Entry)
    → last_entry_of_worker other w ≡ last_entry_of_worker one w
    → worker_session_by other w asked stance ≡ worker_session_by one w asked stance
session_same w asked Idle one other last = ap (λ (l : Option Entry). Ready record { worker = w; number = asked; last = receipt_of_number asked l }) last
session_same w asked (Handed job) one other last = refl
session_same w asked (Waiting k job) one other last = refl
session_same w asked (Inside k job) one other last = refl
session_same w asked (Finished k job) one other last = refl

pub state_found : (seen : WorldView) (w : ℕ) → w < seen.shape.workers
    → slice_get (world_abstract_state seen).workers w ≡ Some (worker_state_in seen w)
state_found seen w within = made_get (λ (worker : ℕ). abstract_worker seen.shape (world_memory seen) (world_privates seen) seen.history worker) seen.shape.workers w within

view_same : (w : ℕ) (old new : WorldView) → w < old.shape.workers → new.shape ≡ old.shape
    → SameIn w (world_abstract_state old) (world_abstract_state new) → worker_session new w ≡ worker_session old w
view_same w old new within shape same =
    let there : w < new.shape.workers = subst (λ (s : Shape). w < s.workers) (sym shape) within in
    let state : worker_state_in new w ≡ worker_state_in old w = same_Some _ _ (sym (state_found new w there) ∙ (same.0 ∙ state_found old w within)) in
    ap (λ (s : WorkerState). worker_session_by new.history w s.asked s.stance) state ∙ session_same w (worker_state_in old w).asked (worker_state_in old w).stance old.history new.history same.1

-- ---- entries of other sessions

pub holder_apart : (session author : ℕ) (holders : List (Option ℕ)) (worker its : ℕ) → author ≢ session
    → slice_get holders worker ≡ Some (Some session) → slice_get holders its ≡ Some (Some author) → worker ≢ its
holder_apart session author holders worker its other has had same =
    let e : Some (Some session) ≡ Some (Some author) = sym has ∙ (ap (slice_get holders) same ∙ had) in
    other (sym (same_Some _ _ (same_Some _ _ e)))

pub nobody_apart : (session : ℕ) (holders : List (Option ℕ)) (worker its : ℕ)
    → slice_get holders worker ≡ Some (Some session) → slice_get holders its ≡ Some None → worker ≢ its
nobody_apart session holders worker its has had same =
    let e : Some (Some session) ≡ Some None = sym has ∙ (ap (slice_get holders) same ∙ had) in
    none-some session (sym (same_Some _ _ e))

module _ (session worker : ℕ) where
  pub held_is : (state : ServerState) → slice_get state.executor.holders worker ≡ Some (Some session)
      → held_session state.executor worker ≡ worker_session state.executor.world worker
  held_is state has = ap (λ (found : Option (Option ℕ)). held_session_if found (worker_session state.executor.world worker)) has

  batch_keeps : (names : List (List ℕ)) (author : ℕ) (old : ServerState) (lines : List ℕ) (new : ServerState)
      → author ≢ session → worker < old.executor.world.shape.workers
      → slice_get old.executor.holders worker ≡ Some (Some session) → AppendsSessionBatch names author old lines new
      → KeepsWorker session worker old new × (new.executor.world.shape ≡ old.executor.world.shape)
  batch_keeps names author old lines new other within has appended =
      let applies = appended.applies in
      let batch = appended.batch in
      let apart : worker ≢ batch.worker = elim applies.may [
        | inl had ↦ holder_apart session author old.executor.holders worker batch.worker other has had
        | inr had ↦ nobody_apart session old.executor.holders worker batch.worker has had
      ] in
      let same = list_leaves old.executor.world.shape batch.worker worker apart (batch_events batch) (batch_of old.executor.world.shape batch.worker worker apart batch refl) applies.happened.0 old.executor.world new.executor.world refl applies.happened.1 in
      let keeps : slice_get new.executor.holders worker ≡ Some (Some session) = ap (λ (h : List (Option ℕ)). slice_get h worker) applies.holders ∙ (get_set_other old.executor.holders batch.worker worker (holder_by batch.falls author) apart ∙ has) in
      let view = held_is new keeps ∙ (view_same worker old.executor.world new.executor.world within same.1 same.0 ∙ sym (held_is old has)) in
      (record { has = keeps; shown = ap (λ (b : Base). client_session b (held_session new.executor worker)) appended.base ∙ ap (client_session old.base) view }, same.1)

  epoch_keeps : (names : List (List ℕ)) (old : ServerState) (bytes : List ℕ) (new : ServerState)
      → worker + 1 < old.executor.world.shape.workers → slice_get old.executor.holders worker ≡ Some (Some session)
      → BeginsEpoch names old bytes new → KeepsWorker session worker old new
  epoch_keeps names old bytes new within has begins = record {
    has = ap (λ (h : List (Option ℕ)). slice_get h worker) begins.same.holders ∙ has;
    shown = (begins.same.each.alike worker within).shown;
  }

  keeps_then : (old mid new : ServerState) → KeepsWorker session worker old mid → KeepsWorker session worker mid new
      → KeepsWorker session worker old new
  keeps_then old mid new one two = record { has = two.has; shown = two.shown ∙ one.shown }

  pub entry_keeps : (names : List (List ℕ)) (entry : LogEntry) (old new : ServerState) → EntryLeads names old entry new
      → IsNotByAuthor session entry → worker + 1 < old.executor.world.shape.workers
      → slice_get old.executor.holders worker ≡ Some (Some session)
      → KeepsWorker session worker old new × (new.executor.world.shape.workers ≡ old.executor.world.shape.workers)
  entry_keeps names (Lines author lines) old new lead other within has =
      let keeps = batch_keeps names author old lines new other (omega (arith, within)) has lead in
      (keeps.0, ap (λ (s : Shape). s.workers) keeps.1)
  entry_keeps names (Whole bytes) old new lead other within has = (epoch_keeps names old bytes new within has lead, lead.same.workers)
  entry_keeps names Barrier old new lead other within has =
      subst (λ (s : ServerState). KeepsWorker session worker old s × (s.executor.world.shape.workers ≡ old.executor.world.shape.workers)) (sym lead) (record { has = has; shown = refl }, refl)

pub keeps_worker : (names : List (List ℕ)) (session worker : ℕ) (log : List LogEntry) (old new : ServerState)
    → EntriesLead names old log new → AreNotByAuthor session log → worker + 1 < old.executor.world.shape.workers
    → slice_get old.executor.holders worker ≡ Some (Some session)
    → KeepsWorker session worker old new
keeps_worker names session worker [] old new lead others within has = subst (KeepsWorker session worker old) (sym lead) record { has = has; shown = refl }
keeps_worker names session worker (entry ∷ log) old new lead others within has =
    let first = entry_keeps session worker names entry old lead.0 lead.1 others.0 within has in
    let there : worker + 1 < lead.0.executor.world.shape.workers = omega (arith, within, first.1) in
    keeps_then session worker old lead.0 new first.0 (keeps_worker names session worker log lead.0 new lead.2 others.1 there first.0.has)
