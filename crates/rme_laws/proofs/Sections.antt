-- While a session's worker is inside a lock, the number of the lock's finished sections stays, whatever others order.
use Rattle.std.proofs.Common.{◌≡◌, ◌≢◌, ℕ, ◌<◌, List, [], ◌∷◌, ◌++◌, refl, sym, ap, ap₂, subst, ◌∙◌, inl, inr, arith}
use Rattle.std.specs.Prelude.{Some, slice_get}
use Rattle.std.proofs.lemmas.Option.{same_Some}
use Rattle.rme_words.specs.declared.shape.Shape.{Shape}
use Rattle.rme_script.specs.declared.job.Job.{Job}
use Rattle.rme_program.specs.declared.event.Answer.{Answer}
use Rattle.rme_program.specs.declared.event.Event.{Event}
use Rattle.rme_program.specs.declared.event.Event.TheVariants as event
use Rattle.rme_program.specs.declared.note.Entry.{Entry}
use Rattle.rme_program.specs.declared.note.Receipt.{Receipt}
use Rattle.rme_machine.specs.declared.label.Act.{Act}
use Rattle.rme_machine.specs.declared.label.Act.TheVariants.{Hand, Ask, Take, Finish, Leave, Withdraw, Crash, Restart, Reenter, Still, Wait}
use Rattle.rme_machine.specs.declared.label.Label.{Label}
use Rattle.rme_machine.specs.declared.label.Label.TheVariants.{Nothing, Of}
use Rattle.rme_machine.specs.declared.stance.JobStance.{JobStance}
use Rattle.rme_machine.specs.Histories.{place_of}
use Rattle.rme_machine.specs.Machine.{ActEffect, IsInSectionOf, LabelStep, MachineRun, MachineState, MachineStep, WorkerState}
use Rattle.rme_machine.specs.Theorems.{IsReachable}
use Rattle.rme_machine.proofs.Historical.{place_other}
use Rattle.rme_machine.proofs.Reached.{exclusion}
use Rattle.rme_world.specs.EventLists.{EventContract, EventListContract}
use Rattle.rme_world.specs.Refinement.{EventsHaveLabels, IsRefinement}
use Rattle.rme_world.specs.WorldViews.{WorldView, world_abstract_state}
use Rattle.rme_session_protocol.specs.declared.view.Session.TheVariants.{Held}
use Rattle.rme_session_world.specs.EventBatches.{batch_events}
use Rattle.rme_session_world.specs.WorkerSessions.{worker_session, worker_state_in}
use Rattle.rme_durable_log.specs.Logs.{AreNotByAuthor, IsNotByAuthor}
use Rattle.rme_durable_log.specs.declared.log_entry.LogEntry.{LogEntry}
use Rattle.rme_durable_log.specs.declared.log_entry.LogEntry.TheVariants.{Barrier, Lines, Whole}
use Rattle.rme_durable_epochs.specs.ClientValues.{client_place, next_client_place, offset_place}
use Rattle.rme_durable_epochs.specs.declared.epoch_base.Base.{Base}
use Rattle.rme_durable_epochs.specs.declared.epoch_base.PlaceOffset.{PlaceOffset}
use Rattle.rme_durable_server.specs.ServerHistories.{EntriesLead, EntryLeads, ServerOpening, ServerState, SessionActs, SessionMoment, LogLeads}
use Rattle.rme_laws.specs.HeldLocks.{BeginsWith, IsSessionInside, IsWorldReachable}
use Rattle.rme_laws.specs.Histories.{AreStatesAlike}
use Rattle.rme_laws.proofs.Inside.{acted_leads, inside_alike, inside_kept, inside_owns, on_the_way, stance_of_held}
use Rattle.rme_laws.proofs.Others.{AreEventsOf, IsEventOf, IsOf, batch_of, entry_keeps, event_leaves, held_is, holder_apart, label_of, nobody_apart, state_found}
use Rattle.rme_laws.proofs.Reaching.{entry_reach, event_reach, log_reach}

-- ---- events of another worker

module _ (shape : Shape) (v w lock : ℕ) (apart : w ≢ v) where
  abbrev Owns : MachineState → Type 0
  Owns state = slice_get state.owners lock ≡ Some (Some w)

  abbrev SamePlace : MachineState → MachineState → Type 0
  SamePlace old new = place_of new.history lock ≡ place_of old.history lock

  act_place : (act : Act) (old : MachineState) (me : WorkerState) (new : MachineState) → IsReachable shape old
      → slice_get old.workers v ≡ Some me → Owns old → ActEffect shape act old v me new → SamePlace old new
  act_place (Hand k job) old me new reached found owned goes = ap (λ (s : MachineState). place_of s.history lock) goes.5
  act_place (Ask k) old me new reached found owned goes = ap (λ (s : MachineState). place_of s.history lock) goes.4
  act_place (Take site) old me new reached found owned goes = ap (λ (s : MachineState). place_of s.history lock) goes.6
  act_place (Finish receipt) old me new reached found owned goes =
      let other : receipt.lock ≢ lock = λ same. (
      let at : goes.1.lock ≡ lock = sym (ap (λ (r : Receipt). r.lock) goes.5) ∙ same in
      let section : IsInSectionOf me.stance lock = subst (λ (s : JobStance). IsInSectionOf s lock) (sym goes.4) at in
      let mine : slice_get old.owners lock ≡ Some (Some v) = (exclusion shape old reached).inside lock v me found section in
      apart (same_Some _ _ (same_Some _ _ (sym owned ∙ mine)))) in
      ap (λ (s : MachineState). place_of s.history lock) goes.6 ∙ place_other old.history record { receipt = receipt; script = goes.1.script } lock other
  act_place (Leave site) old me new reached found owned goes = ap (λ (s : MachineState). place_of s.history lock) goes.6
  act_place (Withdraw k) old me new reached found owned goes = ap (λ (s : MachineState). place_of s.history lock) goes.3
  act_place Crash old me new reached found owned goes = ap (λ (s : MachineState). place_of s.history lock) goes.1
  act_place Restart old me new reached found owned goes = ap (λ (s : MachineState). place_of s.history lock) goes.1
  act_place (Reenter site) old me new reached found owned goes = ap (λ (s : MachineState). place_of s.history lock) goes.3
  act_place Still old me new reached found owned goes = ap (λ (s : MachineState). place_of s.history lock) goes.1
  act_place Wait old me new reached found owned goes = ap (λ (s : MachineState). place_of s.history lock) goes.4

  label_place : (label : Label) → IsOf shape v w apart label → (old new : MachineState) → IsReachable shape old
      → Owns old → LabelStep shape label old new → SamePlace old new
  label_place Nothing of_it old new reached owned step = ap (λ (s : MachineState). place_of s.history lock) step
  label_place (Of u act) of_it old new reached owned step =
      let mine : MachineStep shape act old v new = subst (λ (x : ℕ). MachineStep shape act old x new) of_it step in
      act_place act old mine.me new reached mine.is_me owned mine.goes

  told_place : (one : Event) → IsEventOf shape v w apart one → (given : Answer) (old new : WorldView)
      → IsReachable shape (world_abstract_state old) → Owns (world_abstract_state old) → (told : List Label)
      → EventsHaveLabels (one ∷ []) (given ∷ []) told
      → MachineRun shape (world_abstract_state old) told (world_abstract_state new) → place_of new.history lock ≡ place_of old.history lock
  told_place one of_it given old new reached owned [] labels run = absurd labels
  told_place one of_it given old new reached owned (label ∷ []) labels run =
      ap (λ (s : MachineState). place_of s.history lock) run.2 ∙ label_place label (label_of shape v w apart one of_it given label labels.0) (world_abstract_state old) run.0 reached owned run.1
  told_place one of_it given old new reached owned (label ∷ more ∷ rest) labels run = absurd labels.1

  refined_place : (one : Event) → IsEventOf shape v w apart one → (given : Answer) (old new : WorldView)
      → old.shape ≡ shape → IsWorldReachable old → Owns (world_abstract_state old)
      → IsRefinement old (one ∷ []) (given ∷ []) new
      → place_of new.history lock ≡ place_of old.history lock
  refined_place one of_it given old new at reached owned refines =
      told_place one of_it given old new (subst (λ (s : Shape). IsReachable s (world_abstract_state old)) at reached) owned refines.told refines.are_labels
      (subst (λ (s : Shape). MachineRun s (world_abstract_state old) refines.told (world_abstract_state new)) at refines.run)

  event_place : (one : Event) → IsEventOf shape v w apart one → (given : Answer) (old new : WorldView)
      → old.shape ≡ shape → IsWorldReachable old → Owns (world_abstract_state old) → EventContract old one given new
      → place_of new.history lock ≡ place_of old.history lock
  event_place (event.Submit u job) of_it given old new at reached owned call = refined_place (event.Submit u job) of_it _ old new at reached owned call.2.headline
  event_place (event.Step u) of_it given old new at reached owned call = refined_place (event.Step u) of_it _ old new at reached owned call.2.headline
  event_place (event.Crash u) of_it given old new at reached owned call = refined_place (event.Crash u) of_it _ old new at reached owned call.2.headline
  event_place (event.Restart u) of_it given old new at reached owned call = refined_place (event.Restart u) of_it _ old new at reached owned call.2.headline
  event_place (event.Withdraw u) of_it given old new at reached owned call = refined_place (event.Withdraw u) of_it _ old new at reached owned call.2.headline

  list_place : (events : List Event) → AreEventsOf shape v w apart events → (given : List Answer) (old new : WorldView)
      → old.shape ≡ shape → IsWorldReachable old → (me : WorkerState)
      → slice_get (world_abstract_state old).workers w ≡ Some me
      → IsInSectionOf me.stance lock → EventListContract old events given new → place_of new.history lock ≡ place_of old.history lock
  list_place [] of_it [] old new at reached me found section all = ap (λ (s : WorldView). place_of s.history lock) all
  list_place [] of_it (a ∷ given) old new at reached me found section all = absurd all
  list_place (one ∷ events) of_it [] old new at reached me found section all = absurd all
  list_place (one ∷ events) of_it (a ∷ given) old new at reached me found section all =
      let mid : WorldView = all.0 in
      let owned : Owns (world_abstract_state old) = (exclusion old.shape (world_abstract_state old) reached).inside lock w me found section in
      let first = event_place one of_it.0 a old mid at reached owned all.1.call in
      let same = event_leaves shape v w apart one of_it.0 a old mid at all.1.call in
      let rest = list_place events of_it.1 given mid new same.1 (event_reach one a old mid all.1.call reached).0 me (same.0.0 ∙ found) section all.2 in
      rest ∙ first

-- ---- entries of other sessions

abbrev pub SectionStays : ℕ → ServerState → ServerState → Type 0
SectionStays lock old new = next_client_place new.base new.executor.world lock ≡ next_client_place old.base old.executor.world lock

module _ (names : List (List ℕ)) (session worker : ℕ) (job : Job) where
  entry_place : (entry : LogEntry) (old new : ServerState) → EntryLeads names old entry new
      → IsNotByAuthor session entry → IsWorldReachable old.executor.world → IsSessionInside session worker job old
      → SectionStays job.lock old new
  entry_place (Lines author lines) old new lead other reached inside =
      let world = old.executor.world in
      let batch = lead.batch in
      let applies = lead.applies in
      let apart : worker ≢ batch.worker = elim applies.may [
        | inl had ↦ holder_apart session author old.executor.holders worker batch.worker other inside.has had
        | inr had ↦ nobody_apart session old.executor.holders worker batch.worker inside.has had
      ] in
      let within : worker < world.shape.workers = omega (arith, inside.client) in
      let me : WorkerState = worker_state_in world worker in
      let shown : worker_session world worker ≡ Held record { worker = worker; number = inside.number; draft = Some job } = sym (held_is session worker old inside.has) ∙ inside.shown in
      let section : IsInSectionOf me.stance job.lock = stance_of_held world.history worker me.asked inside.number me.stance job shown in
      let place = list_place world.shape batch.worker worker job.lock apart (batch_events batch) (batch_of world.shape batch.worker worker apart batch refl) applies.happened.0 world new.executor.world refl reached me (state_found world worker within) section applies.happened.1 in
      ap₂ (λ (b : Base) (n : ℕ). client_place b job.lock n) lead.base place
  entry_place (Whole bytes) old new lead other reached inside = lead.same.each.places job.lock (inside_owns session worker job old reached inside).within
  entry_place Barrier old new lead other reached inside = subst (λ (s : ServerState). SectionStays job.lock old s) (sym lead) refl

  pub entries_place : (log : List LogEntry) (old new : ServerState) → EntriesLead names old log new
      → AreNotByAuthor session log → IsWorldReachable old.executor.world → IsSessionInside session worker job old
      → SectionStays job.lock old new
  entries_place [] old new lead others reached inside = ap (λ (s : ServerState). next_client_place s.base s.executor.world job.lock) lead
  entries_place (entry ∷ log) old new lead others reached inside =
      let mid : ServerState = lead.0 in
      let keeps = entry_keeps session worker names entry old mid lead.1 others.0 inside.client inside.has in
      let rest = entries_place log mid new lead.2 others.1 (entry_reach names entry old mid lead.1 reached).0 (inside_kept session worker job old mid keeps.1 keeps.0 inside) in
      rest ∙ entry_place entry old mid lead.1 others.0 reached inside

-- ---- moments

alike_place : (lock : ℕ) (one other : ServerState) → AreStatesAlike one other → SectionStays lock one other
alike_place lock one other alike =
    ap₂ (λ (ps : List PlaceOffset) (es : List Entry). offset_place (slice_get ps lock) (place_of es lock)) (sym alike.places) (sym alike.world.history)

pub section_stays : (opening : ServerOpening) (start : ServerState) (old held now : SessionMoment)
    (before after next last : ServerState) (worker : ℕ) (job : Job)
    → BeginsWith opening start → SessionActs opening old before held after → SessionActs opening held next now last
    → IsSessionInside held.session.session worker job after → SectionStays job.lock after next
section_stays opening start old held now before after next last worker job begins first second inside =
    let session = held.session.session in
    let grows = second.others in
    let later : LogLeads opening (held.log ++ grows.between) next = subst (λ (l : List LogEntry). LogLeads opening l next) grows.grows second.leads in
    let way = on_the_way opening start begins held.log grows.between after next (acted_leads opening old before held after first) later in
    let mid : ServerState = way.0 in
    let entered : IsSessionInside session worker job mid = inside_alike session worker job after mid way.2 inside in
    entries_place opening.names session worker job grows.between mid next way.3 grows.others (log_reach opening start begins held.log mid way.1) entered ∙ alike_place job.lock after mid way.2
