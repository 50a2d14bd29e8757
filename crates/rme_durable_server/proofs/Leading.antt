-- The log leads to the state of the executor.
use Rattle.std.proofs.Common.{◌≡◌, ◌≢◌, ◌≤◌, ℕ, List, [], ◌∷◌, ◌++◌, length, drop, refl, sym, subst, ap, ap₂, ◌∙◌, inl, inr, arith, length-append}
use Rattle.std.specs.Prelude.{Bool, IfSome, Option, Some, None, true, false}
use Rattle.rme_session_world.specs.ExecutorStates.{ExecutorState}
use Rattle.rme_session_world.specs.SessionBatches.{AppliesSessionBatch, AppliesSessionOrder}
use Rattle.rme_session_world.specs.declared.event_batch.EventBatch.{EventBatch}
use Rattle.rme_durable_log.specs.LogRules.{AppenderState, log_as_taken}
use Rattle.rme_durable_log.specs.StoreCalls.{StoreState}
use Rattle.rme_durable_log.specs.Logs.{GrowsByOthers, IsCommitted}
use Rattle.rme_durable_log.specs.declared.log_entry.LogEntry.{LogEntry}
use Rattle.rme_durable_log.specs.declared.log_entry.LogEntry.TheVariants.{Barrier, Lines, Whole}
use Rattle.rme_durable_format.specs.BatchCommands.{batch_commands, batch_commands_if}
use Rattle.rme_durable_format.specs.CommandLines.{AppendsCommands}
use Rattle.rme_durable_format.specs.Lives.{lives_after_batch, lives_after_batch_if}
use Rattle.rme_durable_epochs.specs.EpochStates.{EpochState}
use Rattle.rme_durable_epochs.specs.declared.epoch_base.Base.{Base}
use Rattle.rme_durable_epochs.specs.LoggedStates.{LoggedStep, logged_state}
use Rattle.rme_durable_server.specs.ServerHistories.{AppendsAtMostOne, AppendsIfAny, AppendsSessionBatch, BeginsEpoch, EntriesLead, EntryLeads, IsLogged, LogLeads, ServerOpening, ServerState, SessionActs, SessionMoment, server_state, session_moment}
use Rattle.rme_durable_server.specs.DurableOrders.{ClientTerms}
use Rattle.rme_durable_lookups.specs.LookupAnswers.{LookupShows}
use Rattle.rme_durable_server.specs.DurableAnswers.{DurableLookup, LookupMoment, shown_state}
use Rattle.rme_durable_lookups.specs.declared.lookup.SessionLookup.{SessionLookup}
use Rattle.rme_durable_lookups.specs.declared.status_notes.LeaderNote.{LeaderNote}
use Rattle.rme_session_world.specs.declared.executor.SessionState.{SessionState}
use Rattle.rme_durable_server.proofs.Growing.{appends_from, commands_some, drop_all, drop_rest}

-- ---- one more entry

entries_more : (names : List (List ℕ)) (old : ServerState) (log : List LogEntry) (mid : ServerState) (entry : LogEntry)
    (new : ServerState)
    → EntriesLead names old log mid → EntryLeads names mid entry new → EntriesLead names old (log ++ entry ∷ []) new
entries_more names old [] mid entry new lead one = (new, subst (λ (s : ServerState). EntryLeads names s entry new) lead one, refl)
entries_more names old (first ∷ log) mid entry new lead one = (lead.0, lead.1, entries_more names lead.0 log mid entry new lead.2 one)

pub leads_more : (opening : ServerOpening) (log : List LogEntry) (old : ServerState) (entry : LogEntry)
    (new : ServerState)
    → LogLeads opening log old → EntryLeads opening.names old entry new → LogLeads opening (log ++ entry ∷ []) new
leads_more opening [] old entry new leads one = absurd leads
leads_more opening (first ∷ log) old entry new leads one = (leads.0, leads.1, entries_more opening.names leads.0 log old entry new leads.2 one)

-- ---- a step of a session

abbrev state_with : ExecutorState → Base → List ℕ → ℕ → ServerState
state_with executor base lives epoch = record { executor = executor; base = base; lives = lives; epoch = epoch }

same_state : (one two : EpochState) → one.executor ≡ two.executor → one.base ≡ two.base → one.lives ≡ two.lives
    → one.epoch ≡ two.epoch → server_state one ≡ server_state two
same_state one two executor base lives epoch =
    ap₂ (λ (e : ExecutorState) (l : List ℕ). state_with e one.base l one.epoch) executor lives ∙ ap₂ (λ (b : Base) (n : ℕ). state_with two.executor b two.lives n) base epoch

-- A session appended at most one entry, and the log leads to the state after it.
abbrev pub Appended : ServerOpening → ℕ → EpochState → EpochState → AppenderState → AppenderState → Type 0
Appended opening session old new from to = AppendsAtMostOne opening.names session from.log (server_state old) to.log (server_state new) × IsLogged opening new to.log to.waits

module _ (opening : ServerOpening) (session : ℕ) (old new : EpochState) (from to : AppenderState) (logged : IsLogged opening old from.log from.waits) (base : new.base ≡ old.base) (epoch : new.epoch ≡ old.epoch) where
  -- without an event batch
  still : new.executor ≡ old.executor → new.lives ≡ old.lives → new.lines ≡ old.lines
      → AppendsIfAny session (drop (length old.lines) new.lines) from to → Appended opening session old new from to
  still same lives lines appends =
      let none : drop (length old.lines) new.lines ≡ [] = ap (drop (length old.lines)) lines ∙ drop_all old.lines in
      let kept : to ≡ from = subst (λ (rest : List ℕ). AppendsIfAny session rest from to) none appends in
      let log : to.log ≡ from.log = ap (λ (a : AppenderState). a.log) kept in
      let state : server_state new ≡ server_state old = same_state new old same base lives epoch in (
        inl (log, state),
        record {
          leads = subst (λ (l : List LogEntry). LogLeads opening l (server_state new)) (sym log) (subst (λ (s : ServerState). LogLeads opening from.log s) (sym state) logged.leads);
          lines = ap (λ (a : AppenderState). a.waits) kept ∙ (logged.lines ∙ sym lines);
        },
      )

  some_by : (batch : EventBatch) → AppliesSessionBatch session old.executor batch new.executor
      → new.lives ≡ lives_after_batch old.lives batch → (rest : List ℕ) → new.lines ≡ old.lines ++ rest
      → AppendsCommands opening.names [] (batch_commands batch) rest → rest ≢ [] → AppendsIfAny session rest from to
      → Appended opening session old new from to
  some_by batch applies lives [] more written some appends = absurd (some refl)
  some_by batch applies lives (byte ∷ lines) more written some appends =
      let appended : AppendsSessionBatch opening.names session (server_state old) (byte ∷ lines) (server_state new) = record { batch = batch; applies = applies; written = written; base = base; lives = lives; epoch = epoch } in (
        inr (byte ∷ lines, appends.0, appended),
        record {
          leads = subst (λ (l : List LogEntry). LogLeads opening l (server_state new)) (sym appends.0) (leads_more opening from.log (server_state old) (Lines session (byte ∷ lines)) (server_state new) logged.leads appended);
          lines = appends.1 ∙ (ap (λ w. w ++ byte ∷ lines) logged.lines ∙ sym more);
        },
      )

  by_batch : (batch : Option EventBatch) → AppliesSessionOrder session old.executor batch new.executor
      → AppendsCommands opening.names old.lines (batch_commands_if batch) new.lines
      → new.lives ≡ lives_after_batch_if old.lives batch
      → AppendsIfAny session (drop (length old.lines) new.lines) from to → Appended opening session old new from to
  by_batch None applies written lives appends = still applies lives written appends
  by_batch (Some batch) applies written lives appends =
      let rest = appends_from opening.names old.lines (batch_commands batch) new.lines written in
      some_by batch applies lives rest.0 rest.1 rest.2 (rest.3 (commands_some batch applies.some)) (subst (λ (r : List ℕ). AppendsIfAny session r from to) (drop_rest old.lines rest.0 new.lines rest.1) appends)

  -- A step of a session appends at most its own entry, and the log leads to the state after it.
  pub appended : LoggedStep opening.names session (logged_state old.executor old.lives old.lines)
      (logged_state new.executor new.lives new.lines)
      → AppendsIfAny session (drop (length old.lines) new.lines) from to → Appended opening session old new from to
  appended written appends = by_batch written.0 written.1 written.2 written.3 appends

pub logged_some : (opening : ServerOpening) (found : Option AppenderState) (appender : AppenderState)
    (epoch : EpochState)
    → found ≡ Some appender → IfSome found (λ (a : AppenderState). IsLogged opening epoch a.log a.waits)
    → IsLogged opening epoch appender.log appender.waits
logged_some opening found appender epoch is logged = subst (λ (o : Option AppenderState). IfSome o (λ (a : AppenderState). IsLogged opening epoch a.log a.waits)) is logged

-- The log of an opening.
pub logged_first : (opening : ServerOpening) (epoch : EpochState) (log : List LogEntry) (waits : List ℕ)
    → opening.begins (server_state epoch) → (first : (bytes : List ℕ) × (log ≡ Whole bytes ∷ [])) → waits ≡ []
    → epoch.lines ≡ [] → IsLogged opening epoch log waits
logged_first opening epoch log waits begins first none lines = record {
  leads = subst (λ (l : List LogEntry). LogLeads opening l (server_state epoch)) (sym first.1) (server_state epoch, begins, refl);
  lines = none ∙ sym lines;
}

-- The log after a checkpoint.
pub logged_epoch : (opening : ServerOpening) (old new : EpochState) (log after : List LogEntry)
    (waits pending bytes : List ℕ)
    → IsLogged opening old log waits → BeginsEpoch opening.names (server_state old) bytes (server_state new)
    → after ≡ log ++ Whole bytes ∷ [] → pending ≡ [] → new.lines ≡ [] → IsLogged opening new after pending
logged_epoch opening old new log after waits pending bytes logged begins more none lines = record {
  leads = subst (λ (l : List LogEntry). LogLeads opening l (server_state new)) (sym more) (leads_more opening log (server_state old) (Whole bytes) (server_state new) logged.leads begins);
  lines = none ∙ sym lines;
}

-- The log when its lines were taken.
taken_leads : (opening : ServerOpening) (shared : Bool) (log : List LogEntry) (state : ServerState)
    → LogLeads opening log state → LogLeads opening (log_as_taken shared log) state
taken_leads opening true log state leads = leads_more opening log state Barrier state leads refl
taken_leads opening false log state leads = leads

pub logged_taken : (opening : ServerOpening) (shared : Bool) (old new : EpochState) (log after : List LogEntry)
    (waits pending : List ℕ)
    → IsLogged opening old log waits → new.executor ≡ old.executor → new.base ≡ old.base → new.lives ≡ old.lives
    → new.epoch ≡ old.epoch → after ≡ log_as_taken shared log → pending ≡ [] → new.lines ≡ []
    → IsLogged opening new after pending
logged_taken opening shared old new log after waits pending logged executor base lives epoch more none lines = record {
  leads = subst (λ (l : List LogEntry). LogLeads opening l (server_state new)) (sym more) (subst (λ (s : ServerState). LogLeads opening (log_as_taken shared log) s) (sym (same_state new old executor base lives epoch)) (taken_leads opening shared log (server_state old) logged.leads));
  lines = none ∙ sym lines;
}

-- Lines only grow.
pub lines_grow : (names : List (List ℕ)) (session : ℕ) (old new : EpochState)
    → LoggedStep names session (logged_state old.executor old.lives old.lines)
    (logged_state new.executor new.lives new.lines)
    → length old.lines ≤ length new.lines
lines_grow names session old new written =
    let rest = appends_from names old.lines (batch_commands_if written.0) new.lines written.2 in
    omega (arith, ap length rest.1, length-append old.lines rest.0)

-- A step of a session, for the values that the code found.
pub logged_step : (opening : ServerOpening) (names : List (List ℕ)) (session author : ℕ) (old new : EpochState)
    (from to : AppenderState) (looked : List ℕ)
    → IsLogged opening old from.log from.waits → names ≡ opening.names → author ≡ session → looked ≡ old.lines
    → new.base ≡ old.base → new.epoch ≡ old.epoch
    → LoggedStep names session (logged_state old.executor old.lives old.lines) (logged_state new.executor new.lives new.lines) → AppendsIfAny author (drop (length looked) new.lines) from to → Appended opening session old new from to
logged_step opening names session author old new from to looked logged named by saw base epoch written appends =
    appended opening session old new from to logged base epoch
    (subst (λ (n : List (List ℕ)). LoggedStep n session (logged_state old.executor old.lives old.lines) (logged_state new.executor new.lives new.lines)) named written)
    (subst (λ (a : ℕ). AppendsIfAny a (drop (length old.lines) new.lines) from to) by (subst (λ (l : List ℕ). AppendsIfAny author (drop (length l) new.lines) from to) saw appends))

-- The session acted at this moment.
pub acted : (opening : ServerOpening) (old : SessionMoment) (state : SessionState) (end : List LogEntry)
    (epoch after : EpochState) (from to : AppenderState) (author : ℕ)
    → author ≡ old.session.session → GrowsByOthers author old.log from.log → IsLogged opening epoch from.log from.waits
    → AppendsAtMostOne opening.names old.session.session from.log (server_state epoch) to.log (server_state after) → end ≡ to.log → state.session ≡ old.session.session → SessionActs opening old (server_state epoch) (session_moment state end) (server_state after)
acted opening old state end epoch after from to author by others logged appends is session = record {
  log = from.log;
  others = subst (λ (a : ℕ). GrowsByOthers a old.log from.log) by others;
  leads = logged.leads;
  appends = subst (λ (l : List LogEntry). AppendsAtMostOne opening.names old.session.session from.log (server_state epoch) l (server_state after)) (sym is) appends;
  session = session;
}

pub shown_at : (found : Option (List LogEntry)) (opening : ServerOpening) (names : List (List ℕ))
    (leader : Option LeaderNote) (state : ServerState) (look : SessionLookup) (bytes : List ℕ)
    → names ≡ opening.names → leader ≡ opening.leader → IfSome found (λ (end : List LogEntry). LogLeads opening end state)
    → LookupShows names leader (shown_state state) look bytes
    → IfSome found (λ (end : List LogEntry). LookupMoment opening look bytes end)
shown_at None opening names leader state look bytes named led leads shows = tt
shown_at (Some end) opening names leader state look bytes named led leads shows =
    let told = subst (λ (l : Option LeaderNote). LookupShows names l (shown_state state) look bytes) led shows in
    record { state = state; leads = leads; shows = subst (λ (n : List (List ℕ)). LookupShows n opening.leader (shown_state state) look bytes) named told }

pub looked_up : {X : Type 0} (holds : X → StoreState) (terms : ClientTerms) (old : SessionMoment)
    (look : SessionLookup) (bytes : List ℕ) (end : List LogEntry) (now : SessionMoment)
    → now ≡ session_moment old.session end → GrowsByOthers old.session.session old.log end
    → LookupMoment terms.opening look bytes end → IsCommitted terms.shared holds end
    → DurableLookup holds terms old look bytes now
looked_up holds terms old look bytes end now is others moment held =
    let acts : SessionActs terms.opening old moment.state (session_moment old.session end) moment.state = record { log = end; others = others; leads = moment.leads; appends = inl (refl, refl); session = refl } in
    subst (DurableLookup holds terms old look bytes) (sym is) record { session = refl; moment = moment; acts = acts; held = held }
