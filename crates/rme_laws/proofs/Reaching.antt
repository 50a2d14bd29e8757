-- Worlds that a run of the abstract machine reaches: recovered ones, and those to which the log leads.
use Rattle.std.proofs.Common.{◌≡◌, ℕ, List, [], ◌∷◌, ◌++◌, refl, sym, ap, subst, ◌∙◌, inl}
use Rattle.rme_words.specs.declared.shape.Shape.{Shape}
use Rattle.rme_program.specs.declared.event.Answer.{Answer}
use Rattle.rme_program.specs.declared.event.Event.{Event}
use Rattle.rme_program.specs.declared.event.Event.TheVariants as event
use Rattle.rme_machine.specs.declared.label.Label.{Label}
use Rattle.rme_machine.specs.Machine.{MachineRun, MachineState, opening_state}
use Rattle.rme_machine.specs.Theorems.{IsReachable}
use Rattle.rme_world.specs.EventLists.{EventContract, EventListContract}
use Rattle.rme_world.specs.Opening.{world_at_opening}
use Rattle.rme_world.specs.Refinement.{IsRefinement}
use Rattle.rme_world.specs.WorldViews.{WorldView, world_abstract_state}
use Rattle.rme_world.proofs.Opened.{opened_shown}
use Rattle.rme_session_world.specs.Executors.{HasCrashedAll}
use Rattle.rme_durable_format.specs.Recovery.{RecoversWorld}
use Rattle.rme_durable_format.proofs.Running.{starts_run}
use Rattle.rme_durable_log.specs.declared.log_entry.LogEntry.{LogEntry}
use Rattle.rme_durable_log.specs.declared.log_entry.LogEntry.TheVariants.{Barrier, Lines, Whole}
use Rattle.rme_durable_server.specs.ServerHistories.{EntriesLead, EntryLeads, LogLeads, ServerOpening, ServerState}
use Rattle.rme_laws.specs.HeldLocks.{BeginsWith, IsWorldReachable}

-- ---- events

run_then : (shape : Shape) (one two : List Label) (a b c : MachineState) → MachineRun shape a one b
    → MachineRun shape b two c → MachineRun shape a (one ++ two) c
run_then shape [] two a b c first second = subst (λ (s : MachineState). MachineRun shape s two c) first second
run_then shape (label ∷ one) two a b c first second = (first.0, first.1, run_then shape one two first.0 b c first.2 second)

-- Events keep a world reachable, and its shape.
abbrev Keeps : WorldView → WorldView → Type 0
Keeps old new = IsWorldReachable new × (new.shape ≡ old.shape)

refined_reach : (old new : WorldView) (events : List Event) (answers : List Answer)
    → IsRefinement old events answers new → IsWorldReachable old → Keeps old new
refined_reach old new events answers refines reached =
    let run = run_then old.shape reached.labels refines.told reached.start (world_abstract_state old) (world_abstract_state new) reached.run refines.run in
    let there : IsReachable old.shape (world_abstract_state new) = record { start = reached.start; begins = reached.begins; labels = reached.labels ++ refines.told; run = run } in
    (subst (λ (s : Shape). IsReachable s (world_abstract_state new)) (sym refines.shape) there, refines.shape)

pub event_reach : (one : Event) (given : Answer) (old new : WorldView) → EventContract old one given new
    → IsWorldReachable old → Keeps old new
event_reach (event.Submit u job) given old new call reached = refined_reach old new _ _ call.2.headline reached
event_reach (event.Step u) given old new call reached = refined_reach old new _ _ call.2.headline reached
event_reach (event.Crash u) given old new call reached = refined_reach old new _ _ call.2.headline reached
event_reach (event.Restart u) given old new call reached = refined_reach old new _ _ call.2.headline reached
event_reach (event.Withdraw u) given old new call reached = refined_reach old new _ _ call.2.headline reached

list_reach : (events : List Event) (given : List Answer) (old new : WorldView) → EventListContract old events given new
    → IsWorldReachable old → Keeps old new
list_reach [] [] old new all reached = subst (Keeps old) (sym all) (reached, refl)
list_reach [] (a ∷ given) old new all reached = absurd all
list_reach (one ∷ events) [] old new all reached = absurd all
list_reach (one ∷ events) (a ∷ given) old new all reached =
    let first = event_reach one a old all.0 all.1.call reached in
    let rest = list_reach events given all.0 new all.2 first.0 in
    (rest.0, rest.1 ∙ first.1)

-- ---- recovery

opening_reach : (shape : Shape) → IsWorldReachable (world_at_opening shape)
opening_reach shape = record { start = opening_state shape; begins = inl refl; labels = []; run = opened_shown (world_at_opening shape) shape refl refl refl refl }

recovered_reach : (bytes : List ℕ) (names : List (List ℕ)) (world : WorldView) → RecoversWorld bytes names world
    → IsWorldReachable world
recovered_reach bytes names world recovers =
    let runs = starts_run bytes names world recovers in
    let kept = list_reach runs.1 runs.2.0 (world_at_opening runs.0) world runs.2.1 (opening_reach runs.0) in
    kept.0

pub begun_reach : (bytes : List ℕ) (names : List (List ℕ)) (found begun : WorldView) → RecoversWorld bytes names found
    → HasCrashedAll found begun → IsWorldReachable begun
begun_reach bytes names found begun recovers crashed =
    let kept = list_reach crashed.events crashed.happened.0 found begun crashed.happened.1 (recovered_reach bytes names found recovers) in
    kept.0

-- ---- entries of the log

-- Entries keep a world reachable, and the number of its workers.
abbrev KeepsWorkers : ServerState → ServerState → Type 0
KeepsWorkers old new = IsWorldReachable new.executor.world × (new.executor.world.shape.workers ≡ old.executor.world.shape.workers)

pub entry_reach : (names : List (List ℕ)) (entry : LogEntry) (old new : ServerState) → EntryLeads names old entry new
    → IsWorldReachable old.executor.world → KeepsWorkers old new
entry_reach names (Lines session lines) old new lead reached =
    let happened = lead.applies.happened in
    let kept = list_reach _ happened.0 old.executor.world new.executor.world happened.1 reached in
    (kept.0, ap (λ (s : Shape). s.workers) kept.1)
entry_reach names (Whole bytes) old new lead reached = (recovered_reach bytes names new.executor.world lead.recovers, lead.same.workers)
entry_reach names Barrier old new lead reached = subst (λ (s : ServerState). KeepsWorkers old s) (sym lead) (reached, refl)

pub entries_reach : (names : List (List ℕ)) (log : List LogEntry) (old new : ServerState)
    → EntriesLead names old log new → IsWorldReachable old.executor.world → KeepsWorkers old new
entries_reach names [] old new lead reached = subst (KeepsWorkers old) (sym lead) (reached, refl)
entries_reach names (entry ∷ log) old new lead reached =
    let first = entry_reach names entry old lead.0 lead.1 reached in
    let rest = entries_reach names log lead.0 new lead.2 first.0 in
    (rest.0, rest.1 ∙ first.1)

pub log_reach : (opening : ServerOpening) (start : ServerState) → BeginsWith opening start
    → (log : List LogEntry) (state : ServerState) → LogLeads opening log state → IsWorldReachable state.executor.world
log_reach opening start begins [] state leads = absurd leads
log_reach opening start begins (first ∷ log) state leads =
    let reached : IsWorldReachable leads.0.executor.world = subst (λ (s : ServerState). IsWorldReachable s.executor.world) (sym (begins.one leads.0 leads.1)) begins.reached in
    let kept = entries_reach opening.names log leads.0 state leads.2 reached in
    kept.0
