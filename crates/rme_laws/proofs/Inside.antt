-- A session's worker that is inside a lock owns it, and is inside it at the session's next moment.
use Rattle.std.proofs.Common.{◌≡◌, ℕ, ◌+◌, ◌<◌, List, [], ◌∷◌, ◌++◌, map, refl, sym, ap, ap₂, subst, ◌∙◌, inl, inr, arith}
use Rattle.std.specs.Prelude.{Option, Some, None, slice_get}
use Rattle.std.specs.List.{range_with_len}
use Rattle.std.proofs.lemmas.Option.{same_Some, slice_get_within}
use Rattle.rme_words.specs.declared.address.Address.{Address}
use Rattle.rme_words.specs.declared.shape.Shape.{Shape}
use Rattle.rme_tree.specs.Nodes.{owner_in}
use Rattle.rme_script.specs.declared.job.Job.{Job}
use Rattle.rme_program.specs.declared.note.Entry.{Entry}
use Rattle.rme_program.specs.declared.private.Private.{Private}
use Rattle.rme_machine.specs.declared.stance.JobStance.{JobStance}
use Rattle.rme_machine.specs.declared.stance.JobStance.TheVariants.{Idle, Handed, Waiting, Inside, Finished}
use Rattle.rme_machine.specs.AbstractState.{abstract_worker}
use Rattle.rme_machine.specs.Machine.{IsInSectionOf, WorkerState}
use Rattle.rme_machine.proofs.Lists.{made_get, made_long}
use Rattle.rme_machine.proofs.Reached.{exclusion}
use Rattle.rme_session_protocol.specs.declared.view.Session.{Session}
use Rattle.rme_session_protocol.specs.declared.view.Session.TheVariants.{Nobody, Ready, Climb, Held}
use Rattle.rme_session_protocol.specs.declared.view.PendingWorker.{PendingWorker}
use Rattle.rme_session_world.specs.Executors.{held_session, held_session_if}
use Rattle.rme_session_world.specs.WorkerSessions.{worker_session, worker_session_by, worker_state_in}
use Rattle.rme_world.specs.WorldViews.{WorldView, private_if_up, world_abstract_state, world_memory}
use Rattle.rme_durable_log.specs.declared.log_entry.LogEntry.{LogEntry}
use Rattle.rme_durable_log.specs.declared.log_entry.LogEntry.TheVariants.{Lines}
use Rattle.rme_durable_epochs.specs.ClientValues.{client_session}
use Rattle.rme_durable_epochs.specs.declared.epoch_base.Base.{Base}
use Rattle.rme_durable_server.specs.ServerHistories.{EntriesLead, KeepsWorker, LogLeads, ServerOpening, ServerState, SessionActs, SessionMoment}
use Rattle.rme_durable_server.proofs.Leading.{leads_more}
use Rattle.rme_laws.specs.AlikeWorlds.{AreWorldsAlike}
use Rattle.rme_laws.specs.Histories.{AreStatesAlike}
use Rattle.rme_laws.specs.HeldLocks.{BeginsWith, IsSessionInside, IsWorldReachable, WorkerOwnsLock}
use Rattle.rme_laws.proofs.Events.{alike_itself}
use Rattle.rme_laws.proofs.Histories.{all_alike}
use Rattle.rme_laws.proofs.Others.{held_is, keeps_worker, state_found}
use Rattle.rme_laws.proofs.Prefixes.{split_lead}
use Rattle.rme_laws.proofs.Reaching.{entries_reach, log_reach}

-- ---- the owner

-- What a held session shows.
held_pending : Session → Option PendingWorker
held_pending (Held its) = Some its
held_pending shown = None

pub same_pending : (one other : PendingWorker) → Held one ≡ Held other → one ≡ other
unfolding held_pending
same_pending one other same = same_Some _ _ (ap held_pending same)

pub stance_of_held : (history : List Entry) (worker asked number : ℕ) (stance : JobStance) (job : Job)
    → worker_session_by history worker asked stance ≡ Held record { worker = worker; number = number; draft = Some job }
    → IsInSectionOf stance job.lock
stance_of_held history worker asked number Idle job shown = absurd (cc)
stance_of_held history worker asked number (Handed its) job shown = absurd (cc)
stance_of_held history worker asked number (Waiting k its) job shown = absurd (cc)
stance_of_held history worker asked number (Inside k its) job shown = let same : its ≡ job = same_Some _ _ (ap (λ (p : PendingWorker). p.draft) (same_pending _ _ shown)) in ap (λ (j : Job). j.lock) same
stance_of_held history worker asked number (Finished k its) job shown = absurd (cc)

owner_found : (f : ℕ → Option ℕ) (locks lock worker : ℕ)
    → slice_get (map f (range_with_len 0 locks)) lock ≡ Some (Some worker) → (lock < locks) × (f lock ≡ Some worker)
owner_found f locks lock worker found =
    let within : lock < locks = omega (arith, slice_get_within (map f (range_with_len 0 locks)) lock (Some worker) found, made_long f locks) in
    (within, same_Some _ _ (sym (made_get f locks lock within) ∙ found))

pub inside_owns : (session worker : ℕ) (job : Job) (state : ServerState) → IsWorldReachable state.executor.world
    → IsSessionInside session worker job state → WorkerOwnsLock state.executor.world worker job.lock
inside_owns session worker job state reached inside =
    let world = state.executor.world in
    let within : worker < world.shape.workers = omega (arith, inside.client) in
    let shown : worker_session world worker ≡ Held record { worker = worker; number = inside.number; draft = Some job } = sym (held_is session worker state inside.has) ∙ inside.shown in
    let me : WorkerState = worker_state_in world worker in
    let section : IsInSectionOf me.stance job.lock = stance_of_held world.history worker me.asked inside.number me.stance job shown in
    let owned = (exclusion world.shape (world_abstract_state world) reached).inside job.lock worker me (state_found world worker within) section in
    let found = owner_found (λ (lock : ℕ). owner_in world.shape (world_memory world) lock) world.shape.locks job.lock worker owned in
    record { within = found.0; owner = found.1 }

-- ---- alike states

-- The view of a worker's session, by what alike worlds have in common.
abbrev session_of : ℕ → Shape → (Address → ℕ) → List (Option Private) → List Entry → Session
session_of worker shape memory privates history =
    let me : WorkerState = abstract_worker shape memory (λ (v : ℕ). private_if_up (slice_get privates v)) history worker in
    worker_session_by history worker me.asked me.stance

session_alike : (worker : ℕ) (one other : WorldView) → AreWorldsAlike one other
    → worker_session other worker ≡ worker_session one worker
session_alike worker one other alike =
    let F = session_of worker in
    sym (ap (λ (s : Shape). F s (world_memory one) one.privates one.history) alike.shape
    ∙ ap (λ (m : Address → ℕ). F other.shape m one.privates one.history) alike.words
    ∙ ap (λ (p : List (Option Private)). F other.shape (world_memory other) p one.history) alike.privates
    ∙ ap (λ (h : List Entry). F other.shape (world_memory other) other.privates h) alike.history)

pub inside_alike : (session worker : ℕ) (job : Job) (one other : ServerState) → AreStatesAlike one other
    → IsSessionInside session worker job one → IsSessionInside session worker job other
inside_alike session worker job one other alike inside = record {
  client = subst (λ (s : Shape). worker + 1 < s.workers) alike.world.shape inside.client;
  has = ap (λ (h : List (Option ℕ)). slice_get h worker) (sym alike.holders) ∙ inside.has;
  number = inside.number;
  shown = ap₂ held_session_if (ap (λ (h : List (Option ℕ)). slice_get h worker) (sym alike.holders)) (session_alike worker one.executor.world other.executor.world alike.world) ∙ inside.shown;
}

-- ---- entries of others

-- What the client sees of a held session tells the worker and the job, in whatever epoch.
held_shown : (now : Base) (after : Session) (was : Base) (its : PendingWorker)
    → client_session now after ≡ client_session was (Held its)
    → (number : ℕ) × (after ≡ Held record { worker = its.worker; number = number; draft = its.draft })
held_shown now Nobody was its same = absurd (cc)
held_shown now (Ready ready) was its same = absurd (cc)
held_shown now (Climb pending) was its same = absurd (cc)
held_shown now (Held pending) was its same =
    let its_is = same_pending _ _ same in
    let worker : pending.worker ≡ its.worker = ap (λ (p : PendingWorker). p.worker) its_is in
    let draft : pending.draft ≡ its.draft = ap (λ (p : PendingWorker). p.draft) its_is in
    (pending.number, ap₂ (λ (w : ℕ) (d : Option Job). let p : PendingWorker = record { worker = w; number = pending.number; draft = d } in Held p) worker draft)

pub inside_kept : (session worker : ℕ) (job : Job) (old new : ServerState)
    → new.executor.world.shape.workers ≡ old.executor.world.shape.workers → KeepsWorker session worker old new
    → IsSessionInside session worker job old → IsSessionInside session worker job new
inside_kept session worker job old new workers keeps inside =
    let its : PendingWorker = record { worker = worker; number = inside.number; draft = Some job } in
    let found = held_shown new.base (held_session new.executor worker) old.base its (keeps.shown ∙ ap (client_session old.base) inside.shown) in
    record { client = omega (arith, workers, inside.client); has = keeps.has; number = found.0; shown = found.1 }

-- ---- moments

pub acted_leads : (opening : ServerOpening) (old : SessionMoment) (before : ServerState) (now : SessionMoment)
    (after : ServerState)
    → SessionActs opening old before now after → LogLeads opening now.log after
acted_leads opening old before now after acts = elim acts.appends [
  | inl same ↦ subst (λ (l : List LogEntry). LogLeads opening l after) (sym same.0) (subst (λ (s : ServerState). LogLeads opening acts.log s) (sym same.1) acts.leads)
  | inr one ↦ subst (λ (l : List LogEntry). LogLeads opening l after) (sym one.1) (leads_more opening acts.log before (Lines old.session.session one.0) after acts.leads one.2)
]

alike_to_itself : (state : ServerState) → AreStatesAlike state state
alike_to_itself state = record { world = alike_itself state.executor.world; holders = refl; lives = refl; epoch = refl; places = refl }

-- A state to which a prefix of a log leads is like the one on the way.
pub on_the_way : (opening : ServerOpening) (start : ServerState) → BeginsWith opening start
    → (log rest : List LogEntry) (state later : ServerState) → LogLeads opening log state
    → LogLeads opening (log ++ rest) later
    → (mid : ServerState) × LogLeads opening log mid × AreStatesAlike state mid
    × EntriesLead opening.names mid rest later
on_the_way opening start begins [] rest state later one two = absurd one
on_the_way opening start begins (first ∷ log) rest state later one two =
    let parts = split_lead opening.names log rest two.0 later two.2 in
    let same : one.0 ≡ two.0 = begins.one one.0 one.1 ∙ sym (begins.one two.0 two.1) in
    let starts : AreStatesAlike one.0 two.0 = subst (AreStatesAlike one.0) same (alike_to_itself one.0) in
    (parts.0, (two.0, two.1, parts.1), all_alike opening.names log one.0 two.0 state parts.0 starts one.2 parts.1, parts.2)

pub stays_inside : (opening : ServerOpening) (start : ServerState) (old held now : SessionMoment)
    (before after next last : ServerState) (worker : ℕ) (job : Job)
    → BeginsWith opening start → SessionActs opening old before held after → SessionActs opening held next now last
    → IsSessionInside held.session.session worker job after → IsSessionInside held.session.session worker job next × WorkerOwnsLock next.executor.world worker job.lock
stays_inside opening start old held now before after next last worker job begins first second inside =
    let session = held.session.session in
    let grows = second.others in
    let later : LogLeads opening (held.log ++ grows.between) next = subst (λ (l : List LogEntry). LogLeads opening l next) grows.grows second.leads in
    let way = on_the_way opening start begins held.log grows.between after next (acted_leads opening old before held after first) later in
    let mid : ServerState = way.0 in
    let entered : IsSessionInside session worker job mid = inside_alike session worker job after mid way.2 inside in
    let keeps : KeepsWorker session worker mid next = keeps_worker opening.names session worker grows.between mid next way.3 grows.others entered.client entered.has in
    let reached = entries_reach opening.names grows.between mid next way.3 (log_reach opening start begins held.log mid way.1) in
    let kept : IsSessionInside session worker job next = inside_kept session worker job mid next reached.1 keeps entered in
    (kept, inside_owns session worker job next reached.0 kept)
