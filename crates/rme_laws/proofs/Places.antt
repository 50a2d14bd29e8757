-- The token that `enter` told is the place of the commit's receipt.
use Rattle.std.proofs.Common.{◌≡◌, ℕ, ◌+◌, ◌<◌, List, refl, sym, ap, ap₂, subst, ◌∙◌, inl, inr}
use Rattle.std.specs.Prelude.{Bool, true, false, ◌==◌, Option, Some, None, slice_get, if◌then◌else◌}
use Rattle.std.proofs.lemmas.Bool.{eq-eqb, eqb-true}
use Rattle.std.proofs.lemmas.Option.{none-some, same_Some}
use Rattle.rme_script.specs.declared.job.Job.{Job}
use Rattle.rme_program.specs.declared.note.Entry.{Entry}
use Rattle.rme_program.specs.declared.note.Receipt.{Receipt}
use Rattle.rme_machine.specs.declared.stance.JobStance.{JobStance}
use Rattle.rme_machine.specs.declared.stance.JobStance.TheVariants.{Idle, Handed, Waiting, Inside, Finished}
use Rattle.rme_session_protocol.specs.Attempts.{with_tries}
use Rattle.rme_session_protocol.specs.SessionSteps.{CommitOrderEffect, EnterOrderEffect, EnterPendingEffect, ReadyEnterEffect, SessionStepWithin, TokenSection, TellsSection, last_outcome}
use Rattle.rme_session_protocol.specs.SessionViews.{next_worker_job, waiting_worker}
use Rattle.rme_session_protocol.specs.Refusals.{ServiceSizes}
use Rattle.rme_session_protocol.specs.declared.order.Order.{Order}
use Rattle.rme_session_protocol.specs.declared.order.Order.TheVariants as order
use Rattle.rme_session_protocol.specs.declared.order.Submission.{Submission}
use Rattle.rme_session_protocol.specs.declared.reply.FencingToken.{FencingToken}
use Rattle.rme_session_protocol.specs.declared.reply.JobOutcome.TheVariants as outcome
use Rattle.rme_session_protocol.specs.declared.reply.SessionReply.TheVariants as reply
use Rattle.rme_session_protocol.specs.declared.view.PendingWorker.{PendingWorker}
use Rattle.rme_session_protocol.specs.declared.view.ReadyWorker.{ReadyWorker}
use Rattle.rme_session_protocol.specs.declared.view.Session.{Session}
use Rattle.rme_session_protocol.specs.declared.view.Session.TheVariants.{Nobody, Ready, Climb, Held}
use Rattle.rme_session_protocol.specs.declared.view.SessionView.{SessionView}
use Rattle.rme_session_world.specs.AppliedOrders.{worker_view}
use Rattle.rme_session_world.specs.Executors.{executor_session_view, held_session_if, owned_worker, owned_worker_by}
use Rattle.rme_session_world.specs.ExecutorStates.{ExecutorState, is_held_by}
use Rattle.rme_session_world.specs.WorkerSessions.{worker_session, worker_session_by, worker_state_in}
use Rattle.rme_session_world.specs.declared.executor.SessionState.{SessionState}
use Rattle.rme_durable_epochs.specs.ClientValues.{client_pending, client_session, next_client_place}
use Rattle.rme_durable_epochs.specs.declared.epoch_base.Base.{Base}
use Rattle.rme_durable_server.specs.DurableOrders.{DurableAttempt}
use Rattle.rme_durable_server.specs.ServerHistories.{AppendsAtMostOne, ServerOpening, ServerState, SessionMoment}
use Rattle.rme_laws.specs.HeldLocks.{BeginsWith, IsSessionInside}
use Rattle.rme_laws.proofs.Inside.{same_pending, stays_inside}
use Rattle.rme_laws.proofs.Sections.{section_stays}

-- ---- the session of the answers

no_token : (token : FencingToken) (last : Option Receipt) → outcome.Inside token ≡ last_outcome last → ⊥
no_token token (Some receipt) same = cc
no_token token None same = cc

pending_held : (start : PendingWorker) (session : Session) (token : FencingToken)
    → EnterPendingEffect start session (outcome.Inside token) → (pending : PendingWorker) × (session ≡ Held pending)
pending_held start Nobody token enters = absurd enters
pending_held start (Ready ready) token enters = absurd enters
pending_held start (Climb pending) token enters = absurd enters
pending_held start (Held pending) token enters = (pending, refl)

handed_held : (again : Bool) (ready : ReadyWorker) (job : Job) (session : Session) (token : FencingToken)
    → ReadyEnterEffect again ready job session (outcome.Inside token)
    → (pending : PendingWorker) × (session ≡ Held pending)
handed_held true ready job session token enters = absurd (no_token token ready.last enters.1)
handed_held false ready job session token enters = pending_held (waiting_worker (next_worker_job ready job)) session token enters

enter_held : (made : ℕ) (start : Session) (its : Submission) (session : Session) (token : FencingToken)
    → EnterOrderEffect made start its session (outcome.Inside token)
    → (pending : PendingWorker) × (session ≡ Held pending)
enter_held made Nobody its session token enters = absurd enters
enter_held made (Ready ready) its session token enters = handed_held (its.number == ready.number) ready its.job session token enters
enter_held made (Climb pending) its session token enters = pending_held pending session token enters
enter_held made (Held pending) its session token (no_step, same, is) = (pending, same)

-- A session that is told a token is inside.
step_held : (sizes : ServiceSizes) (made : ℕ) (old : SessionView) (its : Order) (now : SessionView)
    (token : FencingToken)
    → SessionStepWithin sizes made old (with_tries 1 its) now (reply.Entered (outcome.Inside token))
    → (pending : PendingWorker) × (now.session ≡ Held pending)
step_held sizes made old (order.Attach its) now token (none, does) = absurd does
step_held sizes made old (order.Submit its) now token (none, does) = absurd does
step_held sizes made old (order.Resume patience) now token (none, does) = absurd does
step_held sizes made old (order.Enter its) now token (none, does) = enter_held made old.session _ now.session token does.0
step_held sizes made old order.Commit now token (none, does) = absurd does
step_held sizes made old order.Withdraw now token (none, does) = absurd does
step_held sizes made old order.Last now token (none, does) = absurd does
step_held sizes made old (order.CrashAfter steps) now token (none, does) = absurd does
step_held sizes made old order.Detach now token (none, does) = absurd does
step_held sizes made old order.Ping now token (none, does) = absurd does
step_held sizes made old order.Pending now token (none, does) = absurd does

-- The receipt of a commit is of the lock of the job with which the worker was inside.
commit_lock : (start : PendingWorker) (session : Session) (receipt : Receipt) (job : Job) → start.draft ≡ Some job
    → CommitOrderEffect (Held start) session (outcome.Receipt receipt) → receipt.lock ≡ job.lock
commit_lock start Nobody receipt job draft commits = absurd commits
commit_lock start (Ready ready) receipt job draft (its, has, (is, same)) = is.lock ∙ ap (λ (j : Job). j.lock) (same_Some _ _ (sym has ∙ draft))
commit_lock start (Climb pending) receipt job draft commits = absurd commits
commit_lock start (Held pending) receipt job draft commits = absurd commits

-- ---- the worker of a session that is inside

its_holder : (session : ℕ) (holder : Option (Option ℕ)) → is_held_by session holder ≡ true
    → holder ≡ Some (Some session)
its_holder session None held = absurd (cc)
its_holder session (Some None) held = absurd (cc)
its_holder session (Some (Some other)) held = ap (λ (s : ℕ). Some (Some s)) (eqb-true other session held)

record OwnsWorker (executor : ExecutorState) (stand : SessionState) (worker : ℕ) : Type 0 where
  pub stands : stand.worker ≡ Some worker
  pub has : slice_get executor.holders worker ≡ Some (Some stand.session)

owns_by : (executor : ExecutorState) (stand : SessionState) (worker : Option ℕ) → stand.worker ≡ worker → (own : ℕ)
    → owned_worker_by executor stand.session worker ≡ Some own → OwnsWorker executor stand own
owns_by executor stand None is own owned = absurd (none-some own owned)
owns_by executor stand (Some worker) is own owned = by_test (is_held_by stand.session (slice_get executor.holders worker)) refl owned
  where
    by_test : (test : Bool) → is_held_by stand.session (slice_get executor.holders worker) ≡ test
        → (if test then Some worker else None) ≡ Some own → OwnsWorker executor stand own
    by_test true held owned =
        let same : worker ≡ own = same_Some _ _ owned in
        record { stands = is ∙ ap (λ (w : ℕ). Some w) same; has = subst (λ (w : ℕ). slice_get executor.holders w ≡ Some (Some stand.session)) same (its_holder stand.session (slice_get executor.holders worker) held) }
    by_test false held owned = absurd (none-some own owned)

owned_is : (executor : ExecutorState) (stand : SessionState) (worker : ℕ) → stand.worker ≡ Some worker
    → slice_get executor.holders worker ≡ Some (Some stand.session) → owned_worker executor stand ≡ Some worker
owned_is executor stand worker stands has = rw stands (rw has (rw (eq-eqb stand.session stand.session refl) refl))

-- What the client of a session sees as inside is inside in the world.
client_held : (base : Base) (session : Session) (pending : PendingWorker) → client_session base session ≡ Held pending
    → (its : PendingWorker) × (session ≡ Held its) × (its.draft ≡ pending.draft)
client_held base Nobody pending same = absurd (cc)
client_held base (Ready ready) pending same = absurd (cc)
client_held base (Climb its) pending same = absurd (cc)
client_held base (Held its) pending same = (its, refl, ap (λ (p : PendingWorker). p.draft) (same_pending (client_pending base its) pending same))

held_by_stance : (history : List Entry) (worker asked : ℕ) (stance : JobStance) (its : PendingWorker)
    → worker_session_by history worker asked stance ≡ Held its → its.worker ≡ worker
held_by_stance history worker asked Idle its shown = absurd (cc)
held_by_stance history worker asked (Handed job) its shown = absurd (cc)
held_by_stance history worker asked (Waiting k job) its shown = absurd (cc)
held_by_stance history worker asked (Inside k job) its shown = ap (λ (p : PendingWorker). p.worker) (sym (same_pending _ its shown))
held_by_stance history worker asked (Finished k job) its shown = absurd (cc)

view_held : (executor : ExecutorState) (stand : SessionState) (its : PendingWorker)
    → (executor_session_view executor stand).session ≡ Held its
    → (worker : ℕ) × OwnsWorker executor stand worker × (worker_session executor.world worker ≡ Held its)
view_held executor stand its shown = by_owned (owned_worker executor stand) refl shown
  where
    by_owned : (owned : Option ℕ) → owned_worker executor stand ≡ owned
        → (worker_view executor.world owned stand.planned).session ≡ Held its
        → (worker : ℕ) × OwnsWorker executor stand worker × (worker_session executor.world worker ≡ Held its)
    by_owned None owned shown = absurd (cc)
    by_owned (Some worker) owned shown = (worker, owns_by executor stand stand.worker refl worker owned, shown)

inside_by : (state : ServerState) (stand : SessionState) (worker : ℕ) (its : PendingWorker) (job : Job)
    → OwnsWorker state.executor stand worker → worker_session state.executor.world worker ≡ Held its
    → its.draft ≡ Some job
    → worker + 1 < state.executor.world.shape.workers → IsSessionInside stand.session worker job state
inside_by state stand worker its job owns shown draft client =
    let world = state.executor.world in
    let me = worker_state_in world worker in
    let own : its.worker ≡ worker = held_by_stance world.history worker me.asked me.stance its shown in
    let whole : Held its ≡ Held record { worker = worker; number = its.number; draft = Some job } = ap₂ (λ (w : ℕ) (d : Option Job). let p : PendingWorker = record { worker = w; number = its.number; draft = d } in Held p) own draft in
    record {
      client = client;
      has = owns.has;
      number = its.number;
      shown = ap (λ (found : Option (Option ℕ)). held_session_if found (worker_session world worker)) owns.has ∙ (shown ∙ whole);
    }

-- ---- both answers

base_stays : (names : List (List ℕ)) (session : ℕ) (log : List _) (old : ServerState) (after : List _)
    (new : ServerState)
    → AppendsAtMostOne names session log old after new → new.base ≡ old.base
base_stays names session log old after new (inl same) = ap (λ (s : ServerState). s.base) same.1
base_stays names session log old after new (inr one) = one.2.base

module _ (opening : ServerOpening) (start : ServerState) (old held now : SessionMoment) (its : Order) (token : FencingToken) (receipt : Receipt) (enters : DurableAttempt opening old its held (reply.Entered (outcome.Inside token)))
    (begins : BeginsWith opening start) (commits : DurableAttempt opening held order.Commit now (reply.Committed (outcome.Receipt receipt)))
    (client : (worker : ℕ) → held.session.worker ≡ Some worker → worker + 1 < enters.after.executor.world.shape.workers) where
  abbrev Finished_in : ServerState → Base → ℕ → ℕ → Type 0
  Finished_in state base lock section = next_client_place base state.executor.world lock ≡ section

  pub token_place : receipt.place ≡ token.section
  token_place =
      let stand = held.session in
      let seen = executor_session_view enters.after.executor stand in
      let found = step_held _ enters.obeys.0 _ its _ token enters.obeys.1 in
      let told : TokenSection (Finished_in enters.after enters.before.base) found.0 token = subst (λ (s : Session). TellsSection (Finished_in enters.after enters.before.base) s (reply.Entered (outcome.Inside token))) found.1 enters.section in
      let job : Job = told.0 in
      let shown = client_held enters.before.base seen.session found.0 found.1 in
      let owner = view_held enters.after.executor stand shown.0 shown.1 in
      let worker : ℕ = owner.0 in
      let inside : IsSessionInside stand.session worker job enters.after = inside_by enters.after stand worker shown.0 job owner.1 owner.2 (shown.2 ∙ told.1) (client worker owner.1.stands) in
      let next = commits.before in
      let there : IsSessionInside stand.session worker job next = (stays_inside opening start old held now enters.before enters.after next commits.after worker job begins enters.acts commits.acts inside).0 in
      let stays = section_stays opening start old held now enters.before enters.after next commits.after worker job begins enters.acts commits.acts inside in
      let owned : owned_worker next.executor stand ≡ Some worker = owned_is next.executor stand worker owner.1.stands there.has in
      let sees : (executor_session_view next.executor stand).session ≡ Held record { worker = worker; number = there.number; draft = Some job }
      = ap (λ (own : Option ℕ). (worker_view next.executor.world own stand.planned).session) owned
      ∙ (ap (λ (found : Option (Option ℕ)). held_session_if found (worker_session next.executor.world worker)) (sym there.has) ∙ there.shown) in
      let left : Session = client_session next.base (executor_session_view commits.after.executor now.session).session in
      let lock : receipt.lock ≡ job.lock = commit_lock (client_pending next.base record { worker = worker; number = there.number; draft = Some job }) left receipt job refl
      (subst (λ (s : Session). CommitOrderEffect (client_session next.base s) left (outcome.Receipt receipt)) sees commits.obeys.1.1.0) in
      let base : enters.after.base ≡ enters.before.base = base_stays opening.names old.session.session enters.acts.log enters.before held.log enters.after enters.acts.appends in
      sym commits.place
      ∙ (ap (λ (l : ℕ). next_client_place next.base next.executor.world l) lock
      ∙ (stays
      ∙ (ap (λ (b : Base). next_client_place b enters.after.executor.world job.lock) base
      ∙ (ap (λ (l : ℕ). next_client_place enters.before.base enters.after.executor.world l) (sym told.2)
      ∙ told.3))))
