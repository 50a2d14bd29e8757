-- The holder of each worker, after an order.
use Rattle.std.proofs.Common.{◌≡◌, ◌≢◌, ℕ, ◌<◌, List, length, refl, sym, ◌∙◌, ap, subst, inl, inr, arith}
use Rattle.std.specs.Prelude.{true, Option, Some, None, IfSome, slice_get, slice_set}
use Rattle.std.proofs.lemmas.Bool.{cases_Bool, cases_eq, eqb-true, eq-eqb}
use Rattle.std.proofs.lemmas.List.{length-set}
use Rattle.std.proofs.lemmas.Option.{none-some, same_Some, slice_get_within}
use Rattle.rme_words.specs.declared.shape.Shape.{Shape}
use Rattle.rme_machine.proofs.Lists.{get_set, get_set_other}
use Rattle.rme_session_protocol.specs.SessionSteps.{SessionStep, TellsSection}
use Rattle.rme_session_protocol.specs.Attempts.{is_still_waiting, with_tries}
use Rattle.rme_session_protocol.specs.declared.planned_crash.PlannedCrash.{PlannedCrash}
use Rattle.rme_session_protocol.specs.declared.order.Order.{Order}
use Rattle.rme_session_protocol.specs.declared.order.Order.TheVariants.{Attach, Submit, Resume, Enter, Commit, Withdraw, Last, CrashAfter, Detach, Ping, Pending}
use Rattle.rme_world.specs.WorldViews.{WorldView}
use Rattle.rme_world.specs.WorldInvariants.{WorldInvariant}
use Rattle.rme_session_world.specs.AppliedOrders.{AppliesOrder, IsOrderWorker, IsSessionStopped, worker_view}
use Rattle.rme_session_world.specs.Executors.{owned_worker_by, owned_worker, holders_after, executor_session_view}
use Rattle.rme_session_world.specs.FencingTokens.{HasFinished}
use Rattle.rme_session_world.specs.Downs.{IsWorkerDown}
use Rattle.rme_session_world.specs.ExecutorStates.{ExecutorInvariant, ExecutorState, is_held_by}
use Rattle.rme_session_world.specs.WorkerSessions.{IsAtRest}
use Rattle.rme_session_world.specs.declared.executor.SessionState.{SessionState}
use Rattle.rme_session_world.specs.declared.orders.AppliedOrder.{AppliedOrder}

-- ---- the holder of a worker

pub held_some : (session : ℕ) (found : Option (Option ℕ)) → is_held_by session found ≡ true → found ≡ Some (Some session)
held_some session None held = absurd (cc)
held_some session (Some None) held = absurd (cc)
held_some session (Some (Some holder)) held = ap (λ (s : ℕ). Some (Some s)) (eqb-true holder session held)

pub seat_held : (executor : ExecutorState) (session : ℕ) (own : Option ℕ) (worker : ℕ) → owned_worker_by executor session own ≡ Some worker → slice_get executor.holders worker ≡ Some (Some session)
seat_held executor session None worker is = absurd (none-some worker is)
seat_held executor session (Some its) worker is = elim (cases_Bool (is_held_by session (slice_get executor.holders its))) [
  | inl held ↦
      (let at : Some its ≡ Some worker = rw held at is in
      let same : its ≡ worker = same_Some _ _ at in
      ap (slice_get executor.holders) (sym same) ∙ held_some session (slice_get executor.holders its) held)
  | inr other ↦ (let at : None ≡ Some worker = rw other at is in absurd (none-some worker at))
]

pub seat_within : (executor : ExecutorState) (stand : SessionState) (seat : Option ℕ) → seat ≡ owned_worker executor stand → IfSome seat (λ worker. worker < length executor.holders)
seat_within executor stand None is = tt
seat_within executor stand (Some worker) is = slice_get_within executor.holders worker (Some stand.session) (seat_held executor stand.session stand.worker worker (sym is))

-- ---- after an order

pub rests_still : (old new : WorldView) (worker : ℕ) → slice_get new.privates worker ≡ slice_get old.privates worker → IsAtRest old worker → IsAtRest new worker
rests_still old new worker same rests = (rests.0, same ∙ rests.1, rests.2)

is_one : (seat : Option ℕ) (its : Order) (worker other : ℕ) → IsOrderWorker seat its worker → IsOrderWorker seat its other → other ≡ worker
is_one (Some own) its worker other one two = two ∙ sym one
is_one None (Attach asked) worker other one two = two ∙ sym one
is_one None (Submit submission) worker other one two = absurd one
is_one None (Resume patience) worker other one two = absurd one
is_one None (Enter submission) worker other one two = absurd one
is_one None Commit worker other one two = absurd one
is_one None Withdraw worker other one two = absurd one
is_one None Last worker other one two = absurd one
is_one None (CrashAfter steps) worker other one two = absurd one
is_one None Detach worker other one two = absurd one
is_one None Ping worker other one two = absurd one
is_one None Pending worker other one two = absurd one

module _ (old new : WorldView) (holders : List (Option ℕ)) (session : ℕ) (tended : ExecutorInvariant record { world = old; holders = holders }) where
  -- One worker has another holder, and is in place for it; all others are unchanged.
  put_tended : (worker : ℕ) (holder : Option ℕ) → new.shape ≡ old.shape → worker < length holders → ((s : ℕ) → holder ≡ Some s → IsAtRest new worker) → (holder ≡ None → IsWorkerDown new worker)
      → ((other : ℕ) → other ≢ worker → slice_get new.privates other ≡ slice_get old.privates other) → ExecutorInvariant record { world = new; holders = slice_set holders worker holder }
  put_tended worker holder shape within rests down others = record {
    all = length-set holders worker holder ∙ tended.all ∙ ap (λ (s : Shape). s.workers) (sym shape);
    held = λ other s found. elim (cases_eq other worker) [
      | inl same ↦
          (let here : Some holder ≡ Some (Some s) = sym (get_set holders worker holder within) ∙ ap (slice_get (slice_set holders worker holder)) (sym same) ∙ found in
          subst (λ (w : ℕ). IsAtRest new w) (sym same) (rests s (same_Some _ _ here)))
      | inr apart ↦ rests_still old new other (others other apart) (tended.held other s (sym (get_set_other holders worker other holder apart) ∙ found))
    ];
    free = λ other found. elim (cases_eq other worker) [
      | inl same ↦
          (let here : Some holder ≡ Some None = sym (get_set holders worker holder within) ∙ ap (slice_get (slice_set holders worker holder)) (sym same) ∙ found in
          subst (λ (w : ℕ). IsWorkerDown new w) (sym same) (down (same_Some _ _ here)))
      | inr apart ↦ others other apart ∙ tended.free other (sym (get_set_other holders worker other holder apart) ∙ found)
    ];
  }

  pub tended_after : (seat now : Option ℕ) (planned : PlannedCrash) (its : Order) (carried : AppliedOrder) → carried.seat ≡ now → IfSome seat (λ worker. worker < length holders) → IfSome now (λ worker. worker < length holders)
      → AppliesOrder old seat planned its carried new → ExecutorInvariant record { world = new; holders = holders_after holders seat now session }
  tended_after None None planned its carried is own then_ carries =
      subst (λ (s : WorldView). ExecutorInvariant record { world = s; holders = holders }) (sym (carries.alone refl is).0) tended
  tended_after (Some worker) None planned its carried is own then_ carries =
      put_tended worker None carries.shape own (λ s some. absurd (none-some s some)) (λ none. carries.gone is) (λ other apart. carries.others other apart)
  tended_after None (Some worker) planned its carried is own then_ carries =
      let rests = subst (λ (o : Option ℕ). IfSome o (λ w. IsOrderWorker None its w × IsAtRest new w)) is carries.rests in
      put_tended worker (Some session) carries.shape then_ (λ s some. rests.1) (λ none. absurd (none-some session (sym none)))
      (λ other apart. carries.others other (λ its_own. apart (is_one None its worker other rests.0 its_own)))
  tended_after (Some own_worker) (Some worker) planned its carried is own then_ carries =
      let rests = subst (λ (o : Option ℕ). IfSome o (λ w. IsOrderWorker (Some own_worker) its w × IsAtRest new w)) is carries.rests in
      put_tended worker (Some session) carries.shape then_ (λ s some. rests.1) (λ none. absurd (none-some session (sym none)))
      (λ other apart. carries.others other (λ its_own. apart (is_one (Some own_worker) its worker other rests.0 its_own)))

  -- The session has the worker that its state names.
  pub seat_after_is : (seat now : Option ℕ) → IfSome now (λ worker. worker < length holders) → owned_worker_by record { world = new; holders = holders_after holders seat now session } session now ≡ now
  seat_after_is seat None then_ = refl
  seat_after_is None (Some worker) then_ = rw (get_set holders worker (Some session) then_) (rw (eq-eqb session session refl) refl)
  seat_after_is (Some own) (Some worker) then_ = rw (get_set holders worker (Some session) then_) (rw (eq-eqb session session refl) refl)

-- A worker that the session has afterwards is one of the executor's.
pub now_within : (old new : WorldView) (holders : List (Option ℕ)) (seat now : Option ℕ) (planned : PlannedCrash) (its : Order) (carried : AppliedOrder) → WorldInvariant old → length holders ≡ old.shape.workers → carried.seat ≡ now
    → AppliesOrder old seat planned its carried new → IfSome now (λ worker. worker < length holders)
now_within old new holders seat None planned its carried kept all is carries = tt
now_within old new holders seat (Some worker) planned its carried kept all is carries =
    let rests = subst (λ (o : Option ℕ). IfSome o (λ w. IsOrderWorker seat its w × IsAtRest new w)) is carries.rests in
    omega (arith, slice_get_within new.privates worker (Some rests.1.0) rests.1.1, carries.long, kept.all_privates, all)

-- The session has the worker that the order left it.
worker_after_order : (old new : WorldView) (holders after : List (Option ℕ)) (stand : SessionState) (seat : Option ℕ) (its : Order) (carried : AppliedOrder) → WorldInvariant old → ExecutorInvariant record { world = old; holders = holders }
    → after ≡ holders_after holders seat carried.seat stand.session → AppliesOrder old seat stand.planned its carried new → owned_worker_by record { world = new; holders = after } stand.session carried.seat ≡ carried.seat
worker_after_order old new holders after stand seat its carried kept tended settled carries =
    let then_ = now_within old new holders seat carried.seat stand.planned its carried kept tended.all refl carries in
    let H : List (Option ℕ) → Type 0 = λ (hs : List (Option ℕ)). owned_worker_by record { world = new; holders = hs } stand.session carried.seat ≡ carried.seat in
    subst H (sym settled) (seat_after_is old new holders stand.session tended seat carried.seat then_)

-- The session view makes a step of the order.
pub executor_obeys : (old new : WorldView) (holders after : List (Option ℕ)) (stand : SessionState) (seat : Option ℕ) (its : Order) (carried : AppliedOrder) → WorldInvariant old → ExecutorInvariant record { world = old; holders = holders }
    → seat ≡ owned_worker record { world = old; holders = holders } stand → after ≡ holders_after holders seat carried.seat stand.session → AppliesOrder old seat stand.planned its carried new
    → SessionStep old.shape (executor_session_view record { world = old; holders = holders } stand) (with_tries 1 its)
    (executor_session_view record { world = new; holders = after } record { session = stand.session; worker = carried.seat; planned = carried.planned }) carried.reply
executor_obeys old new holders after stand seat its carried kept tended is settled carries =
    let same = worker_after_order old new holders after stand seat its carried kept tended settled carries in
    let P : Option ℕ → Type 0 = λ (own : Option ℕ). SessionStep old.shape (worker_view old own stand.planned) (with_tries 1 its) (worker_view new carried.seat carried.planned) carried.reply in
    let Q : Option ℕ → Type 0 = λ (own : Option ℕ). SessionStep old.shape (executor_session_view record { world = old; holders = holders } stand) (with_tries 1 its) (worker_view new own carried.planned) carried.reply in
    subst Q (sym same) (subst P is carries.obeys)

-- A waiting job is that of a worker that the session has, and that another worker blocks.
pub executor_waits : (old new : WorldView) (holders after : List (Option ℕ)) (stand : SessionState) (seat : Option ℕ) (its : Order) (carried : AppliedOrder) → WorldInvariant old → ExecutorInvariant record { world = old; holders = holders }
    → after ≡ holders_after holders seat carried.seat stand.session → AppliesOrder old seat stand.planned its carried new → is_still_waiting carried.reply ≡ true
    → IsSessionStopped new (owned_worker record { world = new; holders = after } record { session = stand.session; worker = carried.seat; planned = carried.planned })
executor_waits old new holders after stand seat its carried kept tended settled carries waits =
    subst (IsSessionStopped new) (sym (worker_after_order old new holders after stand seat its carried kept tended settled carries)) (carries.waits waits)

-- A token in the answer is of the section.
pub executor_section : (old new : WorldView) (holders after : List (Option ℕ)) (stand : SessionState) (seat : Option ℕ) (its : Order) (carried : AppliedOrder) → WorldInvariant old → ExecutorInvariant record { world = old; holders = holders }
    → after ≡ holders_after holders seat carried.seat stand.session → AppliesOrder old seat stand.planned its carried new
    → TellsSection (HasFinished new) (executor_session_view record { world = new; holders = after } record { session = stand.session; worker = carried.seat; planned = carried.planned }).session carried.reply
executor_section old new holders after stand seat its carried kept tended settled carries =
    let P : Option ℕ → Type 0 = λ (own : Option ℕ). TellsSection (HasFinished new) (worker_view new own carried.planned).session carried.reply in
    subst P (sym (worker_after_order old new holders after stand seat its carried kept tended settled carries)) carries.section

pub executor_tended : (old new : WorldView) (holders after : List (Option ℕ)) (stand : SessionState) (seat : Option ℕ) (its : Order) (carried : AppliedOrder) → WorldInvariant old → ExecutorInvariant record { world = old; holders = holders }
    → seat ≡ owned_worker record { world = old; holders = holders } stand → after ≡ holders_after holders seat carried.seat stand.session → AppliesOrder old seat stand.planned its carried new
    → ExecutorInvariant record { world = new; holders = after }
executor_tended old new holders after stand seat its carried kept tended is settled carries =
    let then_ = now_within old new holders seat carried.seat stand.planned its carried kept tended.all refl carries in
    let H : List (Option ℕ) → Type 0 = λ (hs : List (Option ℕ)). ExecutorInvariant record { world = new; holders = hs } in
    subst H (sym settled)
    (tended_after old new holders stand.session tended seat carried.seat stand.planned its carried refl (seat_within record { world = old; holders = holders } stand seat is) then_ carries)
