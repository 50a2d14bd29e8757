-- An order's effect on an executor, as the event batch of its session.
use Rattle.std.proofs.Common.{◌≡◌, ℕ, zero, suc, ◌<◌, List, [], ◌∷◌, ◌++◌, length, refl, sym, ◌∙◌, ap, subst, inl, inr, arith}
use Rattle.std.specs.Prelude.{true, false, Bool, nat_lt, ◌||◌, Option, Some, None, IfSome, slice_get, slice_set}
use Rattle.std.proofs.lemmas.Bool.{cases_Bool, lt-ltb}
use Rattle.std.proofs.lemmas.Option.{none-some, same_Some, slice_get_within}
use Rattle.rme_session_protocol.specs.declared.order.Order.{Order}
use Rattle.rme_session_protocol.specs.declared.order.Order.TheVariants.{Attach, Submit as SubmitOrder, Resume, Enter, Commit, Withdraw as WithdrawOrder, Last, CrashAfter, Detach, Ping, Pending}
use Rattle.rme_world.specs.WorldViews.{WorldView}
use Rattle.rme_world.specs.WorldInvariants.{WorldInvariant}
use Rattle.rme_session_world.specs.AppliedOrders.{AppliesOrder, IsOrderWorker}
use Rattle.rme_session_world.specs.Executors.{owned_worker, holders_after, has_holder, is_worker_taken}
use Rattle.rme_session_world.specs.Downs.{IsWorkerDown}
use Rattle.rme_session_world.specs.EventBatches.{AppliesEvents, batch_events, batch_events_if, crash_events, start_events, step_events}
use Rattle.rme_session_world.specs.ExecutorStates.{ExecutorInvariant, ExecutorState}
use Rattle.rme_session_world.specs.Replies.{worker_after_run}
use Rattle.rme_session_world.specs.SessionBatches.{AppliesSessionOrder, MayOrderWorker, batch_with_events, has_events, has_start, holder_by}
use Rattle.rme_session_world.specs.WorkerSessions.{IsAtRest}
use Rattle.rme_session_world.specs.declared.event_batch.BatchStart.{BatchStart}
use Rattle.rme_session_world.specs.declared.event_batch.BatchStart.TheVariants.{Restart, Submit, Withdraw, GoOn}
use Rattle.rme_session_world.specs.declared.event_batch.EventBatch.{EventBatch}
use Rattle.rme_session_world.specs.declared.executor.SessionState.{SessionState}
use Rattle.rme_session_world.specs.declared.orders.AppliedOrder.{AppliedOrder}
use Rattle.rme_session_world.proofs.Seating.{seat_held}

abbrev state : WorldView → List (Option ℕ) → ExecutorState
state world holders = record { world = world; holders = holders }

-- ---- lists of holders

set_same : {A : Type 0} (xs : List A) (i : ℕ) (x : A) → slice_get xs i ≡ Some x → slice_set xs i x ≡ xs
set_same [] i x found = refl
set_same (y ∷ ys) zero x found = ap (λ (h : _). h ∷ ys) (sym (same_Some _ _ found))
set_same (y ∷ ys) (suc i) x found = ap (λ (t : _). y ∷ t) (set_same ys i x found)

holds_at : {A : Type 0} (xs : List A) (i : ℕ) → i < length xs → (x : A) × (slice_get xs i ≡ Some x)
holds_at [] i within = absurd (omega (arith, within))
holds_at (y ∷ ys) zero within = (y, refl)
holds_at (y ∷ ys) (suc i) within = holds_at ys i (omega (arith, within))

-- ---- batches without events

no_events_in : (worker : ℕ) (begins : BatchStart) (steps : ℕ) (falls : Bool) → (has_start begins || (nat_lt 0 steps || falls)) ≡ false
    → ((start_events worker begins ++ (step_events worker steps ++ crash_events worker falls)) ≡ []) × (falls ≡ false)
no_events_in worker Restart steps falls is = absurd (cc)
no_events_in worker (Submit job) steps falls is = absurd (cc)
no_events_in worker Withdraw steps falls is = absurd (cc)
no_events_in worker GoOn zero true is = absurd (cc)
no_events_in worker GoOn zero false is = (refl, refl)
no_events_in worker GoOn (suc steps) falls is = absurd (let some : nat_lt 0 (suc steps) ≡ true = lt-ltb 0 (suc steps) (omega arith) in cc (some, is))

no_events : (batch : EventBatch) → has_events batch ≡ false → (batch_events batch ≡ []) × (batch.falls ≡ false)
no_events batch is = no_events_in batch.worker batch.begins batch.steps batch.falls is

nothing_happened : (old new : WorldView) → AppliesEvents old [] new → new ≡ old
nothing_happened old new ([], same) = same
nothing_happened old new (a ∷ given, all) = absurd all

module _ (old new : WorldView) (holders after : List (Option ℕ)) (stand : SessionState) (seat : Option ℕ) (its : Order) (carried : AppliedOrder)
    (kept : WorldInvariant old) (tended : ExecutorInvariant (state old holders)) (is : seat ≡ owned_worker (state old holders) stand)
    (free : is_worker_taken (state old holders) seat its ≡ false) (settled : after ≡ holders_after holders seat carried.seat stand.session) (carries : AppliesOrder old seat stand.planned its carried new) where
  had : (worker : ℕ) → seat ≡ Some worker → slice_get holders worker ≡ Some (Some stand.session)
  had worker at = seat_held (state old holders) stand.session stand.worker worker (sym is ∙ at)

  -- The worker that an order without a worker attaches has no holder.
  free_by : (found : Option (Option ℕ)) → has_holder found ≡ false → (holder : Option ℕ) → found ≡ Some holder → found ≡ Some None
  free_by None none holder some = absurd (none-some holder some)
  free_by (Some None) none holder some = refl
  free_by (Some (Some session)) none holder some = absurd (cc)

  free_at : (none : seat ≡ None) (order : Order) → its ≡ order → (worker : ℕ) → IsOrderWorker None order worker → worker < length holders → slice_get holders worker ≡ Some None
  free_at none (Attach asked) same worker own within =
      let P : Option ℕ → Order → Type 0 = λ (s : Option ℕ) (o : Order). is_worker_taken (state old holders) s o ≡ false in
      let none_has : has_holder (slice_get holders asked.worker) ≡ false = subst (λ (o : Order). P None o) same (subst (λ (s : Option ℕ). P s its) none free) in
      let found = holds_at holders worker within in
      free_by (slice_get holders worker) (ap (λ (w : ℕ). has_holder (slice_get holders w)) own ∙ none_has) found.0 found.1
  free_at none (SubmitOrder submission) same worker own within = absurd own
  free_at none (Resume patience) same worker own within = absurd own
  free_at none (Enter submission) same worker own within = absurd own
  free_at none Commit same worker own within = absurd own
  free_at none WithdrawOrder same worker own within = absurd own
  free_at none Last same worker own within = absurd own
  free_at none (CrashAfter steps) same worker own within = absurd own
  free_at none Detach same worker own within = absurd own
  free_at none Ping same worker own within = absurd own
  free_at none Pending same worker own within = absurd own

  resting_within : (worker : ℕ) → IsAtRest new worker → worker < length holders
  resting_within worker rests = omega (arith, slice_get_within new.privates worker (Some rests.0) rests.1, carries.long, kept.all_privates, tended.all)

  -- Where the session keeps its worker, or has none, the holders are the same.
  same_holders : (seat_now : Option ℕ) → seat ≡ seat_now → carried.seat ≡ seat_now → after ≡ holders
  same_holders None at then_ = subst (λ (s : Option ℕ). after ≡ holders_after holders s None stand.session) at (subst (λ (s : Option ℕ). after ≡ holders_after holders seat s stand.session) then_ settled)
  same_holders (Some worker) at then_ =
      subst (λ (s : Option ℕ). after ≡ holders_after holders s (Some worker) stand.session) at (subst (λ (s : Option ℕ). after ≡ holders_after holders seat s stand.session) then_ settled)
      ∙ set_same holders worker (Some stand.session) (had worker at)

  -- Without an event batch nothing changed.
  pub unbatched : carried.batch ≡ None → (state new after) ≡ (state old holders)
  unbatched none =
      let world = nothing_happened old new (subst (λ (b : Option EventBatch). AppliesEvents old (batch_events_if b) new) none carries.happened) in
      let same = same_holders seat refl (carries.kept none) in
      ap (λ (w : WorldView). state w after) world ∙ ap (λ (h : List (Option ℕ)). state old h) same

  module _ (batch : EventBatch) (batched : carried.batch ≡ Some batch) where
    own : IsOrderWorker seat its batch.worker
    own = subst (λ (b : Option EventBatch). IfSome b (λ (one : EventBatch). IsOrderWorker seat its one.worker)) batched carries.own

    seated : carried.seat ≡ worker_after_run batch.falls batch.worker
    seated = subst (λ (b : Option EventBatch). IfSome b (λ (one : EventBatch). carried.seat ≡ worker_after_run one.falls one.worker)) batched carries.seats

    happened : AppliesEvents old (batch_events batch) new
    happened = subst (λ (b : Option EventBatch). AppliesEvents old (batch_events_if b) new) batched carries.happened

    rests : carried.seat ≡ Some batch.worker → IsAtRest new batch.worker
    rests at = (subst (λ (o : Option ℕ). IfSome o (λ w. IsOrderWorker seat its w × IsAtRest new w)) at carries.rests).1

    -- A worker that is attached has restarted.
    not_still : seat ≡ None → carried.seat ≡ Some batch.worker → new ≡ old → ⊥
    not_still none at world =
        let up : IsAtRest old batch.worker = subst (λ (w : WorldView). IsAtRest w batch.worker) world (rests at) in
        let down : IsWorkerDown old batch.worker = tended.free batch.worker (free_at none its refl batch.worker (subst (λ (s : Option ℕ). IsOrderWorker s its batch.worker) none own) (resting_within batch.worker (rests at))) in
        none-some up.0 (same_Some _ _ (sym down ∙ up.1))

    still_by : (s : Option ℕ) → seat ≡ s → carried.seat ≡ Some batch.worker → new ≡ old → after ≡ holders
    still_by None none at world = absurd (not_still none at world)
    still_by (Some worker) some at world =
        let one : batch.worker ≡ worker = subst (λ (s : Option ℕ). IsOrderWorker s its batch.worker) some own in
        same_holders (Some worker) some (at ∙ ap (λ (w : ℕ). Some w) one)

    still : has_events batch ≡ false → (state new after) ≡ (state old holders)
    still none =
        let no = no_events batch none in
        let world = nothing_happened old new (subst (λ (events : List _). AppliesEvents old events new) no.0 happened) in
        let same = still_by seat refl (seated ∙ ap (λ (f : Bool). worker_after_run f batch.worker) no.1) world in
        ap (λ (w : WorldView). state w after) world ∙ ap (λ (h : List (Option ℕ)). state old h) same

    -- Without a worker a session attaches one, which does not crash.
    attached : seat ≡ None → batch.falls ≡ false
    attached none = elim (cases_Bool batch.falls) [
      | inl falls ↦
          (let gone : carried.seat ≡ None = seated ∙ ap (λ (f : Bool). worker_after_run f batch.worker) falls in
          absurd (none-some batch (sym (carries.alone none gone).1 ∙ batched)))
      | inr stays ↦ stays
    ]

    may_by : (s : Option ℕ) → seat ≡ s → MayOrderWorker stand.session (slice_get holders batch.worker)
    may_by (Some worker) some =
        let one : batch.worker ≡ worker = subst (λ (s : Option ℕ). IsOrderWorker s its batch.worker) some own in
        inl (ap (slice_get holders) one ∙ had worker some)
    may_by None none =
        let at : carried.seat ≡ Some batch.worker = seated ∙ ap (λ (f : Bool). worker_after_run f batch.worker) (attached none) in
        inr (free_at none its refl batch.worker (subst (λ (s : Option ℕ). IsOrderWorker s its batch.worker) none own) (resting_within batch.worker (rests at)))

    holders_by : (falls : Bool) → batch.falls ≡ falls → (s : Option ℕ) → seat ≡ s → after ≡ slice_set holders batch.worker (holder_by falls stand.session)
    holders_by true falls None none = absurd (let e : true ≡ false = sym falls ∙ attached none in cc)
    holders_by true falls (Some worker) some =
        let one : batch.worker ≡ worker = subst (λ (s : Option ℕ). IsOrderWorker s its batch.worker) some own in
        let then_ : carried.seat ≡ None = seated ∙ ap (λ (f : Bool). worker_after_run f batch.worker) falls in
        subst (λ (s : Option ℕ). after ≡ holders_after holders s None stand.session) some (subst (λ (s : Option ℕ). after ≡ holders_after holders seat s stand.session) then_ settled)
        ∙ ap (λ (w : ℕ). slice_set holders w None) (sym one)
    holders_by false falls None none =
        let then_ : carried.seat ≡ Some batch.worker = seated ∙ ap (λ (f : Bool). worker_after_run f batch.worker) falls in
        subst (λ (s : Option ℕ). after ≡ holders_after holders s (Some batch.worker) stand.session) none (subst (λ (s : Option ℕ). after ≡ holders_after holders seat s stand.session) then_ settled)
    holders_by false falls (Some worker) some =
        let then_ : carried.seat ≡ Some batch.worker = seated ∙ ap (λ (f : Bool). worker_after_run f batch.worker) falls in
        subst (λ (s : Option ℕ). after ≡ holders_after holders s (Some batch.worker) stand.session) some (subst (λ (s : Option ℕ). after ≡ holders_after holders seat s stand.session) then_ settled)

    batched_applies : AppliesSessionOrder stand.session (state old holders) (batch_with_events (Some batch)) (state new after)
    batched_applies = elim (cases_Bool (has_events batch)) [
      | inl some ↦ rw some record { happened = happened; some = some; may = may_by seat refl; holders = holders_by batch.falls refl seat refl }
      | inr none ↦ rw none (still none)
    ]

  applies_by : (b : Option EventBatch) → carried.batch ≡ b → AppliesSessionOrder stand.session (state old holders) (batch_with_events b) (state new after)
  applies_by None none = unbatched none
  applies_by (Some batch) some = batched_applies batch some

  -- The order was applied as the event batch of its session.
  pub executor_applies : AppliesSessionOrder stand.session (state old holders) (batch_with_events carried.batch) (state new after)
  executor_applies = applies_by carried.batch refl
