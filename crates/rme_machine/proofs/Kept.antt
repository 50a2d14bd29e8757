-- The frame lemmas: each kind of change preserves the invariant, and leaves the knowledge of every other worker.
use Rattle.std.proofs.Common.{◌≡◌, ◌≢◌, ℕ, ◌%◌, ◌<◌, List, sym, ◌∙◌, ap, subst, inl, inr, arith, refl}
use Rattle.std.specs.Prelude.{Bool, true, false, Option, Some, None, ◌⊎◌, ◌∷◌, ◌++◌, []}
use Rattle.std.proofs.lemmas.Bool.{cases_eq}
use Rattle.rme_words.specs.declared.shape.Shape.{Shape}
use Rattle.rme_words.specs.declared.address.Address.{Address}
use Rattle.rme_tree.specs.Nodes.{lock_nodes, held_levels_in, owner_in}
use Rattle.rme_tree.proofs.Ownership.{owner_is, owner_holds, held-owns}
use Rattle.rme_tree.proofs.Steps.{same_owner}
use Rattle.rme_program.specs.declared.note.Entry.{Entry}
use Rattle.rme_program.specs.declared.private.Private.{Private}
use Rattle.rme_program.specs.declared.stage.Stage.{Stage}
use Rattle.rme_program.specs.declared.stage.Stage.TheVariants.{Resting, Recovering, Posting, Climbing, Logging, Copying, Leaving}
use Rattle.rme_program.specs.declared.stage.Recovery.{Recovery}
use Rattle.rme_program.specs.declared.stage.Recovery.TheVariants.{LoadBegun, LoadDone, LoadLock, LoadPath}
use Rattle.rme_program.specs.declared.stage.Departure.{Departure}
use Rattle.rme_program.specs.declared.stage.Departure.TheVariants.{LoadExitTurn, StoreExitTurn, Clear, WithdrawPlace, WithdrawAt, WithdrawReply, WithdrawDone}
use Rattle.rme_machine.specs.Histories.{IsLegalNextEntry, NumbersRise, lock_row, place_of}
use Rattle.rme_machine.specs.Views.{WorkerWords, LockWords, worker_words, lock_words, is_pending, current_lock, slate_job}
use Rattle.rme_machine.specs.Knowledge.{PrivateInvariant, StageKnowledge, LogKnowledge, RedoKnowledge, RecoveryKnowledge, DepartureKnowledge, IsPendingAt, IsDoneAt, IsIdleWorker, log_lock, redo_lock}
use Rattle.rme_machine.specs.Invariant.{Invariant, WorkerInvariant, IsWithdrawnNumber, IsLastReceiptWords, IsSettledLock, IsLoggedLock, IsFinishedLock, LockInvariant, OwnedLockInvariant}
use Rattle.rme_machine.specs.AbstractState.{Privates}
use Rattle.rme_machine.specs.Changes.{PrivateChange}
use Rattle.rme_machine.proofs.Moves.{OwnMove, LockMove, NodeMove, held_others}
use Rattle.rme_machine.proofs.Historical.{place_other, row_other, last_at_other, last_by_other, numbers_other, entry_other, legal_more}

-- What is known of a job at a lock depends on the levels held there.
at_same : (own : WorkerWords) (held held' : ℕ → ℕ) (b l n : ℕ) → held' l ≡ held l → IsPendingAt own held b l n → IsPendingAt own held' b l n
at_same own held held' b l n same is = record { known = is.known; pending = is.pending; slate = is.slate; holds = same ∙ is.holds }

past_same : (own : WorkerWords) (held held' : ℕ → ℕ) (b l n : ℕ) → held' l ≡ held l → IsDoneAt own held b l n → IsDoneAt own held' b l n
past_same own held held' b l n same is = record { known = is.known; some = is.some; past = is.past; site = is.site; holds = same ∙ is.holds }

idle_same : (s : Shape) (own : WorkerWords) (held held' : ℕ → ℕ) (b : ℕ) → ((l : ℕ) → held' l ≡ held l) → IsIdleWorker s own held b → IsIdleWorker s own held' b
idle_same s own held held' b same is = record { known = is.known; past = is.past; holds = λ l lock. same l ∙ is.holds l lock }

recovery_same : (own : WorkerWords) (held held' : ℕ → ℕ) (b : ℕ) (recovery : Recovery) → ((l : ℕ) → held' l ≡ held l)
    → RecoveryKnowledge own held b recovery → RecoveryKnowledge own held' b recovery
recovery_same own held held' b LoadBegun same knows = tt
recovery_same own held held' b LoadDone same knows = knows
recovery_same own held held' b (LoadLock pending) same knows = knows
recovery_same own held held' b (LoadPath pending l levels) same knows =
    (knows.0, knows.1, knows.2, knows.3, omega (arith, same l, knows.4))

departure_same : (s : Shape) (own : WorkerWords) (held held' : ℕ → ℕ) (locks locks' : ℕ → LockWords) (b : ℕ) (departure : Departure)
    → ((l : ℕ) → held' l ≡ held l) → ((l : ℕ) → held l ≡ s.height → locks' l ≡ locks l)
    → DepartureKnowledge s own held locks b departure → DepartureKnowledge s own held' locks' b departure
departure_same s own held held' locks locks' b (LoadExitTurn l) same_held same_locks knows = past_same own held held' b l _ (same_held l) knows
departure_same s own held held' locks locks' b (StoreExitTurn l turn) same_held same_locks knows =
    (past_same own held held' b l _ (same_held l) knows.0, ap (λ (x : LockWords). x.turn) (same_locks l knows.0.holds) ∙ knows.1, knows.2)
departure_same s own held held' locks locks' b (Clear l level) same_held same_locks knows = (
  past_same own held held' b l _ (same_held l) knows.0,
  λ top. ap (λ (x : LockWords). x.turn % 2) (same_locks l (knows.0.holds ∙ top)) ∙ knows.1 top,
)
departure_same s own held held' locks locks' b (WithdrawPlace l n) same_held same_locks knows = at_same own held held' b l n (same_held l) knows
departure_same s own held held' locks locks' b (WithdrawAt l n) same_held same_locks knows = (at_same own held held' b l n (same_held l) knows.0, knows.1)
departure_same s own held held' locks locks' b (WithdrawReply l n) same_held same_locks knows =
    (at_same own held held' b l n (same_held l) knows.0, knows.1, knows.2)
departure_same s own held held' locks locks' b (WithdrawDone l n) same_held same_locks knows =
    (at_same own held held' b l n (same_held l) knows.0, knows.1, knows.2, knows.3)

-- The knowledge of a stage depends only on the levels held in each lock, and on the words of the locks that are held
-- wholly.
pub knows_same : (s : Shape) (own : WorkerWords) (held held' : ℕ → ℕ) (locks locks' : ℕ → LockWords) (b : ℕ) (stage : Stage)
    → ((l : ℕ) → held' l ≡ held l) → ((l : ℕ) → held l ≡ s.height → locks' l ≡ locks l)
    → StageKnowledge s own held locks b stage → StageKnowledge s own held' locks' b stage
knows_same s own held held' locks locks' b Resting same_held same_locks knows = idle_same s own held held' b same_held knows
knows_same s own held held' locks locks' b (Recovering recovery) same_held same_locks knows = recovery_same own held held' b recovery same_held knows
knows_same s own held held' locks locks' b (Posting slate) same_held same_locks knows = (idle_same s own held held' b same_held knows.0, knows.1)
knows_same s own held held' locks locks' b (Climbing ascent) same_held same_locks knows =
    at_same own held held' b ascent.lock ascent.held (same_held ascent.lock) knows
knows_same s own held held' locks locks' b (Logging log) same_held same_locks knows = (
  at_same own held held' b (log_lock log) s.height (same_held (log_lock log)) knows.0,
  (let P : LockWords → Type 0 = λ x. LogKnowledge s own x log in subst P (sym (same_locks (log_lock log) knows.0.holds)) knows.1),
)
knows_same s own held held' locks locks' b (Copying redo) same_held same_locks knows = (
  at_same own held held' b (redo_lock redo) s.height (same_held (redo_lock redo)) knows.0,
  (let P : LockWords → Type 0 = λ x. RedoKnowledge s own x redo in subst P (sym (same_locks (redo_lock redo) knows.0.holds)) knows.1),
)
knows_same s own held held' locks locks' b (Leaving departure) same_held same_locks knows =
    departure_same s own held held' locks locks' b departure same_held same_locks knows

pub fits_same : (s : Shape) (own : WorkerWords) (held held' : ℕ → ℕ) (locks locks' : ℕ → LockWords) (w : ℕ) (p : Private)
    → ((l : ℕ) → held' l ≡ held l) → ((l : ℕ) → held l ≡ s.height → locks' l ≡ locks l)
    → PrivateInvariant s own held locks w p → PrivateInvariant s own held' locks' w p
fits_same s own held held' locks locks' w p same_held same_locks fits = record {
  is = fits.is;
  shaped = fits.shaped;
  knows = knows_same s own held held' locks locks' p.begun p.stage same_held same_locks fits.knows;
}

-- Two workers that hold all levels of one lock are one worker.
pub one_owner : (s : Shape) (mem : Address → ℕ) (l u w : ℕ) → u < s.workers → w < s.workers
    → held_levels_in s mem u l ≡ s.height → held_levels_in s mem w l ≡ s.height → u ≡ w
one_owner s mem l u w worker_u worker_w holds_u holds_w =
    same_owner (lock_nodes mem l) s.leaves s.height u w s.counted.tree.is_power (omega (arith, s.counted.tree.enough)) (omega (arith, s.counted.tree.enough))
    (held-owns (lock_nodes mem l) s.leaves s.height u holds_u) (held-owns (lock_nodes mem l) s.leaves s.height w holds_w)

-- The owner is the worker that holds all levels, and conversely.
pub owner_of : (s : Shape) (mem : Address → ℕ) (l w : ℕ) → w < s.workers → held_levels_in s mem w l ≡ s.height → owner_in s mem l ≡ Some w
owner_of s mem l w worker holds =
    owner_is (lock_nodes mem l) s.leaves s.height s.workers w s.counted.tree.is_power s.counted.tree.enough worker holds

pub owner_holds_in : (s : Shape) (mem : Address → ℕ) (l w : ℕ) → owner_in s mem l ≡ Some w → (w < s.workers) × (held_levels_in s mem w l ≡ s.height)
owner_holds_in s mem l w owns = owner_holds (lock_nodes mem l) s.leaves s.height s.workers w owns

-- Of the levels held, an account only says that they are in the worker's current lock.
account_moved : (s : Shape) (own : WorkerWords) (held held' : ℕ → ℕ) (es : List Entry) (w : ℕ)
    → ((l : ℕ) → l < s.locks → 0 < held' l → (0 < own.begun) × (current_lock own ≡ l)) → WorkerInvariant s own held es w → WorkerInvariant s own held' es w
account_moved s own held held' es w stake account = record {
  done = account.done;
  begun = account.begun;
  few = account.few;
  stake = stake;
  slate = account.slate;
  numbered = account.numbered;
  withdrawn = account.withdrawn;
  receipt = account.receipt;
  blank = account.blank;
}

pub account_same : (s : Shape) (own : WorkerWords) (held held' : ℕ → ℕ) (es : List Entry) (w : ℕ) → ((l : ℕ) → held' l ≡ held l)
    → WorkerInvariant s own held es w → WorkerInvariant s own held' es w
account_same s own held held' es w same account = account_moved s own held held' es w (λ l lock some. account.stake l lock (omega (arith, same l))) account

-- A lock's clauses depend only on its own words, its owner, and the owner's words.
pub stands_same : (s : Shape) (lock lock' : LockWords) (es : List Entry) (l : ℕ) (owner owner' : Option ℕ) (owns owns' : ℕ → WorkerWords)
    → lock' ≡ lock → owner' ≡ owner → ((u : ℕ) → owner ≡ Some u → owns' u ≡ owns u)
    → LockInvariant s lock es l owner owns → LockInvariant s lock' es l owner' owns'
stands_same s lock lock' es l owner owner' owns owns' lock_is owner_is_same owns_are stands =
    let P : LockWords → Type 0 = λ x. LockInvariant s x es l owner' owns' in
    let Q : Option ℕ → Type 0 = λ o. LockInvariant s lock es l o owns' in
    subst P (sym lock_is) (subst Q (sym owner_is_same) (of_owner owner owns_are stands))
  where
    of_owner : (o : Option ℕ) → ((u : ℕ) → o ≡ Some u → owns' u ≡ owns u) → LockInvariant s lock es l o owns → LockInvariant s lock es l o owns'
    of_owner None same stands = stands
    of_owner (Some u) same stands =
        let R : WorkerWords → Type 0 = λ own. OwnedLockInvariant s lock es l record { worker = u; words = own } (is_pending own) in subst R (sym (same u refl)) stands

-- The private state of worker `w` is the new one, and that of every other worker is unchanged.
fits_each : (s : Shape) (mem mem' : Address → ℕ) (privs privs' : Privates) (w : ℕ) (p : Option Private) → PrivateChange privs privs' w p
    → ((u : ℕ) (q : Private) → u < s.workers → u ≢ w → privs u ≡ Some q → PrivateInvariant s (worker_words mem' u) (held_levels_in s mem' u) (lock_words s mem') u q)
    → ((q : Private) → p ≡ Some q → PrivateInvariant s (worker_words mem' w) (held_levels_in s mem' w) (lock_words s mem') w q)
    → (u : ℕ) (q : Private) → u < s.workers → privs' u ≡ Some q → PrivateInvariant s (worker_words mem' u) (held_levels_in s mem' u) (lock_words s mem') u q
fits_each s mem mem' privs privs' w p became others self u q worker up =
    elim (cases_eq u w) [
      | inl same ↦
          (let P : ℕ → Type 0 = λ u. PrivateInvariant s (worker_words mem' u) (held_levels_in s mem' u) (lock_words s mem') u q in
          subst P (sym same) (self q (sym became.at ∙ ap privs' (sym same) ∙ up)))
      | inr apart ↦ others u q worker apart (sym (became.off u apart) ∙ up)
    ]

-- A load changes only the private state.
pub private_kept : (s : Shape) (mem : Address → ℕ) (privs privs' : Privates) (es : List Entry) (w : ℕ) (p : Option Private)
    → Invariant s mem privs es → PrivateChange privs privs' w p
    → ((q : Private) → p ≡ Some q → PrivateInvariant s (worker_words mem w) (held_levels_in s mem w) (lock_words s mem) w q)
    → Invariant s mem privs' es
private_kept s mem privs privs' es w p fact became fits = record {
  rooted = fact.rooted;
  accounts = fact.accounts;
  fits = fits_each s mem mem privs privs' w p became (λ u q worker apart up. fact.fits u q worker up) fits;
  stands = fact.stands;
  legal = fact.legal;
}

-- A store into one of the worker's own words.
module _ (s : Shape) (mem mem' : Address → ℕ) (privs privs' : Privates) (es : List Entry) (w : ℕ) (p : Option Private) (new : WorkerWords)
    (fact : Invariant s mem privs es) (worker : w < s.workers) (move : OwnMove s mem mem' w new) (became : PrivateChange privs privs' w p) where
  own_accounts : (es' : List Entry) → WorkerInvariant s new (held_levels_in s mem w) es' w
      → ((u : ℕ) → u < s.workers → u ≢ w → WorkerInvariant s (worker_words mem u) (held_levels_in s mem u) es' u)
      → (u : ℕ) → u < s.workers → WorkerInvariant s (worker_words mem' u) (held_levels_in s mem' u) es' u
  own_accounts es' account others u is_worker =
      elim (cases_eq u w) [
        | inl same ↦
            (let P : ℕ → Type 0 = λ u. WorkerInvariant s (worker_words mem' u) (held_levels_in s mem' u) es' u in
            let Q : WorkerWords → Type 0 = λ own. WorkerInvariant s own (held_levels_in s mem' w) es' w in
            subst P (sym same) (subst Q (sym move.own) (account_same s new _ _ es' w (move.trees.held w) account)))
        | inr apart ↦
            (let Q : WorkerWords → Type 0 = λ own. WorkerInvariant s own (held_levels_in s mem' u) es' u in
            subst Q (sym (move.others u apart)) (account_same s _ _ _ es' u (move.trees.held u) (others u is_worker apart)))
      ]

  own_fits : ((q : Private) → p ≡ Some q → PrivateInvariant s new (held_levels_in s mem w) (lock_words s mem) w q)
      → (u : ℕ) (q : Private) → u < s.workers → privs' u ≡ Some q → PrivateInvariant s (worker_words mem' u) (held_levels_in s mem' u) (lock_words s mem') u q
  own_fits fits = fits_each s mem mem' privs privs' w p became
      (λ u q is_worker apart up.
      let Q : WorkerWords → Type 0 = λ own. PrivateInvariant s own (held_levels_in s mem' u) (lock_words s mem') u q in
      subst Q (sym (move.others u apart)) (fits_same s _ _ _ _ _ u q (move.trees.held u) (λ l _. move.locks l) (fact.fits u q is_worker up)))
      (λ q is.
      let Q : WorkerWords → Type 0 = λ own. PrivateInvariant s own (held_levels_in s mem' w) (lock_words s mem') w q in
      subst Q (sym move.own) (fits_same s _ _ _ _ _ w q (move.trees.held w) (λ l _. move.locks l) (fits q is)))

  -- A lock that `w` owns, and one that it does not own.
  own_stands_own : (es' : List Entry) (l : ℕ) → held_levels_in s mem w l ≡ s.height
      → OwnedLockInvariant s (lock_words s mem l) es' l record { worker = w; words = new } (is_pending new) → LockInvariant s (lock_words s mem' l) es' l (owner_in s mem' l) (worker_words mem')
  own_stands_own es' l holds stands =
      let P : WorkerWords → Type 0 = λ own. OwnedLockInvariant s (lock_words s mem l) es' l record { worker = w; words = own } (is_pending own) in
      stands_same s _ _ es' l (Some w) _ (worker_words mem') (worker_words mem') (move.locks l) (move.trees.owner l ∙ owner_of s mem l w worker holds) (λ u _. refl)
      (subst P (sym move.own) stands)

  own_stands_other : (es' : List Entry) (l : ℕ) → held_levels_in s mem w l ≢ s.height
      → LockInvariant s (lock_words s mem l) es' l (owner_in s mem l) (worker_words mem) → LockInvariant s (lock_words s mem' l) es' l (owner_in s mem' l) (worker_words mem')
  own_stands_other es' l less stands =
      stands_same s _ _ es' l _ _ (worker_words mem) (worker_words mem') (move.locks l) (move.trees.owner l)
      (λ u owns. move.others u (λ same. less (ap (λ (v : ℕ). held_levels_in s mem v l) (sym same) ∙ (owner_holds_in s mem l u owns).1))) stands

  pub own_kept : WorkerInvariant s new (held_levels_in s mem w) es w
      → ((q : Private) → p ≡ Some q → PrivateInvariant s new (held_levels_in s mem w) (lock_words s mem) w q)
      → ((l : ℕ) → l < s.locks → held_levels_in s mem w l ≡ s.height → OwnedLockInvariant s (lock_words s mem l) es l record { worker = w; words = new } (is_pending new))
      → Invariant s mem' privs' es
  own_kept account fits stands = record {
    rooted = λ l lock. move.trees.rooted l (fact.rooted l lock);
    accounts = own_accounts es account (λ u is_worker _. fact.accounts u is_worker);
    fits = own_fits fits;
    stands = λ l lock. elim (cases_eq (held_levels_in s mem w l) s.height) [
      | inl holds ↦ own_stands_own es l holds (stands l lock holds)
      | inr less ↦ own_stands_other es l less (fact.stands l lock)
    ];
    legal = fact.legal;
  }

-- An entry changes neither the account of another worker nor the clauses of another lock.
account_grown : (s : Shape) (own : WorkerWords) (held : ℕ → ℕ) (es : List Entry) (u : ℕ) (e : Entry) → e.receipt.worker ≢ u
    → WorkerInvariant s own held es u → WorkerInvariant s own held (es ++ e ∷ []) u
account_grown s own held es u e off account = record {
  done = account.done;
  begun = account.begun;
  few = account.few;
  stake = account.stake;
  slate = account.slate;
  numbered = let P : List ℕ → Type 0 = λ ks. NumbersRise 0 own.done ks in subst P (sym (numbers_other es e u off)) account.numbered;
  withdrawn = λ past some at.
      let was : IsWithdrawnNumber s own es u = account.withdrawn past some at in
      record { no_entry = entry_other es e u own.done off ∙ was.no_entry; reply = was.reply; at = was.at };
  receipt = λ past some at.
      let was : IsLastReceiptWords own es u = account.receipt past some at in
      record {
        last = was.last;
        found = last_by_other es e u off ∙ was.found;
        number = was.number;
        reply = was.reply;
        place = was.place;
        at = was.at;
      };
  blank = account.blank;
}

module _ (s : Shape) (lock : LockWords) (es : List Entry) (k : ℕ) (e : Entry) (off : e.receipt.lock ≢ k) where
  -- The row and the place of another lock are unchanged.
  grown : (P : List ℕ → ℕ → Type 0) → P (lock_row s es k) (place_of es k) → P (lock_row s (es ++ e ∷ []) k) (place_of (es ++ e ∷ []) k)
  grown P was =
      let Q : List ℕ → Type 0 = λ row. P row (place_of (es ++ e ∷ []) k) in
      let R : ℕ → Type 0 = λ place. P (lock_row s es k) place in
      subst Q (sym (row_other _ es e k off)) (subst R (sym (place_other es e k off)) was)

  owned_grown : (u : ℕ) (own : WorkerWords) (pending : Bool) → OwnedLockInvariant s lock es k record { worker = u; words = own } pending → OwnedLockInvariant s lock (es ++ e ∷ []) k record { worker = u; words = own } pending
  owned_grown u own true stands = grown (λ row place. IsSettledLock lock row place ⊎ IsLoggedLock s lock row place (slate_job own).script) stands
  owned_grown u own false stands = (
    stands.0,
    record { found = last_at_other es e k off ∙ stands.1.found; by = stands.1.by; under = stands.1.under },
    grown (λ row place. IsSettledLock lock row place ⊎ IsFinishedLock s lock row place stands.0) stands.2,
  )

  stands_grown : (owner : Option ℕ) (owns : ℕ → WorkerWords) → LockInvariant s lock es k owner owns → LockInvariant s lock (es ++ e ∷ []) k owner owns
  stands_grown None owns stands = grown (λ row place. IsSettledLock lock row place) stands
  stands_grown (Some u) owns stands = owned_grown u (owns u) (is_pending (owns u)) stands

-- The store that ends a section: the history grows by an entry of the worker, for the lock that it owns.
pub finish_kept : (s : Shape) (mem mem' : Address → ℕ) (privs privs' : Privates) (es : List Entry) (w l : ℕ) (p : Option Private) (new : WorkerWords) (e : Entry)
    → Invariant s mem privs es → w < s.workers → l < s.locks → held_levels_in s mem w l ≡ s.height → OwnMove s mem mem' w new → PrivateChange privs privs' w p
    → e.receipt.worker ≡ w → e.receipt.lock ≡ l → IsLegalNextEntry s es e
    → WorkerInvariant s new (held_levels_in s mem w) (es ++ e ∷ []) w
    → ((q : Private) → p ≡ Some q → PrivateInvariant s new (held_levels_in s mem w) (lock_words s mem) w q)
    → OwnedLockInvariant s (lock_words s mem l) (es ++ e ∷ []) l record { worker = w; words = new } (is_pending new)
    → Invariant s mem' privs' (es ++ e ∷ [])
finish_kept s mem mem' privs privs' es w l p new e fact worker lock holds move became by at due account fits stands = record {
  rooted = λ k is_lock. move.trees.rooted k (fact.rooted k is_lock);
  accounts = own_accounts s mem mem' privs privs' es w p new fact worker move became (es ++ e ∷ []) account
      (λ u is_worker apart. account_grown s _ _ es u e (λ same. apart (sym same ∙ by)) (fact.accounts u is_worker));
  fits = own_fits s mem mem' privs privs' es w p new fact worker move became fits;
  stands = λ k is_lock. elim (cases_eq k l) [
    | inl same ↦
        (let P : ℕ → Type 0 = λ k. LockInvariant s (lock_words s mem' k) (es ++ e ∷ []) k (owner_in s mem' k) (worker_words mem') in
        subst P (sym same) (own_stands_own s mem mem' privs privs' es w p new fact worker move became (es ++ e ∷ []) l holds stands))
    | inr apart ↦
        own_stands_other s mem mem' privs privs' es w p new fact worker move became (es ++ e ∷ []) k (elsewhere k is_lock apart)
        (stands_grown s (lock_words s mem k) es k e (λ same. apart (sym same ∙ at)) (owner_in s mem k) (worker_words mem) (fact.stands k is_lock))
  ];
  legal = legal_more s es e fact.legal due;
}
  where
    -- The worker holds nodes of only one lock.
    elsewhere : (k : ℕ) → k < s.locks → k ≢ l → held_levels_in s mem w k ≢ s.height
    elsewhere k is_lock apart top =
        let mine : WorkerInvariant s (worker_words mem w) (held_levels_in s mem w) es w = fact.accounts w worker in
        apart (sym (mine.stake k is_lock (omega (arith, top, s.counted.tree.some_level))).1
        ∙ (mine.stake l lock (omega (arith, holds, s.counted.tree.some_level))).1)

-- A store into a word of a lock that the worker owns.
module _ (s : Shape) (mem mem' : Address → ℕ) (privs privs' : Privates) (es : List Entry) (w l : ℕ) (p : Option Private) (new : LockWords)
    (fact : Invariant s mem privs es) (worker : w < s.workers) (lock : l < s.locks) (holds : held_levels_in s mem w l ≡ s.height)
    (move : LockMove s mem mem' l new) (became : PrivateChange privs privs' w p) where
  -- Another worker does not wholly hold a lock of which a word changed.
  lock_apart : (u k : ℕ) → u < s.workers → u ≢ w → held_levels_in s mem u k ≡ s.height → lock_words s mem' k ≡ lock_words s mem k
  lock_apart u k is_worker apart top = move.others k (λ same.
      apart (one_owner s mem l u w is_worker worker (ap (λ (j : ℕ). held_levels_in s mem u j) (sym same) ∙ top) holds))

  lock_fits : ((q : Private) → p ≡ Some q → (locks : ℕ → LockWords) → locks l ≡ new → PrivateInvariant s (worker_words mem w) (held_levels_in s mem w) locks w q)
      → (u : ℕ) (q : Private) → u < s.workers → privs' u ≡ Some q → PrivateInvariant s (worker_words mem' u) (held_levels_in s mem' u) (lock_words s mem') u q
  lock_fits fits = fits_each s mem mem' privs privs' w p became
      (λ u q is_worker apart up.
      let Q : WorkerWords → Type 0 = λ own. PrivateInvariant s own (held_levels_in s mem' u) (lock_words s mem') u q in
      subst Q (sym (move.owns u)) (fits_same s _ _ _ _ _ u q (move.trees.held u) (λ k top. lock_apart u k is_worker apart top) (fact.fits u q is_worker up)))
      (λ q is.
      let Q : WorkerWords → Type 0 = λ own. PrivateInvariant s own (held_levels_in s mem' w) (lock_words s mem') w q in
      subst Q (sym (move.owns w)) (fits_same s _ _ _ _ _ w q (move.trees.held w) (λ k _. refl) (fits q is (lock_words s mem') move.lock)))

  pub lock_kept : ((q : Private) → p ≡ Some q → (locks : ℕ → LockWords) → locks l ≡ new → PrivateInvariant s (worker_words mem w) (held_levels_in s mem w) locks w q)
      → OwnedLockInvariant s new es l record { worker = w; words = worker_words mem w } (is_pending (worker_words mem w))
      → Invariant s mem' privs' es
  lock_kept fits stands = record {
    rooted = λ k is_lock. move.trees.rooted k (fact.rooted k is_lock);
    accounts = λ u is_worker.
        let Q : WorkerWords → Type 0 = λ own. WorkerInvariant s own (held_levels_in s mem' u) es u in
        subst Q (sym (move.owns u)) (account_same s _ _ _ es u (move.trees.held u) (fact.accounts u is_worker));
    fits = lock_fits fits;
    stands = λ k is_lock. elim (cases_eq k l) [
      | inl same ↦
          (let P : ℕ → Type 0 = λ k. LockInvariant s (lock_words s mem' k) es k (owner_in s mem' k) (worker_words mem') in
          subst P (sym same) (stands_same s new _ es l (Some w) _ (worker_words mem) (worker_words mem') move.lock
          (move.trees.owner l ∙ owner_of s mem l w worker holds) (λ u _. move.owns u) stands))
      | inr apart ↦
          stands_same s _ _ es k _ _ (worker_words mem) (worker_words mem') (move.others k apart) (move.trees.owner k) (λ u _. move.owns u) (fact.stands k is_lock)
    ];
    legal = fact.legal;
  }

-- A change of a node of the worker's path. The number of levels held decides the new owner of the lock.
module _ (s : Shape) (mem mem' : Address → ℕ) (privs privs' : Privates) (es : List Entry) (w l levels : ℕ) (p : Option Private)
    (fact : Invariant s mem privs es) (worker : w < s.workers) (lock : l < s.locks) (move : NodeMove s mem mem' l w levels) (became : PrivateChange privs privs' w p) where
  node_stake : (0 < levels → (0 < (worker_words mem w).begun) × (current_lock (worker_words mem w) ≡ l))
      → (k : ℕ) → k < s.locks → 0 < held_levels_in s mem' w k → (0 < (worker_words mem w).begun) × (current_lock (worker_words mem w) ≡ k)
  node_stake stake k is_lock some =
      elim (cases_eq k l) [
        | inl same ↦
            (let P : ℕ → Type 0 = λ k. 0 < held_levels_in s mem' w k → (0 < (worker_words mem w).begun) × (current_lock (worker_words mem w) ≡ k) in
            subst P (sym same) (λ (here : 0 < held_levels_in s mem' w l). stake (omega (arith, here, move.self))) some)
        | inr off ↦ (fact.accounts w worker).stake k is_lock (omega (arith, some, move.elsewhere w k off))
      ]

  node_accounts : (0 < levels → (0 < (worker_words mem w).begun) × (current_lock (worker_words mem w) ≡ l))
      → (u : ℕ) → u < s.workers → WorkerInvariant s (worker_words mem' u) (held_levels_in s mem' u) es u
  node_accounts stake u is_worker =
      let Q : WorkerWords → Type 0 = λ own. WorkerInvariant s own (held_levels_in s mem' u) es u in
      subst Q (sym (move.owns u)) (elim (cases_eq u w) [
        | inl same ↦
            (let P : ℕ → Type 0 = λ u. WorkerInvariant s (worker_words mem u) (held_levels_in s mem' u) es u in
            subst P (sym same) (account_moved s _ _ _ es w (node_stake stake) (fact.accounts w worker)))
        | inr apart ↦ account_same s _ _ _ es u (λ k. held_others s mem mem' l w levels move u k is_worker apart) (fact.accounts u is_worker)
      ])

  node_fits : ((q : Private) → p ≡ Some q → (held : ℕ → ℕ) → held l ≡ levels → ((k : ℕ) → k ≢ l → held k ≡ held_levels_in s mem w k)
      → PrivateInvariant s (worker_words mem w) held (lock_words s mem) w q)
      → (u : ℕ) (q : Private) → u < s.workers → privs' u ≡ Some q → PrivateInvariant s (worker_words mem' u) (held_levels_in s mem' u) (lock_words s mem') u q
  node_fits fits = fits_each s mem mem' privs privs' w p became
      (λ u q is_worker apart up.
      let Q : WorkerWords → Type 0 = λ own. PrivateInvariant s own (held_levels_in s mem' u) (lock_words s mem') u q in
      subst Q (sym (move.owns u)) (fits_same s _ _ _ _ _ u q (λ k. held_others s mem mem' l w levels move u k is_worker apart) (λ k _. move.locks k) (fact.fits u q is_worker up)))
      (λ q is.
      let Q : WorkerWords → Type 0 = λ own. PrivateInvariant s own (held_levels_in s mem' w) (lock_words s mem') w q in
      subst Q (sym (move.owns w)) (fits_same s _ _ _ _ _ w q (λ k. refl) (λ k _. move.locks k) (fits q is (held_levels_in s mem' w) move.self (move.elsewhere w))))

  pub node_kept : (0 < levels → (0 < (worker_words mem w).begun) × (current_lock (worker_words mem w) ≡ l))
      → ((q : Private) → p ≡ Some q → (held : ℕ → ℕ) → held l ≡ levels → ((k : ℕ) → k ≢ l → held k ≡ held_levels_in s mem w k)
      → PrivateInvariant s (worker_words mem w) held (lock_words s mem) w q)
      → LockInvariant s (lock_words s mem l) es l (owner_in s mem' l) (worker_words mem)
      → Invariant s mem' privs' es
  node_kept stake fits stands = record {
    rooted = λ k is_lock. move.rooted k is_lock (fact.rooted k is_lock);
    accounts = node_accounts stake;
    fits = node_fits fits;
    stands = λ k is_lock. elim (cases_eq k l) [
      | inl same ↦
          (let P : ℕ → Type 0 = λ k. LockInvariant s (lock_words s mem' k) es k (owner_in s mem' k) (worker_words mem') in
          subst P (sym same) (stands_same s _ _ es l _ _ (worker_words mem) (worker_words mem') (move.locks l) refl (λ u _. move.owns u) stands))
      | inr apart ↦
          stands_same s _ _ es k _ _ (worker_words mem) (worker_words mem') (move.locks k) (move.owner_elsewhere k apart) (λ u _. move.owns u) (fact.stands k is_lock)
    ];
    legal = fact.legal;
  }
