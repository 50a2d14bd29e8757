-- The quiet steps of a worker inside its section: a load, a store into a word of its lock, and a store into an own
-- word.
use Rattle.std.proofs.Common.{◌≡◌, ℕ, zero, suc, ◌%◌, ◌<◌, ◌≤◌, List, refl, sym, ◌∙◌, ap, subst, inl, inr, arith}
use Rattle.std.specs.Prelude.{Bool, true, Option, Some, ◌⊎◌, ◌==◌, is_some}
use Rattle.std.proofs.lemmas.Bool.{both_ways, ltb-true}
use Rattle.std.proofs.lemmas.Option.{same_Some}
use Rattle.rme_tree.specs.Paths.{first_number_passing}
use Rattle.rme_words.specs.declared.shape.Shape.{Shape}
use Rattle.rme_words.specs.declared.address.Address.{Address}
use Rattle.rme_tree.specs.Nodes.{held_levels_in, owner_in}
use Rattle.rme_script.specs.declared.job.Job.{Job}
use Rattle.rme_program.specs.declared.note.Entry.{Entry}
use Rattle.rme_program.specs.declared.private.Private.{Private}
use Rattle.rme_program.specs.declared.stage.Stage.{Stage}
use Rattle.rme_program.specs.declared.stage.Stage.TheVariants.{Logging, Copying}
use Rattle.rme_program.specs.declared.stage.Log.{Log}
use Rattle.rme_program.specs.declared.stage.Redo.{Redo}
use Rattle.rme_program.specs.Conditions.{IsLogStage, IsRedoStage}
use Rattle.rme_machine.specs.declared.label.Act.TheVariants.{Still}
use Rattle.rme_machine.specs.Histories.{place_of, lock_row, last_entry_of_worker, withdrawn_numbers}
use Rattle.rme_machine.specs.Views.{WorkerWords, LockWords, worker_words, lock_words, is_pending, current_lock, slate_job}
use Rattle.rme_machine.specs.Knowledge.{PrivateInvariant, IsPendingAt, LogKnowledge, RedoKnowledge, log_lock, redo_lock}
use Rattle.rme_machine.specs.Invariant.{Invariant, WorkerInvariant, LockInvariant, OwnedLockInvariant, SlateHasJob, IsSettledLock, IsLoggedLock}
use Rattle.rme_machine.specs.AbstractState.{Privates, abstract_worker, lock_owned_by_worker, abstract_worker_by, is_in_section_or_exit, last_entry_job}
use Rattle.rme_machine.specs.Changes.{PrivateChange}
use Rattle.rme_machine.specs.Laws.{RefinementStep, concrete_state}
use Rattle.rme_machine.proofs.Moves.{OwnMove, LockMove}
use Rattle.rme_machine.proofs.Kept.{owner_of, private_kept, own_kept, lock_kept}
use Rattle.rme_machine.proofs.Shows.{Frame, owned_at, load_frame, own_frame, lock_frame, shown_me, shown_still}

-- The worker owns the lock, and its job is pending.
pub record Owner (s : Shape) (own : WorkerWords) (held : ℕ → ℕ) (w b l : ℕ) : Type 0 where
  pub worker : w < s.workers
  pub few : b ≤ s.jobs
  pub lock : l < s.locks
  pub at : IsPendingAt own held b l s.height

-- A stage of the section, with the private invariant of the worker.
pub record Inside (s : Shape) (own : WorkerWords) (held : ℕ → ℕ) (locks : ℕ → LockWords) (w b : ℕ) (stage : Stage) : Type 0 where
  pub fits : PrivateInvariant s own held locks w record { worker = w; begun = b; stage = stage }
  pub inside : is_in_section_or_exit (Some record { worker = w; begun = b; stage = stage }) ≡ true

pub logs : (s : Shape) (own : WorkerWords) (held : ℕ → ℕ) (locks : ℕ → LockWords) (w b : ℕ) (log : Log) (lock : LockWords)
    → Owner s own held w b (log_lock log) → IsLogStage s log → locks (log_lock log) ≡ lock → LogKnowledge s own lock log → Inside s own held locks w b (Logging log)
logs s own held locks w b log lock owner shaped is knows = record {
  fits = record {
    is = refl;
    shaped = record { worker = owner.worker; begun = owner.few; stage = shaped };
    knows = (owner.at, subst (λ (words : LockWords). LogKnowledge s own words log) (sym is) knows);
  };
  inside = refl;
}

pub copies : (s : Shape) (own : WorkerWords) (held : ℕ → ℕ) (locks : ℕ → LockWords) (w b : ℕ) (redo : Redo) (lock : LockWords)
    → Owner s own held w b (redo_lock redo) → IsRedoStage s redo → locks (redo_lock redo) ≡ lock → RedoKnowledge s own lock redo → Inside s own held locks w b (Copying redo)
copies s own held locks w b redo lock owner shaped is knows = record {
  fits = record {
    is = refl;
    shaped = record { worker = owner.worker; begun = owner.few; stage = shaped };
    knows = (owner.at, subst (λ (words : LockWords). RedoKnowledge s own words redo) (sym is) knows);
  };
  inside = refl;
}

-- The clause of the lock, by its turn.
stands_pending : (s : Shape) (mem : Address → ℕ) (privs : Privates) (es : List Entry) (w l : ℕ) → Invariant s mem privs es → w < s.workers → l < s.locks
    → held_levels_in s mem w l ≡ s.height → is_pending (worker_words mem w) ≡ true
    → IsSettledLock (lock_words s mem l) (lock_row s es l) (place_of es l)
    ⊎ IsLoggedLock s (lock_words s mem l) (lock_row s es l) (place_of es l) (slate_job (worker_words mem w)).script
stands_pending s mem privs es w l fact worker lock holds pending =
    subst (λ (t : Bool). OwnedLockInvariant s (lock_words s mem l) es l record { worker = w; words = worker_words mem w } t) pending
    (subst (λ (o : Option ℕ). LockInvariant s (lock_words s mem l) es l o (worker_words mem)) (owner_of s mem l w worker holds) (fact.stands l lock))

pub stands_inside : (s : Shape) (mem : Address → ℕ) (privs : Privates) (es : List Entry) (w b l : ℕ) → Invariant s mem privs es
    → Owner s (worker_words mem w) (held_levels_in s mem w) w b l
    → IsSettledLock (lock_words s mem l) (lock_row s es l) (place_of es l)
    ⊎ IsLoggedLock s (lock_words s mem l) (lock_row s es l) (place_of es l) (slate_job (worker_words mem w)).script
stands_inside s mem privs es w b l fact owner = stands_pending s mem privs es w l fact owner.worker owner.lock owner.at.holds owner.at.pending

pub stands_even : (s : Shape) (mem : Address → ℕ) (privs : Privates) (es : List Entry) (w b l : ℕ) → Invariant s mem privs es
    → Owner s (worker_words mem w) (held_levels_in s mem w) w b l → (lock_words s mem l).turn % 2 ≡ 0
    → IsSettledLock (lock_words s mem l) (lock_row s es l) (place_of es l)
stands_even s mem privs es w b l fact owner even = elim (stands_inside s mem privs es w b l fact owner) [
  | inl settled ↦ settled
  | inr logged ↦ let turn = logged.turn in absurd (omega (arith, turn, even))
]

pub stands_odd : (s : Shape) (mem : Address → ℕ) (privs : Privates) (es : List Entry) (w b l : ℕ) → Invariant s mem privs es
    → Owner s (worker_words mem w) (held_levels_in s mem w) w b l → (lock_words s mem l).turn % 2 ≡ 1
    → IsLoggedLock s (lock_words s mem l) (lock_row s es l) (place_of es l) (slate_job (worker_words mem w)).script
stands_odd s mem privs es w b l fact owner odd = elim (stands_inside s mem privs es w b l fact owner) [
  | inl settled ↦ let turn = settled.turn in absurd (omega (arith, turn, odd))
  | inr logged ↦ logged
]

-- The abstract state of an owner inside depends neither on its stage nor on the words of its receipt.
same_inside : (l : ℕ) (owned : Option ℕ) (own new : WorkerWords) (before after : Option Private) (last : Job) (withdrawn : List ℕ)
    → owned ≡ Some l → is_pending own ≡ true → is_pending new ≡ true → new.begun ≡ own.begun → slate_job new ≡ slate_job own
    → is_some after ≡ is_some before → is_in_section_or_exit after ≡ is_in_section_or_exit before
    → abstract_worker_by owned new after last withdrawn ≡ abstract_worker_by owned own before last withdrawn
same_inside l owned own new before after last withdrawn owns pending pending_new begun job up inside =
    rw (owns, pending, pending_new, begun, job, up, inside) refl

module _ (s : Shape) (mem mem' : Address → ℕ) (privs privs' : Privates) (es : List Entry) (w b l : ℕ) (p : Private) (stage : Stage) where
  -- The abstraction is unchanged, so the machine's step is `Still`.
  still : Invariant s mem privs es → Invariant s mem' privs' es → Frame s mem mem' privs privs' es es w
      → Owner s (worker_words mem w) (held_levels_in s mem w) w b l → privs w ≡ Some p → is_in_section_or_exit (Some p) ≡ true
      → PrivateChange privs privs' w (Some record { worker = w; begun = b; stage = stage })
      → is_in_section_or_exit (Some record { worker = w; begun = b; stage = stage }) ≡ true
      → ((k : ℕ) → owner_in s mem' k ≡ owner_in s mem k) → lock_owned_by_worker s mem' w ≡ lock_owned_by_worker s mem w
      → is_pending (worker_words mem' w) ≡ true → (worker_words mem' w).begun ≡ (worker_words mem w).begun
      → (worker_words mem' w).done ≡ (worker_words mem w).done → slate_job (worker_words mem' w) ≡ slate_job (worker_words mem w)
      → RefinementStep s (concrete_state mem privs es) (concrete_state mem' privs' es) w Still
  still fact kept frame owner was inside became inside' owners owned pending begun done job =
      let last : Job = last_entry_job (last_entry_of_worker es w) in
      let withdrawn : List ℕ = withdrawn_numbers es w (worker_words mem w).done in
      let up : is_some (privs' w) ≡ is_some (privs w) = rw (became.at, was) refl in
      let stays : is_in_section_or_exit (privs' w) ≡ is_in_section_or_exit (privs w) = ap is_in_section_or_exit became.at ∙ inside' ∙ sym inside ∙ ap is_in_section_or_exit (sym was) in
      let me : abstract_worker s mem' privs' es w ≡ abstract_worker s mem privs es w =
      ap (λ (o : Option ℕ). abstract_worker_by o (worker_words mem' w) (privs' w) last (withdrawn_numbers es w (worker_words mem' w).done)) owned
      ∙ ap (λ (n : ℕ). abstract_worker_by (lock_owned_by_worker s mem w) (worker_words mem' w) (privs' w) last (withdrawn_numbers es w n)) done
      ∙ same_inside l (lock_owned_by_worker s mem w) (worker_words mem w) (worker_words mem' w) (privs w) (privs' w) last withdrawn
      (owned_at s mem privs es w l fact owner.worker owner.lock owner.at.holds) owner.at.pending pending begun job up stays in (
        kept,
        record {
          me = abstract_worker s mem privs es w;
          is_me = shown_me s mem privs es w owner.worker;
          goes = (ap is_some was, shown_still s mem mem' privs privs' es w owner.worker frame (λ k lock. owners k) me);
        },
      )

-- A worker that holds the same levels in each lock owns the same lock.
pub same_lock : (s : Shape) (mem mem' : Address → ℕ) (w : ℕ) → ((l : ℕ) → held_levels_in s mem' w l ≡ held_levels_in s mem w l) → lock_owned_by_worker s mem' w ≡ lock_owned_by_worker s mem w
same_lock s mem mem' w same = firsts s.locks (λ (l : ℕ). held_levels_in s mem' w l == s.height) (λ (l : ℕ). held_levels_in s mem w l == s.height) (λ l. ap (λ (n : ℕ). n == s.height) (same l))
  where
    firsts : (n : ℕ) (f g : ℕ → Bool) → ((i : ℕ) → f i ≡ g i) → first_number_passing n f ≡ first_number_passing n g
    firsts zero f g agree = refl
    firsts (suc n) f g agree = rw (firsts n f g agree, agree n) refl

-- A load changes only the stage.
pub quiet_load : (s : Shape) (mem : Address → ℕ) (privs privs' : Privates) (es : List Entry) (w b l : ℕ) (p : Private) (stage : Stage)
    → Invariant s mem privs es → Owner s (worker_words mem w) (held_levels_in s mem w) w b l → privs w ≡ Some p → is_in_section_or_exit (Some p) ≡ true
    → PrivateChange privs privs' w (Some record { worker = w; begun = b; stage = stage })
    → Inside s (worker_words mem w) (held_levels_in s mem w) (lock_words s mem) w b stage
    → RefinementStep s (concrete_state mem privs es) (concrete_state mem privs' es) w Still
quiet_load s mem privs privs' es w b l p stage fact owner was inside became next =
    let new : Private = record { worker = w; begun = b; stage = stage } in
    let kept : Invariant s mem privs' es = private_kept s mem privs privs' es w (Some new) fact became
    (λ q same. subst (λ (r : Private). PrivateInvariant s (worker_words mem w) (held_levels_in s mem w) (lock_words s mem) w r) (same_Some new q same) next.fits) in
    still s mem mem privs privs' es w b l p stage fact kept (load_frame s mem privs privs' es w (Some new) became) owner was inside became next.inside
    (λ k. refl) refl owner.at.pending refl refl refl

-- A store into a word of the lock.
pub quiet_lock : (s : Shape) (mem mem' : Address → ℕ) (privs privs' : Privates) (es : List Entry) (w b l : ℕ) (p : Private) (stage : Stage) (new : LockWords)
    → Invariant s mem privs es → Owner s (worker_words mem w) (held_levels_in s mem w) w b l → privs w ≡ Some p → is_in_section_or_exit (Some p) ≡ true
    → PrivateChange privs privs' w (Some record { worker = w; begun = b; stage = stage }) → LockMove s mem mem' l new
    → ((locks : ℕ → LockWords) → locks l ≡ new → Inside s (worker_words mem w) (held_levels_in s mem w) locks w b stage)
    → IsSettledLock new (lock_row s es l) (place_of es l) ⊎ IsLoggedLock s new (lock_row s es l) (place_of es l) (slate_job (worker_words mem w)).script
    → RefinementStep s (concrete_state mem privs es) (concrete_state mem' privs' es) w Still
quiet_lock s mem mem' privs privs' es w b l p stage new fact owner was inside became move next stands =
    let own : WorkerWords = worker_words mem w in
    let later : Private = record { worker = w; begun = b; stage = stage } in
    let owned : OwnedLockInvariant s new es l record { worker = w; words = own } (is_pending own) = subst (λ (t : Bool). OwnedLockInvariant s new es l record { worker = w; words = own } t) (sym owner.at.pending) stands in
    let kept : Invariant s mem' privs' es = lock_kept s mem mem' privs privs' es w l (Some later) new fact owner.worker owner.lock owner.at.holds move became
    (λ q same locks at. subst (λ (r : Private). PrivateInvariant s own (held_levels_in s mem w) locks w r) (same_Some later q same) (next locks at).fits) owned in
    let words : worker_words mem' w ≡ own = move.owns w in
    still s mem mem' privs privs' es w b l p stage fact kept (lock_frame s mem mem' privs privs' es w l (Some later) new move became) owner was inside became
    (next (λ (k : ℕ). new) refl).inside (λ k. move.trees.owner k) (same_lock s mem mem' w (λ k. move.trees.held w k))
    (ap is_pending words ∙ owner.at.pending) (ap (λ (o : WorkerWords). o.begun) words) (ap (λ (o : WorkerWords). o.done) words) (ap slate_job words)

-- Other receipt words do not change the account of a pending job.
abbrev pub with_receipt : WorkerWords → ℕ → ℕ → ℕ → WorkerWords
with_receipt own reply place at = record own { reply = reply; place = place; at = at }

account_pending : (s : Shape) (own : WorkerWords) (held : ℕ → ℕ) (es : List Entry) (w reply place at : ℕ) → is_pending own ≡ true
    → WorkerInvariant s own held es w → WorkerInvariant s (with_receipt own reply place at) held es w
account_pending s own held es w reply place at pending account =
    let later : own.done < own.begun = ltb-true own.done own.begun pending in
    record {
      done = account.done;
      begun = account.begun;
      few = account.few;
      stake = λ l lock holds.
          let stake : (0 < own.begun) × (current_lock own ≡ l) = account.stake l lock holds in
          let site : own.slate_lock ≡ l = sym (site_pending own pending) ∙ stake.1 in
          (stake.0, site_pending (with_receipt own reply place at) pending ∙ site);
      slate = λ t. let job : SlateHasJob s own = account.slate t in record { script = job.script; slate = job.slate; job = job.job };
      numbered = account.numbered;
      withdrawn = λ past. absurd (both_ways (is_pending own) past pending);
      receipt = λ past. absurd (both_ways (is_pending own) past pending);
      blank = λ none. absurd (omega (arith, none, later));
    }
  where
    site_pending : (some : WorkerWords) → is_pending some ≡ true → current_lock some ≡ some.slate_lock
    site_pending some t = rw t refl

-- A store into a word of the worker's receipt.
pub quiet_own : (s : Shape) (mem mem' : Address → ℕ) (privs privs' : Privates) (es : List Entry) (w b l : ℕ) (p : Private) (stage : Stage) (reply place at : ℕ)
    → Invariant s mem privs es → Owner s (worker_words mem w) (held_levels_in s mem w) w b l → privs w ≡ Some p → is_in_section_or_exit (Some p) ≡ true
    → PrivateChange privs privs' w (Some record { worker = w; begun = b; stage = stage })
    → OwnMove s mem mem' w (with_receipt (worker_words mem w) reply place at)
    → Inside s (with_receipt (worker_words mem w) reply place at) (held_levels_in s mem w) (lock_words s mem) w b stage
    → RefinementStep s (concrete_state mem privs es) (concrete_state mem' privs' es) w Still
quiet_own s mem mem' privs privs' es w b l p stage reply place at fact owner was inside became move next =
    let own : WorkerWords = worker_words mem w in
    let new : WorkerWords = with_receipt own reply place at in
    let later : Private = record { worker = w; begun = b; stage = stage } in
    let stands : (k : ℕ) → k < s.locks → held_levels_in s mem w k ≡ s.height → OwnedLockInvariant s (lock_words s mem k) es k record { worker = w; words = new } (is_pending new) = λ k lock holds.
    subst (λ (t : Bool). OwnedLockInvariant s (lock_words s mem k) es k record { worker = w; words = new } t) (sym owner.at.pending)
    (stands_pending s mem privs es w k fact owner.worker lock holds owner.at.pending) in
    let kept : Invariant s mem' privs' es = own_kept s mem mem' privs privs' es w (Some later) new fact owner.worker move became
    (account_pending s own (held_levels_in s mem w) es w reply place at owner.at.pending (fact.accounts w owner.worker))
    (λ q same. subst (λ (r : Private). PrivateInvariant s new (held_levels_in s mem w) (lock_words s mem) w r) (same_Some later q same) next.fits) stands in
    let words : worker_words mem' w ≡ new = move.own in
    still s mem mem' privs privs' es w b l p stage fact kept (own_frame s mem mem' privs privs' es w (Some later) new move became) owner was inside became
    next.inside (λ k. move.trees.owner k) (same_lock s mem mem' w (λ k. move.trees.held w k))
    (ap is_pending words ∙ owner.at.pending) (ap (λ (o : WorkerWords). o.begun) words) (ap (λ (o : WorkerWords). o.done) words) (ap slate_job words)
