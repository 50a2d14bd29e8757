-- How each kind of change affects the abstract state.
use Rattle.std.proofs.Common.{◌≡◌, ◌≢◌, ℕ, ◌<◌, List, refl, sym, ◌∙◌, ap, subst, inl, inr, arith, eqb}
use Rattle.std.proofs.lemmas.Bool.{cases_eq, eqb-true, eq-eqb}
use Rattle.std.specs.Prelude.{true, Option, Some, None, slice_get, slice_set, [], ◌∷◌, ◌++◌}
use Rattle.rme_words.specs.declared.shape.Shape.{Shape}
use Rattle.rme_words.specs.declared.address.Address.{Address}
use Rattle.rme_tree.specs.Nodes.{held_levels_in, owner_in}
use Rattle.rme_program.specs.declared.note.Entry.{Entry}
use Rattle.rme_program.specs.declared.private.Private.{Private}
use Rattle.rme_machine.specs.Histories.{last_entry_of_worker, withdrawn_numbers}
use Rattle.rme_script.specs.declared.job.Job.{Job}
use Rattle.rme_machine.specs.Machine.{MachineState, WorkerState, with_worker, with_owner, with_entry}
use Rattle.rme_machine.specs.Views.{WorkerWords, LockWords, worker_words, current_lock}
use Rattle.rme_machine.specs.AbstractState.{Privates, lock_owned_by_worker, last_entry_job, abstract_worker_by, abstract_worker, abstract_state}
use Rattle.rme_machine.specs.Invariant.{Invariant}
use Rattle.rme_machine.specs.Changes.{PrivateChange}
use Rattle.rme_tree.proofs.Firsts.{first_passes, first_same, first_only, first_fails}
use Rattle.rme_machine.proofs.Historical.{last_by_other, withdrawn_other}
use Rattle.rme_machine.proofs.Lists.{made_same, made_get, made_set}
use Rattle.rme_machine.proofs.Moves.{OwnMove, LockMove, NodeMove, held_others}

-- A worker that holds a node in one lock holds none in any other.
pub holds_one : (s : Shape) (mem : Address → ℕ) (privs : Privates) (es : List Entry) (w l k : ℕ) → Invariant s mem privs es → w < s.workers
    → l < s.locks → k < s.locks → 0 < held_levels_in s mem w l → k ≢ l → held_levels_in s mem w k ≡ 0
holds_one s mem privs es w l k fact worker lock other holds apart =
    elim (cases_eq (held_levels_in s mem w k) 0) [
      | inl nothing ↦ nothing
      | inr some ↦ absurd (apart (sym ((fact.accounts w worker).stake k other (omega (arith, some))).1 ∙ ((fact.accounts w worker).stake l lock holds).1))
    ]

-- A worker that holds no node in its current lock holds none at all.
pub holds_none : (s : Shape) (mem : Address → ℕ) (privs : Privates) (es : List Entry) (w l : ℕ) → Invariant s mem privs es → w < s.workers
    → current_lock (worker_words mem w) ≡ l → held_levels_in s mem w l ≡ 0 → (k : ℕ) → k < s.locks → held_levels_in s mem w k ≡ 0
holds_none s mem privs es w l fact worker site none k other =
    elim (cases_eq (held_levels_in s mem w k) 0) [
      | inl nothing ↦ nothing
      | inr some ↦
          (let there : current_lock (worker_words mem w) ≡ k = ((fact.accounts w worker).stake k other (omega (arith, some))).1 in
          ap (held_levels_in s mem w) (sym there ∙ site) ∙ none)
    ]

-- The lock that a worker owns is the one that it holds wholly; if it holds less it owns none.
pub owned_at : (s : Shape) (mem : Address → ℕ) (privs : Privates) (es : List Entry) (w l : ℕ) → Invariant s mem privs es → w < s.workers
    → l < s.locks → held_levels_in s mem w l ≡ s.height → lock_owned_by_worker s mem w ≡ Some l
owned_at s mem privs es w l fact worker lock holds =
    first_only s.locks _ l lock (eq-eqb _ _ holds)
    (λ k other passes. elim (cases_eq k l) [
      | inl same ↦ same
      | inr apart ↦
          (let whole : held_levels_in s mem w k ≡ s.height = eqb-true _ _ passes in
          let none : held_levels_in s mem w k ≡ 0 = holds_one s mem privs es w l k fact worker lock other (omega (arith, holds, s.counted.tree.some_level)) apart in
          absurd (omega (arith, whole, none, s.counted.tree.some_level)))
    ])

pub owned_none : (s : Shape) (mem : Address → ℕ) (w : ℕ) → ((l : ℕ) → l < s.locks → held_levels_in s mem w l ≢ s.height) → lock_owned_by_worker s mem w ≡ None
owned_none s mem w less = first_fails s.locks _ (λ k other passes. less k other (eqb-true _ _ passes))

-- A worker that holds fewer than all levels of its current lock owns no lock.
pub owned_below : (s : Shape) (mem : Address → ℕ) (privs : Privates) (es : List Entry) (w l : ℕ) → Invariant s mem privs es → w < s.workers
    → l < s.locks → 0 < held_levels_in s mem w l → held_levels_in s mem w l < s.height → lock_owned_by_worker s mem w ≡ None
owned_below s mem privs es w l fact worker lock some less =
    owned_none s mem w (λ k other whole. elim (cases_eq k l) [
      | inl same ↦ (let here : held_levels_in s mem w l ≡ s.height = ap (held_levels_in s mem w) (sym same) ∙ whole in omega (arith, here))
      | inr apart ↦
          (let none : held_levels_in s mem w k ≡ 0 = holds_one s mem privs es w l k fact worker lock other some apart in
          omega (arith, whole, none, s.counted.tree.some_level))
    ])

-- The same for the current lock, also if the worker holds nothing.
pub owned_site : (s : Shape) (mem : Address → ℕ) (privs : Privates) (es : List Entry) (w l : ℕ) → Invariant s mem privs es → w < s.workers
    → current_lock (worker_words mem w) ≡ l → held_levels_in s mem w l < s.height → lock_owned_by_worker s mem w ≡ None
owned_site s mem privs es w l fact worker site less =
    owned_none s mem w (λ k other whole.
    let there : current_lock (worker_words mem w) ≡ k = ((fact.accounts w worker).stake k other (omega (arith, whole, s.counted.tree.some_level))).1 in
    let here : held_levels_in s mem w l ≡ s.height = ap (held_levels_in s mem w) (sym site ∙ there) ∙ whole in
    omega (arith, here))

-- The converse.
pub owned_holds : (s : Shape) (mem : Address → ℕ) (w l : ℕ) → lock_owned_by_worker s mem w ≡ Some l → (l < s.locks) × (held_levels_in s mem w l ≡ s.height)
owned_holds s mem w l owned =
    let at : (l < s.locks) × (eqb (held_levels_in s mem w l) s.height ≡ true) = first_passes s.locks _ l owned in
    (at.0, eqb-true _ _ at.1)

-- A worker that holds the same number of levels in each lock owns the same lock.
owned_same : (s : Shape) (mem mem' : Address → ℕ) (u : ℕ) → ((l : ℕ) → l < s.locks → held_levels_in s mem' u l ≡ held_levels_in s mem u l) → lock_owned_by_worker s mem' u ≡ lock_owned_by_worker s mem u
owned_same s mem mem' u same = first_same s.locks _ _ (λ l lock. ap (λ (held : ℕ). eqb held s.height) (same l lock))

-- The abstract state of every other worker is unchanged.
pub record Frame (s : Shape) (mem mem' : Address → ℕ) (privs privs' : Privates) (es es' : List Entry) (w : ℕ) : Type 0 where
  pub owned : (u : ℕ) → u < s.workers → u ≢ w → lock_owned_by_worker s mem' u ≡ lock_owned_by_worker s mem u
  pub words : (u : ℕ) → u ≢ w → worker_words mem' u ≡ worker_words mem u
  pub privates : (u : ℕ) → u ≢ w → privs' u ≡ privs u
  pub last : (u : ℕ) → u ≢ w → last_entry_of_worker es' u ≡ last_entry_of_worker es u
  pub withdrawn : (u done : ℕ) → u ≢ w → withdrawn_numbers es' u done ≡ withdrawn_numbers es u done

pub load_frame : (s : Shape) (mem : Address → ℕ) (privs privs' : Privates) (es : List Entry) (w : ℕ) (p : Option Private)
    → PrivateChange privs privs' w p → Frame s mem mem privs privs' es es w
load_frame s mem privs privs' es w p became = record {
  owned = λ u other apart. refl;
  words = λ u apart. refl;
  privates = became.off;
  last = λ u apart. refl;
  withdrawn = λ u done apart. refl;
}

pub own_frame : (s : Shape) (mem mem' : Address → ℕ) (privs privs' : Privates) (es : List Entry) (w : ℕ) (p : Option Private) (new : WorkerWords)
    → OwnMove s mem mem' w new → PrivateChange privs privs' w p → Frame s mem mem' privs privs' es es w
own_frame s mem mem' privs privs' es w p new move became = record {
  owned = λ u other apart. owned_same s mem mem' u (λ l lock. move.trees.held u l);
  words = move.others;
  privates = became.off;
  last = λ u apart. refl;
  withdrawn = λ u done apart. refl;
}

pub lock_frame : (s : Shape) (mem mem' : Address → ℕ) (privs privs' : Privates) (es : List Entry) (w l : ℕ) (p : Option Private) (new : LockWords)
    → LockMove s mem mem' l new → PrivateChange privs privs' w p → Frame s mem mem' privs privs' es es w
lock_frame s mem mem' privs privs' es w l p new move became = record {
  owned = λ u other apart. owned_same s mem mem' u (λ l lock. move.trees.held u l);
  words = λ u apart. move.owns u;
  privates = became.off;
  last = λ u apart. refl;
  withdrawn = λ u done apart. refl;
}

pub node_frame : (s : Shape) (mem mem' : Address → ℕ) (privs privs' : Privates) (es : List Entry) (w l levels : ℕ) (p : Option Private)
    → NodeMove s mem mem' l w levels → PrivateChange privs privs' w p → Frame s mem mem' privs privs' es es w
node_frame s mem mem' privs privs' es w l levels p move became = record {
  owned = λ u other apart. owned_same s mem mem' u (λ k lock. held_others s mem mem' l w levels move u k other apart);
  words = λ u apart. move.owns u;
  privates = became.off;
  last = λ u apart. refl;
  withdrawn = λ u done apart. refl;
}

-- An entry of the worker does not change the others.
pub entry_frame : (s : Shape) (mem mem' : Address → ℕ) (privs privs' : Privates) (es : List Entry) (w : ℕ) (e : Entry)
    → e.receipt.worker ≡ w → Frame s mem mem' privs privs' es es w → Frame s mem mem' privs privs' es (es ++ e ∷ []) w
entry_frame s mem mem' privs privs' es w e by frame = record {
  owned = frame.owned;
  words = frame.words;
  privates = frame.privates;
  last = λ u apart. last_by_other es e u (λ same. apart (sym same ∙ by)) ∙ frame.last u apart;
  withdrawn = λ u done apart. withdrawn_other es e u done (λ same. apart (sym same ∙ by)) ∙ frame.withdrawn u done apart;
}

-- The abstract state of a worker.
pub shown_me : (s : Shape) (mem : Address → ℕ) (privs : Privates) (es : List Entry) (w : ℕ) → w < s.workers
    → slice_get (abstract_state s mem privs es).workers w ≡ Some (abstract_worker s mem privs es w)
shown_me s mem privs es w worker = made_get (abstract_worker s mem privs es) s.workers w worker

-- The owner of a lock.
pub shown_owner : (s : Shape) (mem : Address → ℕ) (privs : Privates) (es : List Entry) (l : ℕ) → l < s.locks
    → slice_get (abstract_state s mem privs es).owners l ≡ Some (owner_in s mem l)
shown_owner s mem privs es l lock = made_get (owner_in s mem) s.locks l lock

-- The abstract state of a worker depends on five parts.
pub worker_same : (owned owned' : Option ℕ) (own own' : WorkerWords) (private private' : Option Private) (last last' : Job) (gone gone' : List ℕ)
    → owned' ≡ owned → own' ≡ own → private' ≡ private → last' ≡ last → gone' ≡ gone → abstract_worker_by owned' own' private' last' gone' ≡ abstract_worker_by owned own private last gone
worker_same owned owned' own own' private private' last last' gone gone' a b c d e = rw (a, b, c, d, e) refl

-- The parts of a state.
abbrev state_of : List (Option ℕ) → List WorkerState → List Entry → MachineState
state_of owners workers history = record { owners = owners; workers = workers; history = history }

built_same : (owners owners' : List (Option ℕ)) (workers workers' : List WorkerState) (es es' : List Entry) → owners' ≡ owners → workers' ≡ workers → es' ≡ es
    → state_of owners' workers' es' ≡ state_of owners workers es
built_same owners owners' workers workers' es es' a b c = rw (a, b, c) refl

state_same : (old new : MachineState) → new.owners ≡ old.owners → new.workers ≡ old.workers → new.history ≡ old.history → new ≡ old
state_same old new a b c = built_same _ _ _ _ _ _ a b c

other_shows : (s : Shape) (mem mem' : Address → ℕ) (privs privs' : Privates) (es es' : List Entry) (w u : ℕ) → Frame s mem mem' privs privs' es es' w
    → u < s.workers → u ≢ w → abstract_worker s mem' privs' es' u ≡ abstract_worker s mem privs es u
other_shows s mem mem' privs privs' es es' w u frame other apart =
    worker_same _ _ _ _ _ _ _ _ _ _ (frame.owned u other apart) (frame.words u apart) (frame.privates u apart) (ap last_entry_job (frame.last u apart))
    (frame.withdrawn u _ apart ∙ ap (λ (own : WorkerWords). withdrawn_numbers es u own.done) (frame.words u apart))

module _ (s : Shape) (mem mem' : Address → ℕ) (privs privs' : Privates) (es es' : List Entry) (w : ℕ) (worker : w < s.workers)
    (frame : Frame s mem mem' privs privs' es es' w) where
  owners_same : ((l : ℕ) → l < s.locks → owner_in s mem' l ≡ owner_in s mem l) → (abstract_state s mem' privs' es').owners ≡ (abstract_state s mem privs es).owners
  owners_same owners = made_same (owner_in s mem) (owner_in s mem') s.locks owners

  workers_moved : (abstract_state s mem' privs' es').workers ≡ slice_set (abstract_state s mem privs es).workers w (abstract_worker s mem' privs' es' w)
  workers_moved =
      made_set (abstract_worker s mem privs es) (abstract_worker s mem' privs' es') s.workers w _ worker refl
      (λ u other apart. other_shows s mem mem' privs privs' es es' w u frame other apart)

module _ (s : Shape) (mem mem' : Address → ℕ) (privs privs' : Privates) (es : List Entry) (w : ℕ) (worker : w < s.workers) where
  -- The abstraction is unchanged.
  pub shown_still : Frame s mem mem' privs privs' es es w → ((l : ℕ) → l < s.locks → owner_in s mem' l ≡ owner_in s mem l)
      → abstract_worker s mem' privs' es w ≡ abstract_worker s mem privs es w → abstract_state s mem' privs' es ≡ abstract_state s mem privs es
  shown_still frame owners me =
      state_same _ _ (owners_same s mem mem' privs privs' es es w worker frame owners)
      (made_same (abstract_worker s mem privs es) (abstract_worker s mem' privs' es) s.workers (λ u other. elim (cases_eq u w) [
        | inl same ↦ (let P : ℕ → Type 0 = λ u. abstract_worker s mem' privs' es u ≡ abstract_worker s mem privs es u in subst P (sym same) me)
        | inr apart ↦ other_shows s mem mem' privs privs' es es w u frame other apart
      ]))
      refl

  -- The worker's own state changed.
  pub shown_moves : Frame s mem mem' privs privs' es es w → ((l : ℕ) → l < s.locks → owner_in s mem' l ≡ owner_in s mem l)
      → abstract_state s mem' privs' es ≡ with_worker (abstract_state s mem privs es) w (abstract_worker s mem' privs' es w)
  shown_moves frame owners =
      state_same _ _ (owners_same s mem mem' privs privs' es es w worker frame owners) (workers_moved s mem mem' privs privs' es es w worker frame) refl

  -- The worker's own state and the owner of one lock changed.
  pub shown_owns : (l : ℕ) → l < s.locks → Frame s mem mem' privs privs' es es w → ((k : ℕ) → k < s.locks → k ≢ l → owner_in s mem' k ≡ owner_in s mem k)
      → abstract_state s mem' privs' es ≡ with_owner (with_worker (abstract_state s mem privs es) w (abstract_worker s mem' privs' es w)) l (owner_in s mem' l)
  shown_owns l lock frame owners =
      state_same _ _ (made_set (owner_in s mem) (owner_in s mem') s.locks l _ lock refl owners)
      (workers_moved s mem mem' privs privs' es es w worker frame) refl

  -- The worker's own state changed, and the history grew by an entry.
  pub shown_finishes : (e : Entry) → Frame s mem mem' privs privs' es (es ++ e ∷ []) w → ((l : ℕ) → l < s.locks → owner_in s mem' l ≡ owner_in s mem l)
      → abstract_state s mem' privs' (es ++ e ∷ []) ≡ with_entry (with_worker (abstract_state s mem privs es) w (abstract_worker s mem' privs' (es ++ e ∷ []) w)) e
  shown_finishes e frame owners =
      state_same _ _ (owners_same s mem mem' privs privs' es (es ++ e ∷ []) w worker frame owners)
      (workers_moved s mem mem' privs privs' es (es ++ e ∷ []) w worker frame) refl
