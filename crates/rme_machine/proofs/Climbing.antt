-- The steps of a climbing worker: it is blocked, it takes a node, or it takes the root and thereby the lock.
use Rattle.std.proofs.Common.{◌≡◌, ◌≢◌, ℕ, suc, ◌+◌, ◌<◌, List, refl, sym, ◌∙◌, ap, ap₂, subst, inl, inr, arith}
use Rattle.std.specs.Prelude.{Bool, true, false, ◌==◌, Option, Some, None, if◌then◌else◌}
use Rattle.std.proofs.lemmas.Bool.{cases_eq, eqb-true, eqb-false, ltb-true}
use Rattle.std.proofs.lemmas.Option.{same_Some}
use Rattle.rme_words.specs.declared.shape.Shape.{Shape}
use Rattle.rme_words.specs.declared.address.Address.{Address}
use Rattle.rme_words.specs.declared.address.Address.TheVariants.{Node}
use Rattle.rme_words.specs.Words.{StoreEffect}
use Rattle.rme_tree.specs.Paths.{node, side}
use Rattle.rme_tree.specs.Nodes.{lock_nodes, held_levels_in, owner_in}
use Rattle.rme_tree.proofs.Levels.{side_pos}
use Rattle.rme_tree.proofs.Steps.{same_root}
use Rattle.rme_tree.proofs.Ownership.{owner_absent, held-owns}
use Rattle.rme_program.specs.declared.note.Entry.{Entry}
use Rattle.rme_program.specs.declared.note.Note.{Note}
use Rattle.rme_program.specs.declared.note.Note.TheVariants.{Quiet, Blocked, Entered}
use Rattle.rme_program.specs.declared.private.Private.{Private}
use Rattle.rme_program.specs.declared.stage.Stage.{Stage}
use Rattle.rme_program.specs.declared.stage.Stage.TheVariants.{Climbing, Logging}
use Rattle.rme_program.specs.declared.stage.Ascent.{Ascent}
use Rattle.rme_program.specs.declared.stage.Log.TheVariants.{LoadTurn}
use Rattle.rme_program.specs.ActionEffects.{ActionEffect}
use Rattle.rme_program.specs.Steps.{private_action, private_after, note_after}
use Rattle.rme_machine.specs.declared.label.Act.TheVariants as act
use Rattle.rme_machine.specs.Histories.{place_of, lock_row, last_entry_of_worker, withdrawn_numbers}
use Rattle.rme_machine.specs.Machine.{WorkerState, with_worker, with_owner}
use Rattle.rme_machine.specs.Views.{WorkerWords, worker_words, lock_words, is_pending, current_lock, slate_job}
use Rattle.rme_machine.specs.AbstractState.{Privates, lock_owned_by_worker, last_entry_job, abstract_worker, abstract_state, act_of_note}
use Rattle.rme_machine.specs.Knowledge.{PrivateInvariant, IsPendingAt}
use Rattle.rme_machine.specs.Invariant.{Invariant, IsSettledLock, LockInvariant, OwnedLockInvariant}
use Rattle.rme_machine.specs.Changes.{PrivateChange, history_after}
use Rattle.rme_machine.specs.Laws.{RefinementStep, concrete_state}
use Rattle.rme_machine.proofs.Moves.{NodeMove, take_move}
use Rattle.rme_machine.proofs.Kept.{node_kept}
use Rattle.rme_machine.proofs.Shows.{owned_at, owned_site, load_frame, node_frame, shown_owner, shown_still, shown_owns}
use Rattle.rme_machine.proofs.Faces.{face, shown_as, does_as}
use Rattle.rme_machine.proofs.Loads.{load_fact}

-- The private state of a worker at a stage of Enter.
abbrev climber : ℕ → ℕ → Ascent → Private
climber w b ascent = record { worker = w; begun = b; stage = Climbing ascent }

-- A lock with a free root has no owner.
root_free : (s : Shape) (mem : Address → ℕ) (l w k : ℕ) → w < s.workers → suc k ≡ s.height → mem (Node l (node s.leaves w (suc k))) ≡ 0 → owner_in s mem l ≡ None
root_free s mem l w k worker top free =
    owner_absent (lock_nodes mem l) s.leaves s.height s.workers (λ u other all.
    let own : mem (Node l (node s.leaves u (suc k))) ≡ side s.leaves u (suc k) = held-owns (lock_nodes mem l) s.leaves s.height u all k (omega arith) in
    let P : ℕ → Type 0 = λ h. node s.leaves u h ≡ node s.leaves w h in
    let root : node s.leaves u (suc k) ≡ node s.leaves w (suc k) =
    subst P (sym top) (same_root s.leaves s.height u w s.counted.tree.is_power (omega (arith, other, s.counted.tree.enough)) (omega (arith, worker, s.counted.tree.enough))) in
    let here : mem (Node l (node s.leaves u (suc k))) ≡ 0 = ap (λ (v : ℕ). mem (Node l v)) root ∙ free in
    omega (arith, own, here, side_pos s.leaves u (suc k)))

module _ (s : Shape) (mem mem' : Address → ℕ) (privs privs' : Privates) (es : List Entry) (w b : ℕ) (ascent : Ascent) (fact : Invariant s mem privs es)
    (worker : w < s.workers) (was : privs w ≡ Some (climber w b ascent)) where
  fits : PrivateInvariant s (worker_words mem w) (held_levels_in s mem w) (lock_words s mem) w (climber w b ascent)
  fits = fact.fits w _ worker was

  at : IsPendingAt (worker_words mem w) (held_levels_in s mem w) b ascent.lock ascent.held
  at = fits.knows

  lock : ascent.lock < s.locks
  lock = fits.shaped.stage.0

  site : current_lock (worker_words mem w) ≡ ascent.lock
  site = rw at.pending at.slate

  owns_none : lock_owned_by_worker s mem w ≡ None
  owns_none = owned_site s mem privs es w ascent.lock fact worker site (omega (arith, at.holds, fits.shaped.stage.1))

  shows_waiting : abstract_worker s mem privs es w
      ≡ face None true b (slate_job (worker_words mem w)) (last_entry_job (last_entry_of_worker es w)) (Some (climber w b ascent)) (withdrawn_numbers es w (worker_words mem w).done)
  shows_waiting = shown_as s mem privs es w None true b _ owns_none at.pending at.known was

  -- Another worker holds the node: nothing changes.
  blocked : PrivateChange privs privs' w (Some (climber w b ascent)) → RefinementStep s (concrete_state mem privs es) (concrete_state mem privs' es) w act.Wait
  blocked became = (
    load_fact s mem privs privs' es w (climber w b ascent) (climber w b ascent) fact worker was became fits,
    does_as s act.Wait mem privs es w _ _ worker shows_waiting (
      b,
      slate_job (worker_words mem w),
      refl,
      refl,
      shown_still s mem mem privs privs' es w worker (load_frame s mem privs privs' es w _ became) (λ l lock. refl)
          (shown_as s mem privs' es w None true b _ owns_none at.pending at.known became.at ∙ sym shows_waiting),
    ),
  )

  -- The node is taken: one more level is held.
  moved : mem (Node ascent.lock (node s.leaves w (ascent.held + 1))) ≡ 0
      → StoreEffect mem mem' (Node ascent.lock (node s.leaves w (ascent.held + 1))) (side s.leaves w (ascent.held + 1))
      → NodeMove s mem mem' ascent.lock w (ascent.held + 1)
  moved free wrote =
      let P : ℕ → Type 0 = λ n. mem (Node ascent.lock (node s.leaves w n)) ≡ 0 in
      let Q : ℕ → Type 0 = λ n. StoreEffect mem mem' (Node ascent.lock (node s.leaves w n)) (side s.leaves w n) in
      let R : ℕ → Type 0 = λ n. NodeMove s mem mem' ascent.lock w n in
      subst R (omega arith) (take_move s mem mem' ascent.lock w ascent.held worker fits.shaped.stage.1 (fact.rooted ascent.lock lock) at.holds
      (subst P (omega arith) free) (subst Q (omega arith) wrote))

  stake : ℕ → (0 < (worker_words mem w).begun) × (current_lock (worker_words mem w) ≡ ascent.lock)
  stake levels = (omega (arith, ltb-true _ _ at.pending), site)

  node_fact : (levels : ℕ) (q : Private) → NodeMove s mem mem' ascent.lock w levels → PrivateChange privs privs' w (Some q)
      → ((held : ℕ → ℕ) → held ascent.lock ≡ levels → PrivateInvariant s (worker_words mem w) held (lock_words s mem) w q)
      → LockInvariant s (lock_words s mem ascent.lock) es ascent.lock (owner_in s mem' ascent.lock) (worker_words mem)
      → Invariant s mem' privs' es
  node_fact levels q move became now stands =
      node_kept s mem mem' privs privs' es w ascent.lock levels (Some q) fact worker lock move became (λ some. stake levels)
      (λ r e held here others.
      let P : Private → Type 0 = λ r. PrivateInvariant s (worker_words mem w) held (lock_words s mem) w r in subst P (same_Some q r e) (now held here))
      stands

  -- The node is not the root.
  owner_kept : NodeMove s mem mem' ascent.lock w (ascent.held + 1) → ascent.held + 1 ≢ s.height → (k : ℕ) → k < s.locks → owner_in s mem' k ≡ owner_in s mem k
  owner_kept move below k is_lock =
      elim (cases_eq k ascent.lock) [
        | inl here ↦
            (let P : ℕ → Type 0 = λ k. owner_in s mem' k ≡ owner_in s mem k in
            subst P (sym here) (move.owner_step.kept (λ whole. omega (arith, whole, at.holds, fits.shaped.stage.1)) below))
        | inr elsewhere ↦ move.owner_elsewhere k elsewhere
      ]

  climbs : NodeMove s mem mem' ascent.lock w (ascent.held + 1) → ascent.held + 1 ≢ s.height
      → PrivateChange privs privs' w (Some (climber w b record { lock = ascent.lock; held = ascent.held + 1 })) → RefinementStep s (concrete_state mem privs es) (concrete_state mem' privs' es) w act.Still
  climbs move below became = (
    fact_after,
    does_as s act.Still mem privs es w _ _ worker shows_waiting (
      refl,
      shown_still s mem mem' privs privs' es w worker (node_frame s mem mem' privs privs' es w ascent.lock _ _ move became) (owner_kept move below)
          (shows_after ∙ sym shows_waiting),
    ),
  )
    where
      fact_after : Invariant s mem' privs' es
      fact_after =
          node_fact (ascent.held + 1) _ move became
          (λ held here. record {
            is = refl;
            shaped = record { worker = worker; begun = fits.shaped.begun; stage = (lock, omega (arith, fits.shaped.stage.1)) };
            knows = record { known = at.known; pending = at.pending; slate = at.slate; holds = here };
          })
          (rw (owner_kept move below ascent.lock lock) (fact.stands ascent.lock lock))

      owns_none_after : lock_owned_by_worker s mem' w ≡ None
      owns_none_after =
          owned_site s mem' privs' es w ascent.lock fact_after worker (ap current_lock (move.owns w) ∙ site) (omega (arith, move.self, fits.shaped.stage.1))

      shows_after : abstract_worker s mem' privs' es w
          ≡ face None true b (slate_job (worker_words mem w)) (last_entry_job (last_entry_of_worker es w)) (Some (climber w b ascent)) (withdrawn_numbers es w (worker_words mem w).done)
      shows_after =
          shown_as s mem' privs' es w None true b _ owns_none_after (ap is_pending (move.owns w) ∙ at.pending)
          (ap (λ (own : WorkerWords). own.begun) (move.owns w) ∙ at.known) became.at
          ∙ ap (λ (own : WorkerWords). face None true b (slate_job own) (last_entry_job (last_entry_of_worker es w)) (Some (climber w b ascent)) (withdrawn_numbers es w own.done)) (move.owns w)

  -- The node is the root: the lock is taken.
  was_free : ascent.held + 1 ≡ s.height → mem (Node ascent.lock (node s.leaves w (ascent.held + 1))) ≡ 0 → owner_in s mem ascent.lock ≡ None
  was_free top free =
      let P : ℕ → Type 0 = λ n. mem (Node ascent.lock (node s.leaves w n)) ≡ 0 in
      root_free s mem ascent.lock w ascent.held worker (omega arith) (subst P (omega arith) free)

  enters : NodeMove s mem mem' ascent.lock w (ascent.held + 1) → ascent.held + 1 ≡ s.height → mem (Node ascent.lock (node s.leaves w (ascent.held + 1))) ≡ 0
      → PrivateChange privs privs' w (Some record { worker = w; begun = b; stage = Logging (LoadTurn ascent.lock) }) → RefinementStep s (concrete_state mem privs es) (concrete_state mem' privs' es) w (act.Take ascent.lock)
  enters move top free became = (
    fact_after,
    does_as s (act.Take ascent.lock) mem privs es w _ _ worker shows_waiting (
      b,
      slate_job (worker_words mem w),
      refl,
      refl,
      at.slate,
      shown_owner s mem privs es ascent.lock lock ∙ ap (λ (owner : Option ℕ). Some owner) (was_free top free),
      shown_owns s mem mem' privs privs' es w worker ascent.lock lock (node_frame s mem mem' privs privs' es w ascent.lock _ _ move became)
          (λ k other apart. move.owner_elsewhere k apart)
          ∙ ap₂ (λ (me : WorkerState) (owner : Option ℕ). with_owner (with_worker (abstract_state s mem privs es) w me) ascent.lock owner) shows_after owner_after,
    ),
  )
    where
      owner_after : owner_in s mem' ascent.lock ≡ Some w
      owner_after = move.owner_step.entered top

      settled : IsSettledLock (lock_words s mem ascent.lock) (lock_row s es ascent.lock) (place_of es ascent.lock)
      settled =
          (let P : Option ℕ → Type 0 = λ owner. LockInvariant s (lock_words s mem ascent.lock) es ascent.lock owner (worker_words mem) in
          subst P (was_free top free) (fact.stands ascent.lock lock))

      stands : LockInvariant s (lock_words s mem ascent.lock) es ascent.lock (Some w) (worker_words mem)
      stands =
          (let P : Bool → Type 0 = λ pending. OwnedLockInvariant s (lock_words s mem ascent.lock) es ascent.lock record { worker = w; words = worker_words mem w } pending in
          subst P (sym at.pending) (inl settled))

      fact_after : Invariant s mem' privs' es
      fact_after =
          node_fact (ascent.held + 1) _ move became
          (λ held here. record {
            is = refl;
            shaped = record { worker = worker; begun = fits.shaped.begun; stage = lock };
            knows = (record { known = at.known; pending = at.pending; slate = at.slate; holds = here ∙ top }, tt);
          })
          (rw owner_after stands)

      owns_after : lock_owned_by_worker s mem' w ≡ Some ascent.lock
      owns_after = owned_at s mem' privs' es w ascent.lock fact_after worker lock (move.self ∙ top)

      shows_after : abstract_worker s mem' privs' es w
          ≡ face (Some ascent.lock) true b (slate_job (worker_words mem w)) (last_entry_job (last_entry_of_worker es w)) (Some record { worker = w; begun = b; stage = Logging (LoadTurn ascent.lock) })
          (withdrawn_numbers es w (worker_words mem w).done)
      shows_after =
          shown_as s mem' privs' es w (Some ascent.lock) true b _ owns_after (ap is_pending (move.owns w) ∙ at.pending)
          (ap (λ (own : WorkerWords). own.begun) (move.owns w) ∙ at.known) became.at
          ∙ ap (λ (own : WorkerWords). face (Some ascent.lock) true b (slate_job own) (last_entry_job (last_entry_of_worker es w))
          (Some record { worker = w; begun = b; stage = Logging (LoadTurn ascent.lock) }) (withdrawn_numbers es w own.done)) (move.owns w)

-- The law, by the value that the swap finds.
climbing_by : (s : Shape) (mem mem' : Address → ℕ) (privs privs' : Privates) (es : List Entry) (w b : ℕ) (ascent : Ascent) (found : ℕ) → Invariant s mem privs es
    → w < s.workers → privs w ≡ Some (climber w b ascent) → (free top : Bool) → (found == 0) ≡ free → (ascent.held + 1 == s.height) ≡ top
    → ActionEffect mem mem' (private_action s (climber w b ascent)) found
    → (let after : Stage × Note = if free then (if top then (Logging (LoadTurn ascent.lock), Entered ascent.lock)
    else (Climbing record { lock = ascent.lock; held = ascent.held + 1 }, Quiet)) else (Climbing ascent, Blocked) in
    PrivateChange privs privs' w (Some record { worker = w; begun = b; stage = after.0 })
    → RefinementStep s (concrete_state mem privs es) (concrete_state mem' privs' (history_after es mem w after.1)) w (act_of_note after.1))
climbing_by s mem mem' privs privs' es w b ascent found fact worker was true true test whole did became =
    let free : mem (Node ascent.lock (node s.leaves w (ascent.held + 1))) ≡ 0 = sym did.0 ∙ eqb-true _ _ test in
    enters s mem mem' privs privs' es w b ascent fact worker was
    (moved s mem mem' privs privs' es w b ascent fact worker was free (did.1 (eqb-true _ _ test))) (eqb-true _ _ whole) free became
climbing_by s mem mem' privs privs' es w b ascent found fact worker was true false test whole did became =
    let free : mem (Node ascent.lock (node s.leaves w (ascent.held + 1))) ≡ 0 = sym did.0 ∙ eqb-true _ _ test in
    climbs s mem mem' privs privs' es w b ascent fact worker was
    (moved s mem mem' privs privs' es w b ascent fact worker was free (did.1 (eqb-true _ _ test))) (eqb-false _ _ whole) became
climbing_by s mem mem' privs privs' es w b ascent found fact worker was false top test whole did became =
    let P : (Address → ℕ) → Type 0 = λ new. RefinementStep s (concrete_state mem privs es) (concrete_state new privs' es) w act.Wait in
    subst P (sym (did.2 (eqb-false _ _ test))) (blocked s mem mem' privs privs' es w b ascent fact worker was became)

-- The law of the steps of Enter.
pub climbing : (s : Shape) (mem mem' : Address → ℕ) (privs privs' : Privates) (es : List Entry) (w b : ℕ) (ascent : Ascent) (found : ℕ)
    → Invariant s mem privs es → w < s.workers → privs w ≡ Some record { worker = w; begun = b; stage = Climbing ascent }
    → ActionEffect mem mem' (private_action s record { worker = w; begun = b; stage = Climbing ascent }) found
    → PrivateChange privs privs' w (Some (private_after s record { worker = w; begun = b; stage = Climbing ascent } found))
    → RefinementStep s (concrete_state mem privs es) (concrete_state mem' privs' (history_after es mem w (note_after s record { worker = w; begun = b; stage = Climbing ascent } found))) w
    (act_of_note (note_after s record { worker = w; begun = b; stage = Climbing ascent } found))
climbing s mem mem' privs privs' es w b ascent found fact worker was did became =
    climbing_by s mem mem' privs privs' es w b ascent found fact worker was _ _ refl refl did became
