-- The steps of a restarted worker: each is a load, and is quiet except the re-entry into a section.
use Rattle.std.proofs.Common.{◌≡◌, ◌≢◌, ℕ, suc, ◌+◌, ◌<◌, ◌≤◌, List, refl, sym, ◌∙◌, subst, inl, inr, arith}
use Rattle.std.specs.Prelude.{Bool, true, false, ◌==◌, nat_lt, Some, if◌then◌else◌}
use Rattle.std.proofs.lemmas.Bool.{cases_eq, eqb-true, eqb-false, le-ltb}
use Rattle.rme_words.specs.declared.shape.Shape.{Shape}
use Rattle.rme_words.specs.declared.address.Address.{Address}
use Rattle.rme_tree.specs.Nodes.{held_levels_in}
use Rattle.rme_program.specs.declared.note.Entry.{Entry}
use Rattle.rme_words.specs.declared.address.Address.TheVariants.{Begun, Done, Node}
use Rattle.rme_tree.specs.Paths.{node, side, OwnsUpTo}
use Rattle.rme_tree.specs.Nodes.{lock_nodes}
use Rattle.rme_tree.proofs.Holding.{held_is, held_within, held_least, held_stop, own_more, own_less}
use Rattle.rme_program.specs.declared.private.Private.{Private}
use Rattle.rme_program.specs.declared.note.Note.{Note}
use Rattle.rme_program.specs.declared.note.Note.TheVariants.{Quiet, Reentered, Ready}
use Rattle.rme_program.specs.declared.stage.Stage.{Stage}
use Rattle.rme_program.specs.declared.stage.Stage.TheVariants.{Resting, Recovering, Climbing, Logging, Leaving}
use Rattle.rme_program.specs.declared.stage.Log.TheVariants.{LoadTurn}
use Rattle.rme_program.specs.declared.stage.Departure.TheVariants.{LoadExitTurn, Clear}
use Rattle.rme_program.specs.declared.stage.Recovery.{Recovery}
use Rattle.rme_program.specs.declared.stage.Recovery.TheVariants.{LoadBegun, LoadDone, LoadLock, LoadPath}
use Rattle.rme_program.specs.ActionEffects.{ActionEffect, action_address}
use Rattle.rme_program.specs.Steps.{private_action, private_after, note_after}
use Rattle.rme_machine.specs.declared.label.Act.TheVariants as act
use Rattle.rme_machine.specs.Views.{worker_words, lock_words, is_pending, current_lock}
use Rattle.rme_machine.specs.AbstractState.{Privates, lock_owned_by_worker, act_of_note}
use Rattle.rme_machine.specs.Knowledge.{PrivateInvariant, RecoveryKnowledge, IsIdleWorker}
use Rattle.rme_machine.specs.Invariant.{Invariant}
use Rattle.rme_machine.specs.Changes.{PrivateChange, history_after}
use Rattle.rme_machine.specs.Laws.{RefinementStep, concrete_state}
use Rattle.rme_machine.proofs.Shows.{owned_at, owned_site, holds_none}
use Rattle.rme_machine.proofs.Loads.{still_load, still_outside, reenter_load}
use Rattle.rme_machine.proofs.Standing.{site_small, finished_lock}

abbrev recovering_private : ℕ → ℕ → Recovery → Private
recovering_private w b recovery = record { worker = w; begun = b; stage = Recovering recovery }

-- One more node of the path has the worker's side.
level_more : (s : Shape) (mem : Address → ℕ) (w l k : ℕ) → k < s.height → k ≤ held_levels_in s mem w l
    → mem (Node l (node s.leaves w (k + 1))) ≡ side s.leaves w (k + 1) → k + 1 ≤ held_levels_in s mem w l
level_more s mem w l k less holds here =
    let P : ℕ → Type 0 = λ n. mem (Node l (node s.leaves w n)) ≡ side s.leaves w n in
    let top : mem (Node l (node s.leaves w (suc k))) ≡ side s.leaves w (suc k) = subst P (omega arith) here in
    let own : OwnsUpTo (lock_nodes mem l) s.leaves w k = own_less (lock_nodes mem l) s.leaves w _ k holds (held_is (lock_nodes mem l) s.leaves w s.height).own in
    omega (arith, held_least (lock_nodes mem l) s.leaves w s.height (suc k) (omega arith) (own_more (lock_nodes mem l) s.leaves w k own top))

-- The next node of the path does not have the worker's side.
level_stops : (s : Shape) (mem : Address → ℕ) (w l k : ℕ) → k < s.height → k ≤ held_levels_in s mem w l
    → mem (Node l (node s.leaves w (k + 1))) ≢ side s.leaves w (k + 1) → held_levels_in s mem w l ≡ k
level_stops s mem w l k less holds other =
    let P : ℕ → Type 0 = λ n. mem (Node l (node s.leaves w n)) ≢ side s.leaves w n in
    let stop : mem (Node l (node s.leaves w (suc k))) ≢ side s.leaves w (suc k) = subst P (omega arith) other in
    held_stop (lock_nodes mem l) s.leaves w s.height k less
    (own_less (lock_nodes mem l) s.leaves w _ k holds (held_is (lock_nodes mem l) s.leaves w s.height).own) stop

-- The common parameters of every stage: the worker, its knowledge, and its private states before and after.
module _ (s : Shape) (mem : Address → ℕ) (privs privs' : Privates) (es : List Entry) (w b found : ℕ) (fact : Invariant s mem privs es) (worker : w < s.workers) where
  load_begun : privs w ≡ Some (recovering_private w b LoadBegun) → found ≡ mem (Begun w) → PrivateChange privs privs' w (Some (recovering_private w found LoadDone))
      → RefinementStep s (concrete_state mem privs es) (concrete_state mem privs' es) w act.Still
  load_begun was is became =
      still_load s mem privs privs' es w (recovering_private w b LoadBegun) (recovering_private w found LoadDone) fact worker was became
      record { is = refl; shaped = record { worker = worker; begun = omega (arith, is, (fact.accounts w worker).few); stage = tt }; knows = sym is } refl refl

  load_done : (none : Bool) → (b == 0) ≡ none → privs w ≡ Some (recovering_private w b LoadDone) → found ≡ mem (Done w)
      → (worker_words mem w).begun ≡ b → b ≤ s.jobs
      → (let after : Stage × Note = if none then (Resting, Ready) else (Recovering (LoadLock (nat_lt found b)), Quiet) in
      PrivateChange privs privs' w (Some record { worker = w; begun = b; stage = after.0 })
      → RefinementStep s (concrete_state mem privs es) (concrete_state mem privs' (history_after es mem w after.1)) w (act_of_note after.1))
  load_done true test was is known few became =
      still_load s mem privs privs' es w (recovering_private w b LoadDone) record { worker = w; begun = b; stage = Resting } fact worker was became
      record { is = refl; shaped = record { worker = worker; begun = few; stage = tt }; knows = idle } refl refl
    where
      idle : IsIdleWorker s (worker_words mem w) (held_levels_in s mem w) b
      idle = record {
        known = known;
        past = le-ltb _ _ (omega (arith, eqb-true _ _ test, known));
        holds = λ l lock. elim (cases_eq (held_levels_in s mem w l) 0) [
          | inl nothing ↦ nothing
          | inr some ↦ absurd (omega (arith, eqb-true _ _ test, known, ((fact.accounts w worker).stake l lock (omega (arith, some))).0))
        ];
      }
  load_done false test was is known few became =
      still_load s mem privs privs' es w (recovering_private w b LoadDone) (recovering_private w b (LoadLock (nat_lt found b))) fact worker was became
      record { is = refl; shaped = record { worker = worker; begun = few; stage = tt }; knows = (known, omega (arith, eqb-false _ _ test), (rw (known, is) refl)) } refl refl

  load_lock : (pending : Bool) → privs w ≡ Some (recovering_private w b (LoadLock pending)) → found ≡ current_lock (worker_words mem w)
      → (worker_words mem w).begun ≡ b → 0 < b → is_pending (worker_words mem w) ≡ pending → b ≤ s.jobs
      → PrivateChange privs privs' w (Some (recovering_private w b (LoadPath pending found 0)))
      → RefinementStep s (concrete_state mem privs es) (concrete_state mem privs' es) w act.Still
  load_lock pending was is known some found_pending few became =
      still_load s mem privs privs' es w (recovering_private w b (LoadLock pending)) (recovering_private w b (LoadPath pending found 0)) fact worker was became
      record {
        is = refl;
        shaped = record {
          worker = worker;
          begun = few;
          stage = (omega (arith, is, site_small s mem privs es w fact worker (omega arith)), omega (arith, s.counted.tree.some_level));
        };
        knows = (known, some, found_pending, sym is, omega arith);
      }
      refl refl

-- The steps of a worker that checks its path from the leaf upward.
module _ (s : Shape) (mem : Address → ℕ) (privs privs' : Privates) (es : List Entry) (w b l k : ℕ) (fact : Invariant s mem privs es) (worker : w < s.workers)
    (known : (worker_words mem w).begun ≡ b) (some : 0 < b) (site : current_lock (worker_words mem w) ≡ l) (few : b ≤ s.jobs) (lock : l < s.locks) (less : k < s.height) where
  -- One more node is the worker's, and it is not the last.
  path_more : (pending : Bool) → is_pending (worker_words mem w) ≡ pending → privs w ≡ Some (recovering_private w b (LoadPath pending l k))
      → k + 1 ≤ held_levels_in s mem w l → k + 1 ≢ s.height
      → PrivateChange privs privs' w (Some (recovering_private w b (LoadPath pending l (k + 1)))) → RefinementStep s (concrete_state mem privs es) (concrete_state mem privs' es) w act.Still
  path_more pending is was holds below became =
      still_load s mem privs privs' es w (recovering_private w b (LoadPath pending l k)) (recovering_private w b (LoadPath pending l (k + 1))) fact worker was became
      record {
        is = refl;
        shaped = record { worker = worker; begun = few; stage = (lock, omega arith) };
        knows = (known, some, is, site, holds);
      }
      refl refl

  -- The last node is the worker's: it owns the lock, and continues its section or its exit.
  path_section : is_pending (worker_words mem w) ≡ true → privs w ≡ Some (recovering_private w b (LoadPath true l k)) → held_levels_in s mem w l ≡ s.height
      → PrivateChange privs privs' w (Some record { worker = w; begun = b; stage = Logging (LoadTurn l) }) → RefinementStep s (concrete_state mem privs es) (concrete_state mem privs' es) w (act.Reenter l)
  path_section is was holds became =
      let owned : lock_owned_by_worker s mem w ≡ Some l = owned_at s mem privs es w l fact worker lock holds in
      let slate : (worker_words mem w).slate_lock ≡ l = rw is at site in
      reenter_load s mem privs privs' es w (recovering_private w b (LoadPath true l k)) record { worker = w; begun = b; stage = Logging (LoadTurn l) } fact worker was became
      l true owned is
      record {
        is = refl;
        shaped = record { worker = worker; begun = few; stage = lock };
        knows = (record { known = known; pending = is; slate = slate; holds = holds }, tt);
      }
      refl refl slate refl

  path_exit : is_pending (worker_words mem w) ≡ false → privs w ≡ Some (recovering_private w b (LoadPath false l k)) → held_levels_in s mem w l ≡ s.height
      → PrivateChange privs privs' w (Some record { worker = w; begun = b; stage = Leaving (LoadExitTurn l) }) → RefinementStep s (concrete_state mem privs es) (concrete_state mem privs' es) w (act.Reenter l)
  path_exit is was holds became =
      let owned : lock_owned_by_worker s mem w ≡ Some l = owned_at s mem privs es w l fact worker lock holds in
      let at : (worker_words mem w).at ≡ l = rw is at site in
      reenter_load s mem privs privs' es w (recovering_private w b (LoadPath false l k)) record { worker = w; begun = b; stage = Leaving (LoadExitTurn l) } fact worker was became
      l false owned is
      record {
        is = refl;
        shaped = record { worker = worker; begun = few; stage = lock };
        knows = record { known = known; some = some; past = is; site = at; holds = holds };
      }
      refl refl (finished_lock s mem privs es w l fact worker lock holds (omega arith) is at) refl

  -- The next node is not the worker's: it continues its ascent or its exit, or it is ready.
  path_climbs : is_pending (worker_words mem w) ≡ true → privs w ≡ Some (recovering_private w b (LoadPath true l k)) → held_levels_in s mem w l ≡ k
      → PrivateChange privs privs' w (Some record { worker = w; begun = b; stage = Climbing record { lock = l; held = k } }) → RefinementStep s (concrete_state mem privs es) (concrete_state mem privs' es) w act.Still
  path_climbs is was holds became =
      still_load s mem privs privs' es w (recovering_private w b (LoadPath true l k)) record { worker = w; begun = b; stage = Climbing record { lock = l; held = k } }
      fact worker was became
      record {
        is = refl;
        shaped = record { worker = worker; begun = few; stage = (lock, less) };
        knows = record { known = known; pending = is; slate = rw is at site; holds = holds };
      }
      refl refl

  path_clears : is_pending (worker_words mem w) ≡ false → privs w ≡ Some (recovering_private w b (LoadPath false l k)) → held_levels_in s mem w l ≡ k → k ≢ 0
      → PrivateChange privs privs' w (Some record { worker = w; begun = b; stage = Leaving (Clear l k) }) → RefinementStep s (concrete_state mem privs es) (concrete_state mem privs' es) w act.Still
  path_clears is was holds nodes became =
      still_outside s mem privs privs' es w (recovering_private w b (LoadPath false l k)) record { worker = w; begun = b; stage = Leaving (Clear l k) } fact worker was
      became (owned_site s mem privs es w l fact worker site (omega arith))
      record {
        is = refl;
        shaped = record { worker = worker; begun = few; stage = (lock, omega arith, omega arith) };
        knows = (record { known = known; some = some; past = is; site = rw is at site; holds = holds }, λ whole. absurd (omega arith));
      }
      refl

  path_rests : is_pending (worker_words mem w) ≡ false → privs w ≡ Some (recovering_private w b (LoadPath false l k)) → held_levels_in s mem w l ≡ 0
      → PrivateChange privs privs' w (Some record { worker = w; begun = b; stage = Resting }) → RefinementStep s (concrete_state mem privs es) (concrete_state mem privs' es) w act.Still
  path_rests is was holds became =
      still_load s mem privs privs' es w (recovering_private w b (LoadPath false l k)) record { worker = w; begun = b; stage = Resting } fact worker was became
      record {
        is = refl;
        shaped = record { worker = worker; begun = few; stage = tt };
        knows = record { known = known; past = is; holds = holds_none s mem privs es w l fact worker site holds };
      }
      refl refl

-- The load of a node of the path, by the value found.
module _ (s : Shape) (mem : Address → ℕ) (privs privs' : Privates) (es : List Entry) (w b l k found : ℕ) (fact : Invariant s mem privs es) (worker : w < s.workers)
    (is : found ≡ mem (Node l (node s.leaves w (k + 1)))) (few : b ≤ s.jobs) (lock : l < s.locks) (less : k < s.height) where
  path_pending : (mine whole : Bool) → (found == side s.leaves w (k + 1)) ≡ mine → (k + 1 == s.height) ≡ whole
      → privs w ≡ Some (recovering_private w b (LoadPath true l k))
      → RecoveryKnowledge (worker_words mem w) (held_levels_in s mem w) b (LoadPath true l k)
      → (let after : Stage × Note = if mine then (if whole then (Logging (LoadTurn l), Reentered l) else (Recovering (LoadPath true l (k + 1)), Quiet))
      else (Climbing record { lock = l; held = k }, Quiet) in
      PrivateChange privs privs' w (Some record { worker = w; begun = b; stage = after.0 })
      → RefinementStep s (concrete_state mem privs es) (concrete_state mem privs' (history_after es mem w after.1)) w (act_of_note after.1))
  path_pending true true test top was knows became =
      path_section s mem privs privs' es w b l k fact worker knows.0 knows.1 knows.3 few lock less knows.2 was
      (omega (arith, eqb-true _ _ top, level_more s mem w l k less knows.4 (sym is ∙ eqb-true _ _ test), held_within (lock_nodes mem l) s.leaves w s.height)) became
  path_pending true false test top was knows became =
      path_more s mem privs privs' es w b l k fact worker knows.0 knows.1 knows.3 few lock less true knows.2 was
      (level_more s mem w l k less knows.4 (sym is ∙ eqb-true _ _ test)) (eqb-false _ _ top) became
  path_pending false whole test top was knows became =
      path_climbs s mem privs privs' es w b l k fact worker knows.0 knows.1 knows.3 few lock less knows.2 was
      (level_stops s mem w l k less knows.4 (λ e. eqb-false _ _ test (is ∙ e))) became

  path_past : (mine whole none : Bool) → (found == side s.leaves w (k + 1)) ≡ mine → (k + 1 == s.height) ≡ whole → (k == 0) ≡ none
      → privs w ≡ Some (recovering_private w b (LoadPath false l k))
      → RecoveryKnowledge (worker_words mem w) (held_levels_in s mem w) b (LoadPath false l k)
      → (let after : Stage × Note = if mine then (if whole then (Leaving (LoadExitTurn l), Reentered l) else (Recovering (LoadPath false l (k + 1)), Quiet))
      else (if none then (Resting, Ready) else (Leaving (Clear l k), Quiet)) in
      PrivateChange privs privs' w (Some record { worker = w; begun = b; stage = after.0 })
      → RefinementStep s (concrete_state mem privs es) (concrete_state mem privs' (history_after es mem w after.1)) w (act_of_note after.1))
  path_past true true none test top low was knows became =
      path_exit s mem privs privs' es w b l k fact worker knows.0 knows.1 knows.3 few lock less knows.2 was
      (omega (arith, eqb-true _ _ top, level_more s mem w l k less knows.4 (sym is ∙ eqb-true _ _ test), held_within (lock_nodes mem l) s.leaves w s.height)) became
  path_past true false none test top low was knows became =
      path_more s mem privs privs' es w b l k fact worker knows.0 knows.1 knows.3 few lock less false knows.2 was
      (level_more s mem w l k less knows.4 (sym is ∙ eqb-true _ _ test)) (eqb-false _ _ top) became
  path_past false whole true test top low was knows became =
      path_rests s mem privs privs' es w b l k fact worker knows.0 knows.1 knows.3 few lock less knows.2 was
      (level_stops s mem w l k less knows.4 (λ e. eqb-false _ _ test (is ∙ e)) ∙ eqb-true _ _ low) became
  path_past false whole false test top low was knows became =
      path_clears s mem privs privs' es w b l k fact worker knows.0 knows.1 knows.3 few lock less knows.2 was
      (level_stops s mem w l k less knows.4 (λ e. eqb-false _ _ test (is ∙ e))) (eqb-false _ _ low) became

-- The law over one memory.
recovering_here : (s : Shape) (mem : Address → ℕ) (privs privs' : Privates) (es : List Entry) (w b : ℕ) (recovery : Recovery) (found : ℕ) → Invariant s mem privs es
    → w < s.workers → privs w ≡ Some (recovering_private w b recovery) → found ≡ mem (action_address (private_action s (recovering_private w b recovery)))
    → PrivateChange privs privs' w (Some (private_after s (recovering_private w b recovery) found))
    → RefinementStep s (concrete_state mem privs es) (concrete_state mem privs' (history_after es mem w (note_after s (recovering_private w b recovery) found))) w
    (act_of_note (note_after s (recovering_private w b recovery) found))
recovering_here s mem privs privs' es w b LoadBegun found fact worker was is became = load_begun s mem privs privs' es w b found fact worker was is became
recovering_here s mem privs privs' es w b LoadDone found fact worker was is became =
    let fits : PrivateInvariant s (worker_words mem w) (held_levels_in s mem w) (lock_words s mem) w (recovering_private w b LoadDone) = fact.fits w _ worker was in
    load_done s mem privs privs' es w b found fact worker (b == 0) refl was is fits.knows fits.shaped.begun became
recovering_here s mem privs privs' es w b (LoadLock true) found fact worker was is became =
    let fits : PrivateInvariant s (worker_words mem w) (held_levels_in s mem w) (lock_words s mem) w (recovering_private w b (LoadLock true)) = fact.fits w _ worker was in
    load_lock s mem privs privs' es w b found fact worker true was (rw fits.knows.2 is) fits.knows.0 fits.knows.1 fits.knows.2 fits.shaped.begun became
recovering_here s mem privs privs' es w b (LoadLock false) found fact worker was is became =
    let fits : PrivateInvariant s (worker_words mem w) (held_levels_in s mem w) (lock_words s mem) w (recovering_private w b (LoadLock false)) = fact.fits w _ worker was in
    load_lock s mem privs privs' es w b found fact worker false was (rw fits.knows.2 is) fits.knows.0 fits.knows.1 fits.knows.2 fits.shaped.begun became
recovering_here s mem privs privs' es w b (LoadPath true l k) found fact worker was is became =
    let fits : PrivateInvariant s (worker_words mem w) (held_levels_in s mem w) (lock_words s mem) w (recovering_private w b (LoadPath true l k)) = fact.fits w _ worker was in
    path_pending s mem privs privs' es w b l k found fact worker is fits.shaped.begun fits.shaped.stage.0 fits.shaped.stage.1 _ _ refl refl was fits.knows became
recovering_here s mem privs privs' es w b (LoadPath false l k) found fact worker was is became =
    let fits : PrivateInvariant s (worker_words mem w) (held_levels_in s mem w) (lock_words s mem) w (recovering_private w b (LoadPath false l k)) = fact.fits w _ worker was in
    path_past s mem privs privs' es w b l k found fact worker is fits.shaped.begun fits.shaped.stage.0 fits.shaped.stage.1 _ _ _ refl refl refl was fits.knows became

-- Every step of recovery is a load.
recovery_loads : (s : Shape) (mem mem' : Address → ℕ) (w b : ℕ) (recovery : Recovery) (found : ℕ)
    → ActionEffect mem mem' (private_action s (recovering_private w b recovery)) found → (found ≡ mem (action_address (private_action s (recovering_private w b recovery)))) × (mem' ≡ mem)
recovery_loads s mem mem' w b LoadBegun found did = did
recovery_loads s mem mem' w b LoadDone found did = did
recovery_loads s mem mem' w b (LoadLock true) found did = did
recovery_loads s mem mem' w b (LoadLock false) found did = did
recovery_loads s mem mem' w b (LoadPath pending l k) found did = did

-- The law of the steps of Recover.
pub recovering : (s : Shape) (mem mem' : Address → ℕ) (privs privs' : Privates) (es : List Entry) (w b : ℕ) (recovery : Recovery) (found : ℕ)
    → Invariant s mem privs es → w < s.workers → privs w ≡ Some record { worker = w; begun = b; stage = Recovering recovery }
    → ActionEffect mem mem' (private_action s record { worker = w; begun = b; stage = Recovering recovery }) found
    → PrivateChange privs privs' w (Some (private_after s record { worker = w; begun = b; stage = Recovering recovery } found))
    → RefinementStep s (concrete_state mem privs es) (concrete_state mem' privs' (history_after es mem w (note_after s record { worker = w; begun = b; stage = Recovering recovery } found))) w
    (act_of_note (note_after s record { worker = w; begun = b; stage = Recovering recovery } found))
recovering s mem mem' privs privs' es w b recovery found fact worker was did became =
    let loads : (found ≡ mem (action_address (private_action s (recovering_private w b recovery)))) × (mem' ≡ mem) = recovery_loads s mem mem' w b recovery found did in
    let P : (Address → ℕ) → Type 0 = λ new. RefinementStep s (concrete_state mem privs es) (concrete_state new privs' (history_after es mem w (note_after s (recovering_private w b recovery) found))) w
    (act_of_note (note_after s (recovering_private w b recovery) found)) in
    subst P (sym loads.1) (recovering_here s mem privs privs' es w b recovery found fact worker was loads.0 became)
