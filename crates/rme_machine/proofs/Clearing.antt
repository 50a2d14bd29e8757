-- A node of the worker's path is cleared: the root's clearing releases the lock, and the lowest one's makes the worker
-- ready.
use Rattle.std.proofs.Common.{◌≡◌, ◌≢◌, ℕ, suc, ◌-◌, ◌<◌, List, refl, sym, ◌∙◌, ap, ap₂, subst, inl, inr, arith}
use Rattle.std.specs.Prelude.{true, false, ◌==◌, Option, Some, None}
use Rattle.std.proofs.lemmas.Bool.{cases_Bool, cases_eq, eq-eqb, ne_eqb, eqb-true, eqb-false}
use Rattle.std.proofs.lemmas.Option.{same_Some}
use Rattle.rme_words.specs.declared.shape.Shape.{Shape}
use Rattle.rme_words.specs.declared.address.Address.{Address}
use Rattle.rme_words.specs.declared.address.Address.TheVariants.{Node}
use Rattle.rme_words.specs.Words.{StoreEffect}
use Rattle.rme_tree.specs.Paths.{node}
use Rattle.rme_tree.specs.Nodes.{held_levels_in, owner_in}
use Rattle.rme_program.specs.declared.note.Entry.{Entry}
use Rattle.rme_program.specs.declared.private.Private.{Private}
use Rattle.rme_program.specs.declared.stage.Departure.TheVariants.{Clear}
use Rattle.rme_program.specs.Steps.{clear_stage, cleared_note}
use Rattle.rme_machine.specs.declared.stance.JobStance.TheVariants.{Idle}
use Rattle.rme_machine.specs.declared.label.Act.TheVariants.{Still, Leave}
use Rattle.rme_machine.specs.Histories.{last_entry_of_worker, withdrawn_numbers}
use Rattle.rme_machine.specs.Machine.{WorkerState, with_worker, with_owner}
use Rattle.rme_machine.specs.Views.{WorkerWords, worker_words, lock_words, is_pending, current_lock, slate_job}
use Rattle.rme_machine.specs.AbstractState.{Privates, lock_owned_by_worker, last_entry_job, stance_outside, act_of_note, abstract_state, abstract_worker}
use Rattle.rme_machine.specs.Knowledge.{PrivateInvariant, IsDoneAt}
use Rattle.rme_machine.specs.Invariant.{Invariant, LockInvariant}
use Rattle.rme_machine.specs.Changes.{PrivateChange, history_after}
use Rattle.rme_machine.specs.Laws.{RefinementStep, concrete_state}
use Rattle.rme_machine.proofs.Moves.{NodeMove, clear_move}
use Rattle.rme_machine.proofs.Kept.{node_kept}
use Rattle.rme_machine.proofs.Shows.{Frame, node_frame, owned_at, owned_site, owned_below, holds_one, shown_owns}
use Rattle.rme_machine.proofs.Faces.{face, shown_as, does_as, quiet}
use Rattle.rme_machine.proofs.Ended.{IsEnded, ended}
use Rattle.rme_machine.proofs.Exits.{leaver, even_settled, owner_stands}

-- The private state of a worker that still has `levels` levels to clear.
abbrev pub cleared : ℕ → ℕ → ℕ → ℕ → Private
cleared w b lock levels = record { worker = w; begun = b; stage = clear_stage lock levels }

-- A ready worker and a worker that clears its nodes have no submitted job.
pub clear_outside : (w b lock levels : ℕ) → stance_outside (Some (cleared w b lock levels)) ≡ Idle
clear_outside w b lock levels = elim (cases_Bool (levels == 0)) [
  | inl none ↦ rw none refl
  | inr some ↦ rw some refl
]

module _ (s : Shape) (mem mem' : Address → ℕ) (privs privs' : Privates) (es : List Entry) (w b lock k : ℕ) (fact : Invariant s mem privs es) (worker : w < s.workers)
    (was : privs w ≡ Some (leaver w b (Clear lock (suc k)))) (wrote : StoreEffect mem mem' (Node lock (node s.leaves w (suc k))) 0)
    (became : PrivateChange privs privs' w (Some (cleared w b lock k))) where
  fits : PrivateInvariant s (worker_words mem w) (held_levels_in s mem w) (lock_words s mem) w (leaver w b (Clear lock (suc k)))
  fits = fact.fits w _ worker was

  past : IsDoneAt (worker_words mem w) (held_levels_in s mem w) b lock (suc k)
  past = fits.knows.0

  is_lock : lock < s.locks
  is_lock = fits.shaped.stage.0

  level : k < s.height
  level = omega (arith, fits.shaped.stage.2)

  move : NodeMove s mem mem' lock w k
  move = clear_move s mem mem' lock w k worker level (fact.rooted lock is_lock) past.holds wrote

  site : current_lock (worker_words mem w) ≡ lock
  site = rw past.past past.site

  none_else : (l : ℕ) → l < s.locks → l ≢ lock → held_levels_in s mem w l ≡ 0
  none_else l below apart = holds_one s mem privs es w lock l fact worker is_lock below (omega (arith, past.holds)) apart

  later : (held : ℕ → ℕ) → held lock ≡ k → ((l : ℕ) → l ≢ lock → held l ≡ held_levels_in s mem w l)
      → PrivateInvariant s (worker_words mem w) held (lock_words s mem) w (cleared w b lock k)
  later held here off =
      elim (cases_Bool (k == 0)) [
        | inl none ↦ rw none record {
          is = refl;
          shaped = record { worker = worker; begun = fits.shaped.begun; stage = tt };
          knows = record {
            known = past.known;
            past = past.past;
            holds = λ l below. elim (cases_eq l lock) [
              | inl same ↦ ap held same ∙ here ∙ eqb-true k 0 none
              | inr apart ↦ off l apart ∙ none_else l below apart
            ];
          };
        }
        | inr some ↦ rw some record {
          is = refl;
          shaped = record { worker = worker; begun = fits.shaped.begun; stage = (is_lock, omega (arith, eqb-false k 0 some), omega (arith, level)) };
          knows = (record { known = past.known; some = past.some; past = past.past; site = past.site; holds = here }, λ top. absurd (omega (arith, level)));
        }
      ]

  stands : LockInvariant s (lock_words s mem lock) es lock (owner_in s mem' lock) (worker_words mem)
  stands =
      elim (cases_eq (suc k) s.height) [
        | inl top ↦ rw (move.owner_step.left (past.holds ∙ top) (omega (arith, level)))
            (even_settled s (lock_words s mem lock) es lock w (worker_words mem w)
            (owner_stands s mem privs es w lock fact worker is_lock (past.holds ∙ top) past.past) (fits.knows.1 top))
        | inr below ↦ rw (move.owner_step.kept (λ all. below (sym past.holds ∙ all)) (omega (arith, level))) (fact.stands lock is_lock)
      ]

  kept : Invariant s mem' privs' es
  kept =
      node_kept s mem mem' privs privs' es w lock k (Some (cleared w b lock k)) fact worker is_lock move became
      (λ some. (fact.accounts w worker).stake lock is_lock (omega (arith, past.holds)))
      (λ q e held here off. let P : Private → Type 0 = λ p. PrivateInvariant s (worker_words mem w) held (lock_words s mem) w p in subst P (same_Some _ _ e) (later held here off))
      stands

  frame : Frame s mem mem' privs privs' es es w
  frame = node_frame s mem mem' privs privs' es w lock k _ move became

  owned_then : lock_owned_by_worker s mem' w ≡ None
  owned_then = owned_site s mem' privs' es w lock kept worker (ap current_lock (move.owns w) ∙ site) (omega (arith, move.self, level))

  -- A node below the root: the abstract state is unchanged.
  step_below : suc k ≢ s.height → RefinementStep s (concrete_state mem privs es) (concrete_state mem' privs' es) w Still
  step_below below =
      let owned_before : lock_owned_by_worker s mem w ≡ None =
      owned_below s mem privs es w lock fact worker is_lock (omega (arith, past.holds)) (omega (arith, past.holds, below, level)) in
      quiet s mem mem' privs privs' es w (leaver w b (Clear lock (suc k))) (cleared w b lock k) (worker_words mem w) worker kept frame
      (λ l l_below. elim (cases_eq l lock) [
        | inl same ↦
            (let P : ℕ → Type 0 = λ l. owner_in s mem' l ≡ owner_in s mem l in
            subst P (sym same) (move.owner_step.kept (λ all. below (sym past.holds ∙ all)) (omega (arith, level))))
        | inr apart ↦ move.owner_elsewhere l apart
      ])
      (owned_then ∙ sym owned_before) (move.owns w) refl refl refl refl was became.at (rw owned_before refl) (clear_outside w b lock k)

  -- The root: the lock becomes free.
  step_top : suc k ≡ s.height → RefinementStep s (concrete_state mem privs es) (concrete_state mem' privs' es) w (Leave lock)
  step_top top =
      let some : 0 < (worker_words mem w).begun = omega (arith, past.some, past.known) in
      let end : IsEnded es w lock = ended s mem privs es w lock fact worker is_lock (past.holds ∙ top) past.past some past.site in
      let before : abstract_worker s mem privs es w ≡ face (Some lock) false b (slate_job (worker_words mem w)) (last_entry_job (last_entry_of_worker es w)) (Some (leaver w b (Clear lock (suc k))))
      (withdrawn_numbers es w (worker_words mem w).done) =
      shown_as s mem privs es w _ _ _ _ (owned_at s mem privs es w lock fact worker is_lock (past.holds ∙ top)) past.past past.known was in
      let after : abstract_worker s mem' privs' es w ≡ record { up = true; entered = false; asked = b; withdrawn = withdrawn_numbers es w (worker_words mem w).done; stance = Idle } =
      shown_as s mem' privs' es w None false b _ owned_then (ap is_pending (move.owns w) ∙ past.past) (ap (λ (own : WorkerWords). own.begun) (move.owns w) ∙ past.known) became.at
      ∙ rw (clear_outside w b lock k) (ap (λ (own : WorkerWords). let me : WorkerState = record { up = true; entered = false; asked = b; withdrawn = withdrawn_numbers es w own.done; stance = Idle } in me) (move.owns w)) in (
        kept,
        does_as s (Leave lock) mem privs es w _ (abstract_state s mem' privs' es) worker before (
          b,
          last_entry_job (last_entry_of_worker es w),
          refl,
          refl,
          refl,
          ap (λ (e : Option Entry). (last_entry_job e).lock) end.found ∙ end.at,
          shown_owns s mem mem' privs privs' es w worker lock is_lock frame (λ l below apart. move.owner_elsewhere l apart)
              ∙ ap₂ (λ (me : WorkerState) (owner : Option ℕ). with_owner (with_worker (abstract_state s mem privs es) w me) lock owner) after
              (move.owner_step.left (past.holds ∙ top) (omega (arith, level))),
        ),
      )

  step_clear : RefinementStep s (concrete_state mem privs es) (concrete_state mem' privs' (history_after es mem w (cleared_note s lock (suc k)))) w (act_of_note (cleared_note s lock (suc k)))
  step_clear =
      elim (cases_eq (suc k) s.height) [
        | inl top ↦ rw (eq-eqb (suc k) s.height top) (step_top top)
        | inr below ↦ rw (ne_eqb (suc k) s.height below) (elim (cases_Bool (suc k == 1)) [
          | inl lowest ↦ rw lowest (step_below below)
          | inr higher ↦ rw higher (step_below below)
        ])
      ]

-- The same, by the level in place of the number of levels below it.
pub clear : (s : Shape) (mem mem' : Address → ℕ) (privs privs' : Privates) (es : List Entry) (w b lock level : ℕ) → Invariant s mem privs es → w < s.workers
    → privs w ≡ Some (leaver w b (Clear lock level)) → StoreEffect mem mem' (Node lock (node s.leaves w level)) 0
    → PrivateChange privs privs' w (Some (cleared w b lock (level - 1)))
    → RefinementStep s (concrete_state mem privs es) (concrete_state mem' privs' (history_after es mem w (cleared_note s lock level))) w (act_of_note (cleared_note s lock level))
clear s mem mem' privs privs' es w b lock level fact worker was wrote became =
    let fits : PrivateInvariant s (worker_words mem w) (held_levels_in s mem w) (lock_words s mem) w (leaver w b (Clear lock level)) = fact.fits w _ worker was in
    let P : ℕ → Type 0 = λ n. privs w ≡ Some (leaver w b (Clear lock n)) → StoreEffect mem mem' (Node lock (node s.leaves w n)) 0
    → RefinementStep s (concrete_state mem privs es) (concrete_state mem' privs' (history_after es mem w (cleared_note s lock n))) w (act_of_note (cleared_note s lock n)) in
    subst P (let e : suc (level - 1) ≡ level = omega (arith, fits.shaped.stage.1) in e)
    (λ was wrote. step_clear s mem mem' privs privs' es w b lock (level - 1) fact worker was wrote became) was wrote
