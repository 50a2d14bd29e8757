-- The steps by which a worker withdraws its job: three stores of receipt words, and the store of `done`.
use Rattle.std.proofs.Common.{◌≡◌, ◌≢◌, ℕ, ◌+◌, ◌<◌, List, refl, sym, ◌∙◌, ap, subst, inl, inr, arith}
use Rattle.std.specs.Prelude.{true, false, ◌==◌, Some, None}
use Rattle.std.proofs.lemmas.Bool.{cases_Bool, cases_eq, eqb-true, eqb-false, ltb-true, le-ltb}
use Rattle.std.proofs.lemmas.Option.{same_Some}
use Rattle.rme_words.specs.declared.shape.Shape.{Shape}
use Rattle.rme_words.specs.declared.address.Address.{Address}
use Rattle.rme_tree.specs.Nodes.{held_levels_in}
use Rattle.rme_program.specs.declared.note.Entry.{Entry}
use Rattle.rme_program.specs.declared.private.Private.{Private}
use Rattle.rme_program.specs.declared.stage.Departure.{Departure}
use Rattle.rme_program.specs.Steps.{withdrawn_place}
use Rattle.rme_machine.specs.declared.stance.JobStance.TheVariants.{Idle}
use Rattle.rme_machine.specs.declared.label.Act.TheVariants.{Still, Withdraw}
use Rattle.rme_machine.specs.Histories.{last_entry_of_worker, has_entry, numbers_of_worker, withdrawn_numbers}
use Rattle.rme_machine.specs.Machine.{WorkerState, with_worker}
use Rattle.rme_machine.specs.Views.{WorkerWords, worker_words, lock_words, is_pending, current_lock, slate_job}
use Rattle.rme_machine.specs.AbstractState.{Privates, lock_owned_by_worker, last_entry_job, abstract_state, abstract_worker}
use Rattle.rme_machine.specs.Knowledge.{PrivateInvariant, IsPendingAt}
use Rattle.rme_machine.specs.Invariant.{Invariant, WorkerInvariant, SlateHasJob}
use Rattle.rme_machine.specs.Changes.{PrivateChange}
use Rattle.rme_machine.specs.Laws.{RefinementStep, concrete_state}
use Rattle.rme_machine.proofs.Moves.{OwnMove}
use Rattle.rme_machine.proofs.Kept.{own_kept}
use Rattle.rme_machine.proofs.Shows.{own_frame, owned_site, shown_moves}
use Rattle.rme_machine.proofs.Historical.{rises_wider, no_entry, withdrawn_more}
use Rattle.rme_machine.proofs.Faces.{face, shown_as, does_as, quiet}
use Rattle.rme_machine.proofs.Exits.{leaver}
use Rattle.rme_machine.proofs.Clearing.{cleared, clear_outside}

-- While a worker's job is pending, its receipt words may have any values.
pub pending_account : (s : Shape) (own : WorkerWords) (held : ℕ → ℕ) (es : List Entry) (w reply place at : ℕ) → WorkerInvariant s own held es w → is_pending own ≡ true
    → WorkerInvariant s record own { reply = reply; place = place; at = at } held es w
pending_account s own held es w reply place at account pending = record {
  done = account.done;
  begun = account.begun;
  few = account.few;
  stake = λ l lock some. ((account.stake l lock some).0, rw pending (let there : own.slate_lock ≡ l = rw pending at (account.stake l lock some).1 in there));
  slate = λ pending. let job : SlateHasJob s own = account.slate pending in record { script = job.script; slate = job.slate; job = job.job };
  numbered = account.numbered;
  withdrawn = λ past. let clash : true ≡ false = sym pending ∙ past in absurd (cc);
  receipt = λ past. let clash : true ≡ false = sym pending ∙ past in absurd (cc);
  blank = λ none. absurd (omega (arith, none, ltb-true own.done own.begun pending));
}

pub still_at : (own : WorkerWords) (held : ℕ → ℕ) (b lock levels reply place at : ℕ) → IsPendingAt own held b lock levels
    → IsPendingAt record own { reply = reply; place = place; at = at } held b lock levels
still_at own held b lock levels reply place at is = record { known = is.known; pending = is.pending; slate = is.slate; holds = is.holds }

-- A worker that holds fewer than all levels of the lock of its pending job owns no lock.
no_owner : (s : Shape) (mem : Address → ℕ) (privs : Privates) (es : List Entry) (w b lock levels l : ℕ) → Invariant s mem privs es → w < s.workers
    → IsPendingAt (worker_words mem w) (held_levels_in s mem w) b lock levels → levels < s.height → l < s.locks → held_levels_in s mem w l ≢ s.height
no_owner s mem privs es w b lock levels l fact worker at less below all =
    let stake : (0 < (worker_words mem w).begun) × (current_lock (worker_words mem w) ≡ l) = (fact.accounts w worker).stake l below (omega arith) in
    let there : (worker_words mem w).slate_lock ≡ l = rw at.pending at stake.1 in
    omega (arith, less, at.holds, all, ap (held_levels_in s mem w) (sym there ∙ at.slate))

-- If it holds none of that lock, it holds none of any lock.
holds_none : (s : Shape) (mem : Address → ℕ) (privs : Privates) (es : List Entry) (w b lock levels l : ℕ) → Invariant s mem privs es → w < s.workers
    → IsPendingAt (worker_words mem w) (held_levels_in s mem w) b lock levels → levels ≡ 0 → l < s.locks → held_levels_in s mem w l ≡ 0
holds_none s mem privs es w b lock levels l fact worker at nothing below =
    elim (cases_eq (held_levels_in s mem w l) 0) [
      | inl none ↦ none
      | inr some ↦
          (let stake : (0 < (worker_words mem w).begun) × (current_lock (worker_words mem w) ≡ l) = (fact.accounts w worker).stake l below (omega (arith, some)) in
          let there : (worker_words mem w).slate_lock ≡ l = rw at.pending at stake.1 in
          ap (held_levels_in s mem w) (sym there ∙ at.slate) ∙ at.holds ∙ nothing)
    ]

module _ (s : Shape) (mem mem' : Address → ℕ) (privs privs' : Privates) (es : List Entry) (w b lock levels : ℕ) (old : Departure)
    (fact : Invariant s mem privs es) (worker : w < s.workers) (is_lock : lock < s.locks) (less : levels < s.height)
    (was : privs w ≡ Some (leaver w b old)) (at : IsPendingAt (worker_words mem w) (held_levels_in s mem w) b lock levels) where
  site : current_lock (worker_words mem w) ≡ lock
  site = rw at.pending at.slate

  owned_before : lock_owned_by_worker s mem w ≡ None
  owned_before = owned_site s mem privs es w lock fact worker site (omega (arith, at.holds))

  -- A store of a receipt word.
  pub store_receipt : (new : Departure) (reply place at : ℕ) → OwnMove s mem mem' w record (worker_words mem w) { reply = reply; place = place; at = at }
      → PrivateChange privs privs' w (Some (leaver w b new))
      → PrivateInvariant s record (worker_words mem w) { reply = reply; place = place; at = at } (held_levels_in s mem w) (lock_words s mem) w (leaver w b new)
      → RefinementStep s (concrete_state mem privs es) (concrete_state mem' privs' es) w Still
  store_receipt new reply place lock' move became fits =
      let own : WorkerWords = record (worker_words mem w) { reply = reply; place = place; at = lock' } in
      let kept : Invariant s mem' privs' es =
      own_kept s mem mem' privs privs' es w (Some (leaver w b new)) own fact worker move became
      (pending_account s (worker_words mem w) (held_levels_in s mem w) es w reply place lock' (fact.accounts w worker) at.pending)
      (λ q e. let P : Private → Type 0 = λ p. PrivateInvariant s own (held_levels_in s mem w) (lock_words s mem) w p in subst P (same_Some _ _ e) fits)
      (λ l below all. absurd (no_owner s mem privs es w b lock levels l fact worker at less below all)) in
      let owned_then : lock_owned_by_worker s mem' w ≡ None =
      owned_site s mem' privs' es w lock kept worker (ap current_lock move.own ∙ rw at.pending at.slate) (omega (arith, move.trees.held w lock, at.holds)) in
      quiet s mem mem' privs privs' es w (leaver w b old) (leaver w b new) own worker kept (own_frame s mem mem' privs privs' es w _ own move became)
      (λ l below. move.trees.owner l) (owned_then ∙ sym owned_before) move.own refl refl refl refl was became.at (rw owned_before refl) refl

  -- The store of `done`: the job is withdrawn.
  module _ (move : OwnMove s mem mem' w record (worker_words mem w) { done = b }) (became : PrivateChange privs privs' w (Some (cleared w b lock levels)))
      (fits : PrivateInvariant s (worker_words mem w) (held_levels_in s mem w) (lock_words s mem) w (leaver w b old))
      (place : (worker_words mem w).place ≡ withdrawn_place) (there : (worker_words mem w).at ≡ lock) (reply : (worker_words mem w).reply ≡ 0) where
    account : WorkerInvariant s (worker_words mem w) (held_levels_in s mem w) es w
    account = fact.accounts w worker

    abbrev new : WorkerWords
    new = record (worker_words mem w) { done = b }

    number : b ≡ (worker_words mem w).done + 1
    number = omega (arith, at.known, account.done, account.begun, ltb-true (worker_words mem w).done (worker_words mem w).begun at.pending)

    past : is_pending new ≡ false
    past = le-ltb b (worker_words mem w).begun (omega (arith, at.known))

    none : has_entry es w b ≡ false
    none = no_entry es w 0 (worker_words mem w).done b account.numbered (omega (arith, number))

    new_account : WorkerInvariant s new (held_levels_in s mem w) es w
    new_account = record {
      done = omega (arith, at.known);
      begun = omega (arith, at.known);
      few = account.few;
      stake = λ l below some. (
        (account.stake l below some).0,
        rw past (let was : (worker_words mem w).slate_lock ≡ l = rw at.pending at (account.stake l below some).1 in there ∙ sym at.slate ∙ was),
      );
      slate = λ pending. let clash : true ≡ false = sym pending ∙ past in absurd (cc);
      numbered = rises_wider 0 (worker_words mem w).done b (numbers_of_worker es w) (omega (arith, number)) account.numbered;
      withdrawn = λ over some gone. record { no_entry = none; reply = reply; at = omega (arith, there, is_lock) };
      receipt = λ over some stays. absurd (stays place);
      blank = λ nothing. absurd (omega (arith, nothing, number, at.known));
    }

    later : PrivateInvariant s new (held_levels_in s mem w) (lock_words s mem) w (cleared w b lock levels)
    later =
        elim (cases_Bool (levels == 0)) [
          | inl nothing ↦ rw nothing record {
            is = refl;
            shaped = record { worker = worker; begun = fits.shaped.begun; stage = tt };
            knows = record { known = at.known; past = past; holds = λ l below. holds_none s mem privs es w b lock levels l fact worker at (eqb-true levels 0 nothing) below };
          }
          | inr some ↦ rw some record {
            is = refl;
            shaped = record { worker = worker; begun = fits.shaped.begun; stage = (is_lock, omega (arith, eqb-false levels 0 some), omega (arith, less)) };
            knows = (record { known = at.known; some = omega (arith, number); past = past; site = there; holds = at.holds }, λ top. absurd (omega (arith, less)));
          }
        ]

    kept : Invariant s mem' privs' es
    kept =
        own_kept s mem mem' privs privs' es w (Some (cleared w b lock levels)) new fact worker move became new_account
        (λ q e. let P : Private → Type 0 = λ p. PrivateInvariant s new (held_levels_in s mem w) (lock_words s mem) w p in subst P (same_Some _ _ e) later)
        (λ l below all. absurd (no_owner s mem privs es w b lock levels l fact worker at less below all))

    owned_then : lock_owned_by_worker s mem' w ≡ None
    owned_then = owned_site s mem' privs' es w lock kept worker (ap current_lock move.own ∙ rw past there) (omega (arith, move.trees.held w lock, at.holds, less))

    pub step_done : RefinementStep s (concrete_state mem privs es) (concrete_state mem' privs' es) w (Withdraw b)
    step_done =
        let before : abstract_worker s mem privs es w ≡ face None true b (slate_job (worker_words mem w)) (last_entry_job (last_entry_of_worker es w)) (Some (leaver w b old))
        (withdrawn_numbers es w (worker_words mem w).done) =
        shown_as s mem privs es w _ _ _ _ owned_before at.pending at.known was in
        let after : abstract_worker s mem' privs' es w ≡ record { up = true; entered = false; asked = b; withdrawn = withdrawn_numbers es w b; stance = Idle } =
        shown_as s mem' privs' es w None false b _ owned_then (ap is_pending move.own ∙ past) (ap (λ (own : WorkerWords). own.begun) move.own ∙ at.known) became.at
        ∙ rw (clear_outside w b lock levels)
        (ap (λ (own : WorkerWords). let me : WorkerState = record { up = true; entered = false; asked = b; withdrawn = withdrawn_numbers es w own.done; stance = Idle } in me) move.own) in (
          kept,
          does_as s (Withdraw b) mem privs es w _ (abstract_state s mem' privs' es) worker before (
            slate_job (worker_words mem w),
            refl,
            refl,
            shown_moves s mem mem' privs privs' es w worker (own_frame s mem mem' privs privs' es w _ new move became) (λ l below. move.trees.owner l)
                ∙ ap (λ (me : WorkerState). with_worker (abstract_state s mem privs es) w me)
                (after ∙ ap (λ (ks : List ℕ). let me : WorkerState = record { up = true; entered = false; asked = b; withdrawn = ks; stance = Idle } in me)
                (withdrawn_more es w (worker_words mem w).done b number none)),
          ),
        )
