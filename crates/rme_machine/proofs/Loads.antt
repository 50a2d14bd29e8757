-- The law of a load: one private state is replaced, and it determines the abstract state of its worker.
use Rattle.std.proofs.Common.{◌≡◌, ℕ, ◌<◌, List, refl, ◌∙◌, ap, subst}
use Rattle.std.specs.Prelude.{Bool, true, false, Some, None}
use Rattle.std.proofs.lemmas.Option.{same_Some}
use Rattle.rme_words.specs.declared.shape.Shape.{Shape}
use Rattle.rme_words.specs.declared.address.Address.{Address}
use Rattle.rme_tree.specs.Nodes.{held_levels_in}
use Rattle.rme_program.specs.declared.note.Entry.{Entry}
use Rattle.rme_program.specs.declared.private.Private.{Private}
use Rattle.rme_machine.specs.declared.label.Act.TheVariants as act
use Rattle.rme_machine.specs.Machine.{IsInSectionOf, with_worker}
use Rattle.rme_machine.specs.Histories.{last_entry_of_worker}
use Rattle.rme_machine.specs.Views.{worker_words, lock_words, is_pending, slate_job}
use Rattle.rme_machine.specs.AbstractState.{Privates, lock_owned_by_worker, last_entry_job, is_in_section_or_exit, stance_outside, abstract_stance, abstract_state}
use Rattle.rme_machine.specs.Knowledge.{PrivateInvariant}
use Rattle.rme_machine.specs.Invariant.{Invariant}
use Rattle.rme_machine.specs.Changes.{PrivateChange}
use Rattle.rme_machine.specs.Laws.{RefinementStep, concrete_state}
use Rattle.rme_machine.proofs.Kept.{private_kept}
use Rattle.rme_machine.proofs.Shows.{load_frame, shown_moves}
use Rattle.rme_machine.proofs.Faces.{shown_as, does_as, entered_same, quiet}

module _ (s : Shape) (mem : Address → ℕ) (privs privs' : Privates) (es : List Entry) (w : ℕ) (p q : Private)
    (fact : Invariant s mem privs es) (worker : w < s.workers) (was : privs w ≡ Some p) (became : PrivateChange privs privs' w (Some q)) where
  pub load_fact : PrivateInvariant s (worker_words mem w) (held_levels_in s mem w) (lock_words s mem) w q → Invariant s mem privs' es
  load_fact fits =
      private_kept s mem privs privs' es w (Some q) fact became
      (λ r e. let P : Private → Type 0 = λ r. PrivateInvariant s (worker_words mem w) (held_levels_in s mem w) (lock_words s mem) w r in subst P (same_Some q r e) fits)

  -- The abstract state of the worker is unchanged.
  pub still_load : PrivateInvariant s (worker_words mem w) (held_levels_in s mem w) (lock_words s mem) w q → is_in_section_or_exit (Some q) ≡ is_in_section_or_exit (Some p)
      → stance_outside (Some q) ≡ stance_outside (Some p) → RefinementStep s (concrete_state mem privs es) (concrete_state mem privs' es) w act.Still
  still_load fits inside outside =
      quiet s mem mem privs privs' es w p q (worker_words mem w) worker (load_fact fits) (load_frame s mem privs privs' es w (Some q) became) (λ l lock. refl)
      refl refl refl refl refl refl was became.at (entered_same _ (Some p) (Some q) inside) outside

  -- If it owns no lock it may also enter Exit.
  pub still_outside : lock_owned_by_worker s mem w ≡ None → PrivateInvariant s (worker_words mem w) (held_levels_in s mem w) (lock_words s mem) w q
      → stance_outside (Some q) ≡ stance_outside (Some p) → RefinementStep s (concrete_state mem privs es) (concrete_state mem privs' es) w act.Still
  still_outside owned fits outside =
      quiet s mem mem privs privs' es w p q (worker_words mem w) worker (load_fact fits) (load_frame s mem privs privs' es w (Some q) became) (λ l lock. refl)
      refl refl refl refl refl refl was became.at (rw owned refl) outside

  -- It owns a lock, and its section continues.
  pub reenter_load : (l : ℕ) (pending : Bool) → lock_owned_by_worker s mem w ≡ Some l → is_pending (worker_words mem w) ≡ pending
      → PrivateInvariant s (worker_words mem w) (held_levels_in s mem w) (lock_words s mem) w q → is_in_section_or_exit (Some p) ≡ false → is_in_section_or_exit (Some q) ≡ true
      → IsInSectionOf (abstract_stance (Some l) pending (worker_words mem w).begun (slate_job (worker_words mem w)) (last_entry_job (last_entry_of_worker es w)) (Some p)) l
      → abstract_stance (Some l) pending (worker_words mem w).begun (slate_job (worker_words mem w)) (last_entry_job (last_entry_of_worker es w)) (Some q)
      ≡ abstract_stance (Some l) pending (worker_words mem w).begun (slate_job (worker_words mem w)) (last_entry_job (last_entry_of_worker es w)) (Some p)
      → RefinementStep s (concrete_state mem privs es) (concrete_state mem privs' es) w (act.Reenter l)
  reenter_load l pending owned is fits outside inside stays same = (
    load_fact fits,
    does_as s _ mem privs es w _ _ worker (shown_as s mem privs es w (Some l) pending _ (Some p) owned is refl was) (
      refl,
      outside,
      stays,
      shown_moves s mem mem privs privs' es w worker (load_frame s mem privs privs' es w (Some q) became) (λ k lock. refl)
          ∙ ap (with_worker (abstract_state s mem privs es) w) (shown_as s mem privs' es w (Some l) pending _ (Some q) owned is refl became.at ∙ rw (inside, same) refl),
    ),
  )
