-- The owner table and the cells of the abstract state.
use Rattle.std.proofs.Common.{◌≡◌, ℕ, ◌<◌, List, refl, sym, ◌∙◌, ap, subst, inl, inr}
use Rattle.std.specs.Prelude.{Bool, true, false, not, Option, Some, None, slice_get, slice_index, ◌==◌}
use Rattle.std.proofs.lemmas.Bool.{cases_Bool, eqb-true}
use Rattle.std.proofs.lemmas.List.FromFn.{length-map-range_with_len}
use Rattle.std.proofs.lemmas.Option.{none-some, same_Some}
use Rattle.rme_words.specs.declared.shape.Shape.{Shape}
use Rattle.rme_words.specs.declared.address.Address.{Address}
use Rattle.rme_tree.specs.Nodes.{held_levels_in, owner_in}
use Rattle.rme_script.specs.declared.job.Job.{Job}
use Rattle.rme_program.specs.declared.note.Entry.{Entry}
use Rattle.rme_program.specs.declared.stage.Stage.{Stage}
use Rattle.rme_program.specs.declared.stage.Stage.TheVariants.{Resting, Recovering, Posting, Climbing, Logging, Copying, Leaving}
use Rattle.rme_program.specs.declared.stage.Departure.TheVariants.{LoadExitTurn, StoreExitTurn, Clear, WithdrawPlace, WithdrawAt, WithdrawReply, WithdrawDone}
use Rattle.rme_program.specs.Conditions.{IsStage}
use Rattle.rme_machine.specs.declared.stance.JobStance.{JobStance}
use Rattle.rme_machine.specs.Histories.{last_entry_of_worker}
use Rattle.rme_machine.specs.AbstractState.{Privates, lock_owned_by_worker, abstract_state, abstract_worker, last_entry_job}
use Rattle.rme_machine.specs.AbstractState as abstract_state
use Rattle.rme_machine.specs.AbstractCells.{AbstractCells, CellsByStance, owner_if_any, state_owner, stance_of_owner, stance_of_lock_owner, is_lock_settled, is_settled_by_stance}
use Rattle.rme_machine.specs.AbstractCells as cells
use Rattle.rme_machine.specs.Views.{worker_words, lock_words, is_pending, slate_job}
use Rattle.rme_machine.specs.Invariant.{Invariant, OwnedLockInvariant, LockInvariant}
use Rattle.rme_machine.specs.Knowledge.{StageKnowledge, log_lock, redo_lock}
use Rattle.rme_machine.specs.FurtherLaws.{TablesLaw, SectionOwnerLaw, stage_owned_lock}
use Rattle.rme_machine.proofs.Copying.{redo_lock_less}
use Rattle.rme_machine.proofs.Kept.{owner_holds_in, owner_of}
use Rattle.rme_machine.proofs.Lists.{made_get}
use Rattle.rme_machine.proofs.Logging.{log_lock_less}
use Rattle.rme_machine.proofs.Shows.{owned_at}

-- The owner of a lock by the words is that of the abstract state.
pub shown_owner : (s : Shape) (mem : Address → ℕ) (privs : Privates) (es : List Entry) (lock : ℕ) → lock < s.locks → owner_in s mem lock ≡ state_owner (abstract_state s mem privs es) lock
shown_owner s mem privs es lock below = sym (ap owner_if_any (made_get (λ (l : ℕ). owner_in s mem l) s.locks lock below))

module _ (s : Shape) (mem : Address → ℕ) (privs : Privates) (es : List Entry) (fact : Invariant s mem privs es) (lock : ℕ) (below : lock < s.locks) where
  stance_is : (owner : Option ℕ) → owner_in s mem lock ≡ owner → stance_of_lock_owner (abstract_state s mem privs es) lock ≡ stance_of_owner (abstract_state s mem privs es) owner
  stance_is owner is = ap (stance_of_owner (abstract_state s mem privs es)) (sym (shown_owner s mem privs es lock below) ∙ is)

  -- The stance of a lock's owner.
  owner_stance : (w : ℕ) → owner_in s mem lock ≡ Some w → (last : Job)
      × (stance_of_lock_owner (abstract_state s mem privs es) lock ≡ Some (abstract_state.abstract_stance (Some lock) (is_pending (worker_words mem w)) (worker_words mem w).begun (slate_job (worker_words mem w)) last (privs w)))
  owner_stance w is =
      let holds : (w < s.workers) × (held_levels_in s mem w lock ≡ s.height) = owner_holds_in s mem lock w is in
      let there : slice_get (abstract_state s mem privs es).workers w ≡ Some (abstract_worker s mem privs es w) = made_get (λ (u : ℕ). abstract_worker s mem privs es u) s.workers w holds.0 in
      let owned : lock_owned_by_worker s mem w ≡ Some lock = owned_at s mem privs es w lock fact holds.0 below holds.1 in (
        last_entry_job (last_entry_of_worker es w),
        stance_is (Some w) is ∙ ap cells.stance_if_any there
            ∙ ap (λ (o : Option ℕ). Some (abstract_state.abstract_stance o (is_pending (worker_words mem w)) (worker_words mem w).begun (slate_job (worker_words mem w)) (last_entry_job (last_entry_of_worker es w)) (privs w))) owned,
      )

  abbrev Shows : Option JobStance → Type 0
  Shows stance = CellsByStance s es lock stance (lock_words s mem lock).cells

  owned_cells : (w : ℕ) (pending : Bool) (last : Job) → OwnedLockInvariant s (lock_words s mem lock) es lock record { worker = w; words = worker_words mem w } pending
      → Shows (Some (abstract_state.abstract_stance (Some lock) pending (worker_words mem w).begun (slate_job (worker_words mem w)) last (privs w)))
  owned_cells w true last stands = elim stands [
    | inl settled ↦ (length-map-range_with_len _ 0 s.cells, λ c within. inl (ap (λ (xs : List ℕ). slice_index xs c) settled.cells))
    | inr logged ↦ (length-map-range_with_len _ 0 s.cells, λ c within. logged.cells c within)
  ]
  owned_cells w false last (entry, its, stands) = elim stands [
    | inl settled ↦ settled.cells
    | inr over ↦ over.cells
  ]

  cells_by : (owner : Option ℕ) → owner_in s mem lock ≡ owner → LockInvariant s (lock_words s mem lock) es lock owner (worker_words mem) → Shows (stance_of_lock_owner (abstract_state s mem privs es) lock)
  cells_by None is stands = subst (λ (t : Option JobStance). Shows t) (sym (stance_is None is)) stands.cells
  cells_by (Some w) is stands =
      let its = owner_stance w is in
      subst (λ (t : Option JobStance). Shows t) (sym its.1) (owned_cells w (is_pending (worker_words mem w)) its.0 stands)

  shown_cells : AbstractCells s (abstract_state s mem privs es) lock (lock_words s mem lock).cells
  shown_cells = cells_by (owner_in s mem lock) refl (fact.stands lock below)

  free_settled : owner_in s mem lock ≡ None → is_lock_settled (abstract_state s mem privs es) lock ≡ true
  free_settled is = ap is_settled_by_stance (stance_is None is)

  settled_when : (w : ℕ) (pending : Bool) (last : Job)
      → is_settled_by_stance (Some (abstract_state.abstract_stance (Some lock) pending (worker_words mem w).begun (slate_job (worker_words mem w)) last (privs w))) ≡ not pending
  settled_when w true last = refl
  settled_when w false last = refl

  owned_settled : (w : ℕ) → owner_in s mem lock ≡ Some w → is_lock_settled (abstract_state s mem privs es) lock ≡ not (is_pending (worker_words mem w))
  owned_settled w is =
      let its = owner_stance w is in
      ap is_settled_by_stance its.1 ∙ settled_when w (is_pending (worker_words mem w)) its.0

pub tables : TablesLaw
tables = record {
  tables = λ s mem privs es fact. record { owners = λ lock below. shown_owner s mem privs es lock below; cells = λ lock below. shown_cells s mem privs es fact lock below };
  free = λ s mem privs es lock fact below. free_settled s mem privs es fact lock below;
  owned = λ s mem privs es lock w fact below. owned_settled s mem privs es fact lock below w;
}

-- ---- the owner

pub owning : SectionOwnerLaw
owning s mem privs es w lock p fact worker was owned =
    let fits = fact.fits w p worker was in
    by_stage p.stage owned fits.shaped.stage fits.knows
  where
    owns : (l : ℕ) → l < s.locks → held_levels_in s mem w l ≡ s.height → l ≡ lock → (lock < s.locks) × (owner_in s mem lock ≡ Some w)
    owns l less holds same = subst (λ (k : ℕ). (k < s.locks) × (owner_in s mem k ≡ Some w)) same (less, owner_of s mem l w worker holds)

    by_stage : (stage : Stage) → stage_owned_lock s stage ≡ Some lock → IsStage s p.begun stage → StageKnowledge s (worker_words mem w) (held_levels_in s mem w) (lock_words s mem) p.begun stage
        → (lock < s.locks) × (owner_in s mem lock ≡ Some w)
    by_stage Resting owned is knows = absurd (none-some lock owned)
    by_stage (Recovering recovery) owned is knows = absurd (none-some lock owned)
    by_stage (Posting slate) owned is knows = absurd (none-some lock owned)
    by_stage (Climbing ascent) owned is knows = absurd (none-some lock owned)
    by_stage (Logging log) owned is knows = owns (log_lock log) (log_lock_less s log is) knows.0.holds (same_Some _ _ owned)
    by_stage (Copying redo) owned is knows = owns (redo_lock redo) (redo_lock_less s redo is) knows.0.holds (same_Some _ _ owned)
    by_stage (Leaving (LoadExitTurn l)) owned is knows = owns l is knows.holds (same_Some _ _ owned)
    by_stage (Leaving (StoreExitTurn l turn)) owned is knows = owns l is knows.0.holds (same_Some _ _ owned)
    by_stage (Leaving (Clear l level)) owned is knows = elim (cases_Bool (level == s.height)) [
      | inl top ↦ (let same : Some l ≡ Some lock = rw top at owned in owns l is.0 (knows.0.holds ∙ eqb-true _ _ top) (same_Some _ _ same))
      | inr other ↦ (let none : None ≡ Some lock = rw other at owned in absurd (none-some lock none))
    ]
    by_stage (Leaving (WithdrawPlace l held)) owned is knows = absurd (none-some lock owned)
    by_stage (Leaving (WithdrawAt l held)) owned is knows = absurd (none-some lock owned)
    by_stage (Leaving (WithdrawReply l held)) owned is knows = absurd (none-some lock owned)
    by_stage (Leaving (WithdrawDone l held)) owned is knows = absurd (none-some lock owned)
