-- The condition on a lock by its last entry is the invariant's.
use Rattle.std.proofs.Common.{◌≡◌, ℕ, ◌+◌, ◌*◌, ◌<◌, ◌⊎◌, ◌↔◌, List, refl, sym, ◌∙◌, ap, subst, inl, inr}
use Rattle.std.specs.Prelude.{Bool, true, false, slice_index, IsTrue, Option, Some, None}
use Rattle.rme_words.specs.declared.shape.Shape.{Shape}
use Rattle.rme_script.specs.Programs.{Program}
use Rattle.rme_script.specs.Eval.{RunResult, eval_of}
use Rattle.rme_program.specs.declared.note.Entry.{Entry}
use Rattle.rme_machine.specs.Histories.{place_of, lock_row, last_entry_of_lock, HistoryIsLegal}
use Rattle.rme_machine.specs.Views.{WorkerWords, LockWords, is_pending}
use Rattle.rme_machine.specs.Invariant.{IsLoggedLock, IsOwnersLastEntry, LockInvariant, OwnedLockInvariant}
use Rattle.rme_core_image_check.specs.Locks.{IsShadowOfRow, LockFold, lock_fold, OwnedLockIsValid, LockIsValid}
use Rattle.rme_core_image_check.proofs.LastEntries.{placed}

-- A lock is logged if its shadow is that of the script on the row and each cell is that of the row or of the script's
-- result.
pub logged_is : (s : Shape) (lock : LockWords) (row : List ℕ) (place : ℕ) (script : Program) (answer : Bool) (left : List ℕ) (reply : ℕ)
    → lock.turn ≡ 2 * place + 1 → eval_of script.ops row ≡ record { row = left; reply = reply } → IsShadowOfRow s lock script.ops left reply
    → IsTrue answer ↔ ((c : ℕ) → c < s.cells → (slice_index lock.cells c ≡ slice_index row c) ⊎ (slice_index lock.cells c ≡ slice_index left c))
    → IsTrue answer ↔ IsLoggedLock s lock row place script
logged_is s lock row place script answer left reply turn ran shadow told = (
  (λ yes_. record {
    turn = turn;
    mask = shadow.mask;
    shadows = λ c set. shadow.shadows c set ∙ ap (λ (r : RunResult). slice_index r.row c) (sym ran);
    reply = shadow.reply ∙ ap (λ (r : RunResult). r.reply) (sym ran);
    cells = λ c below. elim (told.0 yes_ c below) [
      | inl same ↦ inl same
      | inr same ↦ inr (same ∙ ap (λ (r : RunResult). slice_index r.row c) (sym ran))
    ];
  }),
  (λ logged. told.1 (λ c below. elim (logged.cells c below) [
    | inl same ↦ inl same
    | inr same ↦ inr (same ∙ ap (λ (r : RunResult). slice_index r.row c) ran)
  ])),
)

module _ (s : Shape) (lock : LockWords) (es : List Entry) (l : ℕ) where
  abbrev placed_fold : Option Entry → LockFold
  placed_fold last = record { row = lock_row s es l; place = place_of es l; last = last }

  abbrev OwnedBy : Option Entry → ℕ → WorkerWords → Bool → Type 0
  OwnedBy last u own pending = OwnedLockIsValid s lock (placed_fold last) u own pending

  owned_by : (u : ℕ) (own : WorkerWords) (pending : Bool) → OwnedLockInvariant s lock es l record { worker = u; words = own } pending → OwnedBy (last_entry_of_lock es l) u own pending
  owned_by u own true stands = stands
  owned_by u own false stands =
      let its : IsOwnersLastEntry es l u own.done stands.0 = stands.1 in
      subst (λ (last : Option Entry). OwnedBy last u own false) (sym its.found) (record { by = its.by; under = its.under }, stands.2)

  owned_back : (u : ℕ) (own : WorkerWords) (pending : Bool) → OwnedBy (last_entry_of_lock es l) u own pending → OwnedLockInvariant s lock es l record { worker = u; words = own } pending
  owned_back u own true stands = stands
  owned_back u own false stands = go (last_entry_of_lock es l) refl stands
    where
      go : (last : Option Entry) → last_entry_of_lock es l ≡ last → OwnedBy last u own false → OwnedLockInvariant s lock es l record { worker = u; words = own } false
      go None found none = absurd none
      go (Some e) found stands = (e, record { found = found; by = stands.0.by; under = stands.0.under }, stands.1)

  by_place : (owner : Option ℕ) (owns : ℕ → WorkerWords) → LockInvariant s lock es l owner owns → LockIsValid s lock (placed_fold (last_entry_of_lock es l)) owner owns
  by_place None owns stands = stands
  by_place (Some u) owns stands = owned_by u (owns u) (is_pending (owns u)) stands

  from_place : (owner : Option ℕ) (owns : ℕ → WorkerWords) → LockIsValid s lock (placed_fold (last_entry_of_lock es l)) owner owns → LockInvariant s lock es l owner owns
  from_place None owns stands = stands
  from_place (Some u) owns stands = owned_back u (owns u) (is_pending (owns u)) stands

  pub stands_both : (owner : Option ℕ) (owns : ℕ → WorkerWords) → HistoryIsLegal s es
      → LockIsValid s lock (lock_fold (lock_row s es l) (last_entry_of_lock es l)) owner owns ↔ LockInvariant s lock es l owner owns
  stands_both owner owns legal =
      let P : ℕ → Type 0 = λ place. LockIsValid s lock record { row = lock_row s es l; place = place; last = last_entry_of_lock es l } owner owns in (
        (λ stands. from_place owner owns (subst P (placed s es l legal) stands)),
        (λ stands. subst P (sym (placed s es l legal)) (by_place owner owns stands)),
      )
