-- The conditions that are tested are equivalent to the clauses of an image.
use Rattle.std.proofs.Common.{◌≡◌, ℕ, ◌<◌, ◌↔◌, List, length, get_or, refl, sym, ◌∙◌, ap, subst, arith}
use Rattle.std.specs.Prelude.{Option, Some, None, slice_get}
use Rattle.std.proofs.lemmas.Option.{slice_get-get_or, slice_get_within, same_Some, none-some}
use Rattle.rme_words.specs.declared.shape.Shape.{Shape}
use Rattle.rme_words.specs.declared.address.Address.{Address}
use Rattle.rme_tree.specs.Nodes.{held_levels_in, owner_in}
use Rattle.rme_program.specs.declared.note.Entry.{Entry}
use Rattle.rme_machine.specs.Histories.{lock_row, last_entry_of_lock, last_entry_of_worker, IsLegalNextEntry, HistoryIsLegal}
use Rattle.rme_machine.specs.Views.{worker_words, lock_words}
use Rattle.rme_machine.specs.Invariant.{Invariant}
use Rattle.rme_machine.specs.Clauses.{NodesClause, IsValidMemory}
use Rattle.rme_machine.proofs.Clauses.{fact_good, good_fact}
use Rattle.rme_machine.proofs.Lasts.{last_stands, last_due}
use Rattle.rme_machine.proofs.Lists.{made_get, made_long}
use Rattle.rme_machine.proofs.Locals.{local_rooted}
use Rattle.rme_machine.proofs.Finishing.{rows_long}
use Rattle.rme_history.specs.Legal.{LockHistoriesAreLegal, rows_of_locks}
use Rattle.rme_history.proofs.Machines.{legal_both}
use Rattle.rme_core_image_check.specs.LastEntryLists.{EntryNumbersRise, AreLastEntries}
use Rattle.rme_core_image_check.specs.Workers.{WorkerIsValid, WorkersAreValid}
use Rattle.rme_core_image_check.specs.Locks.{LockIsValid, lock_fold, LocksAreValid, LastScriptFits, LocksMayBeChecked}
use Rattle.rme_core_image_check.proofs.Rising.{rise_back}
use Rattle.rme_core_image_check.proofs.LastEntries.{lasts_long}
use Rattle.rme_core_image_check.proofs.Accounted.{accounted, account_told}
use Rattle.rme_core_image_check.proofs.Standing.{stands_both}

-- If the entries are legal lock by lock and their numbers rise, the history is legal.
legal_of : (s : Shape) (es : List Entry) → LockHistoriesAreLegal s es → EntryNumbersRise s es → HistoryIsLegal s es
legal_of s es legal rise = (legal_both s es).1 ((λ i d within. (rise i (get_or es i d) (slice_get-get_or es i d within)).worker), legal)

module _ (s : Shape) (mem : Address → ℕ) (es : List Entry) where
  pub good_legal : IsValidMemory s mem es → LockHistoriesAreLegal s es
  good_legal good = ((legal_both s es).0 good.legal).1

  pub good_rise : IsValidMemory s mem es → EntryNumbersRise s es
  good_rise good = rise_back s es (λ (w : ℕ). (worker_words mem w).done) good.legal (λ w worker. (good.entries w worker).numbered)

  -- With all workers down, the clauses are the invariant.
  fact_of : IsValidMemory s mem es → Invariant s mem (λ w. None) es
  fact_of good = good_fact s mem (λ w. None) es good (λ w worker. refl)

  -- The lists that were found: the last entries, and the rows.
  module _ (by at : List (Option Entry)) (lasts : AreLastEntries s es by at) where
    last_by_at : (w : ℕ) → w < s.workers → slice_get by w ≡ Some (last_entry_of_worker es w)
    last_by_at w worker = ap (λ (xs : List (Option Entry)). slice_get xs w) lasts.workers ∙ made_get (λ (u : ℕ). last_entry_of_worker es u) s.workers w worker

    last_at_at : (l : ℕ) → l < s.locks → slice_get at l ≡ Some (last_entry_of_lock es l)
    last_at_at l lock = ap (λ (xs : List (Option Entry)). slice_get xs l) lasts.locks ∙ made_get (λ (k : ℕ). last_entry_of_lock es k) s.locks l lock

    account_at : WorkersAreValid s mem by → (w : ℕ) → w < s.workers → WorkerIsValid s (worker_words mem w) (held_levels_in s mem w) (last_entry_of_worker es w)
    account_at all w worker = all w (last_entry_of_worker es w) worker (last_by_at w worker)

    pub good_accounts : IsValidMemory s mem es → WorkersAreValid s mem by
    good_accounts good w last worker here =
        subst (λ (x : Option Entry). WorkerIsValid s (worker_words mem w) (held_levels_in s mem w) x) (same_Some _ _ (sym (last_by_at w worker) ∙ here))
        (accounted s (worker_words mem w) (held_levels_in s mem w) es w ((fact_of good).accounts w worker))

    module _ (found : List (List ℕ)) (are_rows : found ≡ rows_of_locks s es) (legal : LockHistoriesAreLegal s es) (rise : EntryNumbersRise s es) where
      row_at : (l : ℕ) → l < s.locks → slice_get found l ≡ Some (lock_row s es l)
      row_at l lock = ap (λ (xs : List (List ℕ)). slice_get xs l) are_rows ∙ made_get (λ (k : ℕ). lock_row s es k) s.locks l lock

      found_long : length found ≡ s.locks
      found_long = ap (λ (xs : List (List ℕ)). length xs) are_rows ∙ made_long (λ (k : ℕ). lock_row s es k) s.locks

      within_found : (l : ℕ) (row : List ℕ) → slice_get found l ≡ Some row → l < s.locks
      within_found l row here = let less = slice_get_within found l row here in omega (arith, less, found_long)

      within_lasts : (l : ℕ) (last : Option Entry) → slice_get at l ≡ Some last → l < s.locks
      within_lasts l last here = let less = slice_get_within at l last here in let long = (lasts_long s es by at lasts).1 in omega (arith, less, long)

      last_script : (l : ℕ) (last : Option Entry) → last_entry_of_lock es l ≡ last → LastScriptFits s last
      last_script l None is = tt
      last_script l (Some e) is =
          let due : IsLegalNextEntry s _ e = last_due s _ es e (legal_of s es legal rise) (last_stands _ es e is) in
          due.follows.job.script

      -- The preconditions of the tests of locks hold.
      pub can_stand : WorkersAreValid s mem by → LocksMayBeChecked s mem found at
      can_stand accounts = record {
        rows_all = found_long;
        lasts_all = (lasts_long s es by at lasts).1;
        rows_long = λ l row here. ap (λ (xs : List ℕ). length xs) (same_Some _ _ (sym here ∙ row_at l (within_found l row here))) ∙ rows_long s es l;
        scripts = λ l last here. last_script l last (same_Some _ _ (sym (last_at_at l (within_lasts l last here)) ∙ here));
        pending = λ w worker. (account_at accounts w worker).pending;
      }

      -- The conditions together are the clauses.
      pub good_both : NodesClause s mem → WorkersAreValid s mem by → LocksAreValid s mem found at ↔ IsValidMemory s mem es
      good_both nodes accounts =
          let whole : HistoryIsLegal s es = legal_of s es legal rise in (
            (λ stand. fact_good s mem (λ w. None) es record {
              rooted = λ l lock. (local_rooted s mem l).0 (nodes l lock);
              accounts = λ w worker. account_told s (worker_words mem w) (held_levels_in s mem w) es w rise (account_at accounts w worker);
              fits = λ w private worker is. absurd (none-some private is);
              stands = λ l lock. (stands_both s (lock_words s mem l) es l (owner_in s mem l) (worker_words mem) whole).0 (stand l (lock_row s es l) (last_entry_of_lock es l) lock (row_at l lock) (last_at_at l lock));
              legal = whole;
            }),
            (λ good l row last lock row_here last_here.
                let P : List ℕ → Option Entry → Type 0 = λ r x. LockIsValid s (lock_words s mem l) (lock_fold r x) (owner_in s mem l) (worker_words mem) in
                let its : P (lock_row s es l) (last_entry_of_lock es l) = (stands_both s (lock_words s mem l) es l (owner_in s mem l) (worker_words mem) whole).1 ((fact_of good).stands l lock) in
                let with_row : P row (last_entry_of_lock es l) = subst (λ (r : List ℕ). P r (last_entry_of_lock es l)) (same_Some _ _ (sym (row_at l lock) ∙ row_here)) its in
                subst (λ (x : Option Entry). P row x) (same_Some _ _ (sym (last_at_at l lock) ∙ last_here)) with_row),
          )
