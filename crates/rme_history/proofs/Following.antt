-- Whether the entry at an index of a list follows from those before it, by the state of the replay there.
use Rattle.std.proofs.Common.{◌≡◌, ◌≢◌, ℕ, ◌+◌, ◌<◌, List, ◌∷◌, [], ◌++◌, length, take, get_or, sym, ◌∙◌, ap, subst, inl, inr, arith}
use Rattle.std.specs.Prelude.{slice_get, slice_set, Some}
use Rattle.std.proofs.lemmas.Option.{slice_get_cases, same_Some}
use Rattle.rme_words.specs.declared.shape.Shape.{Shape}
use Rattle.rme_script.specs.Eval.{RunResult, eval_of}
use Rattle.rme_script.specs.Scripts.{IsScript}
use Rattle.rme_script.proofs.Lists.{take_next}
use Rattle.rme_program.specs.declared.note.Entry.{Entry}
use Rattle.rme_script.specs.Jobs.{IsJob}
use Rattle.rme_machine.specs.Histories.{place_of, lock_row, entry_job, EntryFollows}
use Rattle.rme_machine.proofs.Finishing.{rows_long}
use Rattle.rme_machine.proofs.Lists.{made_at, made_long}
use Rattle.rme_history.specs.Legal.{LockHistoriesAreLegal, IsFirstBrokenEntry}
use Rattle.rme_history.specs.Folds.{IsReplayFold, EntryFollowsAt}
use Rattle.rme_history.proofs.Legal.{legal_more, follows_in}
use Rattle.rme_history.proofs.Folds.{fold_more}

-- The state before the entry at i, which is e, and the values read for its lock.
module _ (s : Shape) (entries : List Entry) (i : ℕ) (e : Entry) (here : slice_get entries i ≡ Some e) where
  pub not_followed : ¬ EntryFollows s (take i entries) e → ¬ EntryFollowsAt s entries i
  not_followed broken all = broken (all e here)

  pub followed : EntryFollows s (take i entries) e → EntryFollowsAt s entries i
  followed follows d there = subst (λ (x : Entry). EntryFollows s (take i entries) x) (same_Some e d (sym here ∙ there)) follows

  pub fold_followed : (cells : List (List ℕ)) (counts : List ℕ) → IsReplayFold s (take i entries ++ e ∷ []) cells counts → IsReplayFold s (take (i + 1) entries) cells counts
  fold_followed cells counts fold = subst (λ (es : List Entry). IsReplayFold s es cells counts) (sym (take_next entries i e here)) fold

-- The state after the earlier entries, for an entry whose job is of the shape.
module _ (s : Shape) (es : List Entry) (e : Entry) (cells : List (List ℕ)) (counts : List ℕ) (fold : IsReplayFold s es cells counts) (job : IsJob s (entry_job e)) where
  pub rows_reach : e.receipt.lock < length cells
  rows_reach =
      let many : length cells ≡ s.locks = ap (λ (xs : List (List ℕ)). length xs) fold.rows ∙ made_long (λ (lock : ℕ). lock_row s es lock) s.locks in
      let below = job.lock in
      omega (arith, many, below)

  pub places_reach : e.receipt.lock < length counts
  places_reach =
      let many : length counts ≡ s.locks = ap (λ (xs : List ℕ). length xs) fold.places ∙ made_long (λ (lock : ℕ). place_of es lock) s.locks in
      let below = job.lock in
      omega (arith, many, below)

  -- The count that was read is the next place of the lock.
  module _ (count : ℕ) (read : count ≡ get_or counts e.receipt.lock count) where
    count_read : count ≡ place_of es e.receipt.lock
    count_read =
        read ∙ ap (λ (xs : List ℕ). get_or xs e.receipt.lock count) fold.places
        ∙ made_at (λ (lock : ℕ). place_of es lock) s.locks e.receipt.lock count job.lock

    pub misplaced : e.receipt.place ≢ count → ¬ EntryFollows s es e
    misplaced apart follows = apart (follows.place ∙ sym count_read)

    -- The row that was read is the lock's.
    module _ (row : List ℕ) (found : row ≡ get_or cells e.receipt.lock row) where
      row_read : row ≡ lock_row s es e.receipt.lock
      row_read =
          found ∙ ap (λ (xs : List (List ℕ)). get_or xs e.receipt.lock row) fold.rows
          ∙ made_at (λ (lock : ℕ). lock_row s es lock) s.locks e.receipt.lock row job.lock

      pub script_fits : IsScript (length row) e.script
      script_fits =
          let long : length row ≡ s.cells = ap (λ (xs : List ℕ). length xs) row_read ∙ rows_long s es e.receipt.lock in
          subst (λ (n : ℕ). IsScript n e.script) (sym long) job.script

      -- The result of its script.
      module _ (left : List ℕ) (reply : ℕ) (end : eval_of e.script.ops row ≡ record { row = left; reply = reply }) where
        ran : eval_of e.script.ops (lock_row s es e.receipt.lock) ≡ record { row = left; reply = reply }
        ran = ap (λ (r : List ℕ). eval_of e.script.ops r) (sym row_read) ∙ end

        pub misanswered : reply ≢ e.receipt.reply → ¬ EntryFollows s es e
        misanswered apart follows = apart (sym (follows.reply ∙ ap (λ (r : RunResult). r.reply) ran))

        pub goes_on : e.receipt.place ≡ count → reply ≡ e.receipt.reply → EntryFollows s es e
        goes_on placed answered = record {
          job = job;
          place = placed ∙ count_read;
          reply = sym answered ∙ sym (ap (λ (r : RunResult). r.reply) ran);
        }

        pub fold_goes_on : IsReplayFold s (es ++ e ∷ []) (slice_set cells e.receipt.lock left) (slice_set counts e.receipt.lock (count + 1))
        fold_goes_on =
            fold_more s es e cells counts left (count + 1) job.lock (sym (ap (λ (r : RunResult). r.row) ran))
            (ap (λ (n : ℕ). n + 1) count_read) fold

-- The list, if the entry at i follows and if it does not.
module _ (s : Shape) (entries : List Entry) (i : ℕ) (within : i < length entries) (before : LockHistoriesAreLegal s (take i entries)) where
  found : (e : Entry) × (slice_get entries i ≡ Some e)
  found = elim (slice_get_cases entries i).1 [
    | inl inside ↦ (inside.0, inside.2)
    | inr past ↦ absurd (omega (arith, past.0, within))
  ]

  pub first_broken : ¬ EntryFollowsAt s entries i → IsFirstBrokenEntry s entries i
  first_broken broken =
      let e : Entry = found.0 in
      let here : slice_get entries i ≡ Some e = found.1 in
      record {
        before = before;
        entry = e;
        here = here;
        broken = λ follows. broken (λ d there. subst (λ (x : Entry). EntryFollows s (take i entries) x) (same_Some e d (sym here ∙ there)) follows);
      }

  pub goes_on_legal : EntryFollowsAt s entries i → LockHistoriesAreLegal s (take (i + 1) entries)
  goes_on_legal follows =
      let e : Entry = found.0 in
      let here : slice_get entries i ≡ Some e = found.1 in
      subst (λ (es : List Entry). LockHistoriesAreLegal s es) (sym (take_next entries i e here)) (legal_more s (take i entries) e before (follows e here))

-- Every entry of a legal list follows.
pub never_broken : (s : Shape) (entries : List Entry) (i : ℕ) → ¬ EntryFollowsAt s entries i → LockHistoriesAreLegal s entries → ⊥
never_broken s entries i broken legal = broken (λ e here. follows_in s entries i e legal here)
