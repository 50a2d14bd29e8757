-- The clauses of an image and the invariant say the same.
use Rattle.std.proofs.Common.{◌≡◌, ◌≢◌, ℕ, ◌+◌, ◌*◌, ◌<◌, ◌≤◌, ◌⊎◌, List, refl, sym, ◌∙◌, ap, subst, inl, inr, arith}
use Rattle.std.specs.Prelude.{Bool, true, false, Option, Some, None, slice_get, slice_index, unwrap_or}
use Rattle.std.proofs.lemmas.Bool.{lt-ltb, le-ltb, ltb-true, ltb-false}
use Rattle.std.proofs.lemmas.Option.{same_Some, none-some}
use Rattle.rme_words.specs.declared.shape.Shape.{Shape}
use Rattle.rme_words.specs.declared.address.Address.{Address}
use Rattle.rme_tree.specs.Nodes.{held_levels_in}
use Rattle.rme_script.specs.Cells.{mask_has_cell}
use Rattle.rme_script.specs.Programs.{Program}
use Rattle.rme_script.specs.Scripts.{IsScript}
use Rattle.rme_script.specs.Eval.{eval_of}
use Rattle.rme_script.proofs.Slates.{slate_some, script_slate}
use Rattle.rme_program.specs.declared.note.Entry.{Entry}
use Rattle.rme_machine.specs.Histories.{history_of_lock, place_of, lock_row, last_entry_of_lock, HistoryIsLegal}
use Rattle.rme_machine.specs.Views.{WorkerWords, LockWords, worker_words, is_pending, current_lock, slate_script, slate_job, no_script}
use Rattle.rme_machine.specs.AbstractState.{Privates}
use Rattle.rme_machine.specs.Invariant.{Invariant, WorkerInvariant, SlateHasJob, LockInvariant, OwnedLockInvariant, IsLoggedLock, IsFinishedLock, IsOwnersLastEntry}
use Rattle.rme_machine.specs.Clauses.{NumbersClause, SlateClause, EntriesClause, TurnClause, ShadowClause, IsSectionShadow, CellsClause, ShadowAndCellsClause, IsValidMemory, row_before_place}
use Rattle.rme_machine.proofs.Kept.{owner_holds_in}
use Rattle.rme_machine.proofs.Locals.{local_rooted, one_by_stake}
use Rattle.rme_machine.proofs.Sections.{IsLastSection, last_section, rows_all}

-- A job is pending if `done` is below `begun`.
pending_less : (own : WorkerWords) → own.done < own.begun → is_pending own ≡ true
pending_less own less = lt-ltb own.done own.begun less

past_same : (own : WorkerWords) → own.done ≡ own.begun → is_pending own ≡ false
past_same own same = le-ltb own.done own.begun (omega arith)

-- From the invariant to the clauses, for one worker.
module _ (s : Shape) (own : WorkerWords) (held : ℕ → ℕ) (es : List Entry) (w : ℕ) (account : WorkerInvariant s own held es w) where
  numbers_of : NumbersClause s own held
  numbers_of = record {
    done = account.done;
    begun = account.begun;
    few = account.few;
    some = λ l below some. (account.stake l below some).0;
    past = λ l below some same. let past : is_pending own ≡ false = past_same own same in rw past at (account.stake l below some).1;
    pending = λ l below some less. let pending : is_pending own ≡ true = pending_less own less in rw pending at (account.stake l below some).1;
  }

  slate_of_job : own.done < own.begun → SlateClause s own
  slate_of_job less =
      let job : SlateHasJob s own = account.slate (pending_less own less) in
      let is : (slate_job own).script ≡ job.script = ap (λ (found : Option Program). unwrap_or found no_script) job.slate in
      record {
        lock = job.job.lock;
        script = job.script;
        words = script_slate own.slate_len own.slate job.script job.slate;
        within = subst (λ (script : Program). IsScript s.cells script) is job.job.script;
      }

  entries_of_worker : EntriesClause s own es w
  entries_of_worker = record {
    numbered = account.numbered;
    withdrawn = λ same. account.withdrawn (past_same own same);
    receipt = λ same. account.receipt (past_same own same);
    blank = account.blank;
  }

-- The converse.
account_of : (s : Shape) (own : WorkerWords) (held : ℕ → ℕ) (es : List Entry) (w : ℕ) → NumbersClause s own held → (own.done < own.begun → SlateClause s own)
    → EntriesClause s own es w → WorkerInvariant s own held es w
account_of s own held es w numbers slate entries = record {
  done = numbers.done;
  begun = numbers.begun;
  few = numbers.few;
  stake = λ l below some. (numbers.some l below some, site l below some (is_pending own) refl);
  slate = λ pending. job (slate (ltb-true own.done own.begun pending));
  numbered = entries.numbered;
  withdrawn = λ past. entries.withdrawn (same past);
  receipt = λ past. entries.receipt (same past);
  blank = entries.blank;
}
  where
    same : is_pending own ≡ false → own.done ≡ own.begun
    same past = omega (arith, numbers.done, ltb-false own.done own.begun past)

    site : (l : ℕ) → l < s.locks → 0 < held l → (pending : Bool) → is_pending own ≡ pending → current_lock own ≡ l
    site l below some true is = rw is (numbers.pending l below some (ltb-true own.done own.begun is))
    site l below some false is = rw is (numbers.past l below some (omega (arith, numbers.done, ltb-false own.done own.begun is)))

    job : SlateClause s own → SlateHasJob s own
    job slate =
        let is : slate_script own ≡ Some slate.script = slate_some own.slate_len own.slate slate.script slate.words in
        let script : (slate_job own).script ≡ slate.script = ap (λ (found : Option Program). unwrap_or found no_script) is in
        record {
          script = slate.script;
          slate = is;
          job = record { lock = slate.lock; script = subst (λ (script : Program). IsScript s.cells script) (sym script) slate.within };
        }

-- The same for one lock.
module _ (s : Shape) (lock : LockWords) (es : List Entry) (l : ℕ) (legal : HistoryIsLegal s es) where
  -- What the invariant says of a lock with an owner, by whether the owner's job is pending.
  owned : (u : ℕ) (own : WorkerWords) (pending : Bool) → is_pending own ≡ pending → OwnedLockInvariant s lock es l record { worker = u; words = own } (is_pending own) → OwnedLockInvariant s lock es l record { worker = u; words = own } pending
  owned u own pending is stands = rw is at stands

  turn_owned : (u : ℕ) (own : WorkerWords) → OwnedLockInvariant s lock es l record { worker = u; words = own } (is_pending own)
      → (own.done < own.begun → (lock.turn ≡ 2 * place_of es l) ⊎ (lock.turn ≡ 2 * place_of es l + 1))
      × (own.done ≡ own.begun → ((lock.turn + 1 ≡ 2 * place_of es l) ⊎ (lock.turn ≡ 2 * place_of es l)) × ((last : Entry) × IsOwnersLastEntry es l u own.done last))
  turn_owned u own stands = (
    (λ less. elim (owned u own true (pending_less own less) stands) [
      | inl settled ↦ inl settled.turn
      | inr logged ↦ inr logged.turn
    ]),
    (λ same. let past : OwnedLockInvariant s lock es l record { worker = u; words = own } false = owned u own false (past_same own same) stands in (
      elim past.2 [
        | inl settled ↦ inr settled.turn
        | inr over ↦ inl over.turn
      ],
      (past.0, past.1),
    )),
  )

  -- The shadow words of the running section, whose place follows the lock's entries.
  shadow_now : (own : WorkerWords) (q : ℕ) → lock.turn ≡ 2 * q + 1 → IsLoggedLock s lock (lock_row s es l) (place_of es l) (slate_job own).script
      → IsSectionShadow s lock es l q (slate_job own).script.ops
  shadow_now own q odd logged =
      let at : place_of es l ≡ q = omega (arith, odd, logged.turn) in
      let P : List ℕ → Type 0 = λ row. ((c : ℕ) → mask_has_cell lock.mask c ≡ true → slice_index lock.shadows c ≡ slice_index (eval_of (slate_job own).script.ops row).row c)
      × (lock.shadow_reply ≡ (eval_of (slate_job own).script.ops row).reply) in
      let both : P (row_before_place s es l q) = subst P (sym (ap (λ (n : ℕ). row_before_place s es l n) (sym at) ∙ rows_all s es l)) (logged.shadows, logged.reply) in
      record { mask = logged.mask; shadows = both.0; reply = both.1 }

  -- The shadow words of the finished section, whose place is that of the lock's last entry.
  shadow_then : (last : Entry) (q : ℕ) → lock.turn ≡ 2 * q + 1 → last_entry_of_lock es l ≡ Some last → IsFinishedLock s lock (lock_row s es l) (place_of es l) last
      → (e : Entry) × (slice_get (history_of_lock es l) q ≡ Some e) × IsSectionShadow s lock es l q e.script.ops
  shadow_then last q odd found over =
      let section : IsLastSection s es l last = last_section s es l last legal found in
      let at : section.place ≡ q = omega (arith, odd, over.turn, section.next) in
      let P : ℕ → Type 0 = λ n. (slice_get (history_of_lock es l) n ≡ Some last) × IsSectionShadow s lock es l n last.script.ops in
      let both : P q = subst P at (
        section.there,
        record {
          mask = over.mask;
          shadows = λ c set. over.shadows c set ∙ ap (λ (row : List ℕ). slice_index row c) section.row;
          reply = over.reply ∙ section.reply;
        },
      ) in
      (last, both.0, both.1)

  shadow_owned : (u : ℕ) (own : WorkerWords) → OwnedLockInvariant s lock es l record { worker = u; words = own } (is_pending own) → ShadowClause s lock es l own
  shadow_owned u own stands q odd = (
    (λ less. elim (owned u own true (pending_less own less) stands) [
      | inl settled ↦ absurd (omega (arith, odd, settled.turn))
      | inr logged ↦ shadow_now own q odd logged
    ]),
    (λ same. let past : OwnedLockInvariant s lock es l record { worker = u; words = own } false = owned u own false (past_same own same) stands in
        elim past.2 [
          | inl settled ↦ absurd (omega (arith, odd, settled.turn))
          | inr over ↦ shadow_then past.0 q odd past.1.found over
        ]),
  )

  cells_owned : (u : ℕ) (own : WorkerWords) → OwnedLockInvariant s lock es l record { worker = u; words = own } (is_pending own) → CellsClause s lock es l own
  cells_owned u own stands = record {
    copying = λ less odd. elim (owned u own true (pending_less own less) stands) [
      | inl settled ↦ absurd (omega (arith, odd, settled.turn))
      | inr logged ↦ logged.cells
    ];
    finished = λ same. past (owned u own false (past_same own same) stands);
    settled = λ even. any (is_pending own) stands even;
  }
    where
      past : OwnedLockInvariant s lock es l record { worker = u; words = own } false → lock.cells ≡ lock_row s es l
      past stands = elim stands.2 [
        | inl settled ↦ settled.cells
        | inr over ↦ over.cells
      ]

      any : (pending : Bool) → OwnedLockInvariant s lock es l record { worker = u; words = own } pending → lock.turn ≢ 2 * place_of es l + 1 → lock.cells ≡ lock_row s es l
      any true stands even = elim stands [
        | inl settled ↦ settled.cells
        | inr logged ↦ absurd (even logged.turn)
      ]
      any false stands even = past stands

  turn_of : (owner : Option ℕ) (owns : ℕ → WorkerWords) → LockInvariant s lock es l owner owns → TurnClause lock es l owner owns
  turn_of None owns settled = settled.turn
  turn_of (Some u) owns stands = turn_owned u (owns u) stands

  rows_of : (owner : Option ℕ) (owns : ℕ → WorkerWords) → LockInvariant s lock es l owner owns → ShadowAndCellsClause s lock es l owner owns
  rows_of None owns settled = settled.cells
  rows_of (Some u) owns stands = (shadow_owned u (owns u) stands, cells_owned u (owns u) stands)

  -- The converse.
  logged_of : (own : WorkerWords) → own.done < own.begun → lock.turn ≡ 2 * place_of es l + 1 → ShadowClause s lock es l own → CellsClause s lock es l own
      → IsLoggedLock s lock (lock_row s es l) (place_of es l) (slate_job own).script
  logged_of own less odd shadow cells =
      let made : IsSectionShadow s lock es l (place_of es l) (slate_job own).script.ops = (shadow (place_of es l) odd).0 less in
      let P : List ℕ → Type 0 = λ row. ((c : ℕ) → mask_has_cell lock.mask c ≡ true → slice_index lock.shadows c ≡ slice_index (eval_of (slate_job own).script.ops row).row c)
      × (lock.shadow_reply ≡ (eval_of (slate_job own).script.ops row).reply) in
      let both : P (lock_row s es l) = subst P (rows_all s es l) (made.shadows, made.reply) in
      record { turn = odd; mask = made.mask; shadows = both.0; reply = both.1; cells = cells.copying less odd }

  over_of : (own : WorkerWords) (last : Entry) → own.done ≡ own.begun → lock.turn + 1 ≡ 2 * place_of es l → last_entry_of_lock es l ≡ Some last
      → ShadowClause s lock es l own → CellsClause s lock es l own → IsFinishedLock s lock (lock_row s es l) (place_of es l) last
  over_of own last same odd found shadow cells =
      let section : IsLastSection s es l last = last_section s es l last legal found in
      let made : (e : Entry) × (slice_get (history_of_lock es l) section.place ≡ Some e) × IsSectionShadow s lock es l section.place e.script.ops =
      (shadow section.place (omega (arith, odd, section.next))).1 same in
      let one : made.0 ≡ last = same_Some _ _ (sym made.1 ∙ section.there) in
      let P : Entry → Type 0 = λ e. IsSectionShadow s lock es l section.place e.script.ops in
      let its : P last = subst P one made.2 in
      record {
        turn = odd;
        mask = its.mask;
        shadows = λ c set. its.shadows c set ∙ ap (λ (row : List ℕ). slice_index row c) (sym section.row);
        reply = its.reply ∙ sym section.reply;
        cells = cells.finished same;
      }

  owned_of : (u : ℕ) (own : WorkerWords) → own.done ≤ own.begun
      → (own.done < own.begun → (lock.turn ≡ 2 * place_of es l) ⊎ (lock.turn ≡ 2 * place_of es l + 1))
      × (own.done ≡ own.begun → ((lock.turn + 1 ≡ 2 * place_of es l) ⊎ (lock.turn ≡ 2 * place_of es l)) × ((last : Entry) × IsOwnersLastEntry es l u own.done last))
      → ShadowClause s lock es l own → CellsClause s lock es l own → (pending : Bool) → is_pending own ≡ pending → OwnedLockInvariant s lock es l record { worker = u; words = own } pending
  owned_of u own few turn shadow cells true is =
      let less : own.done < own.begun = ltb-true own.done own.begun is in
      elim (turn.0 less) [
        | inl even ↦ inl (record { turn = even; cells = cells.settled (λ odd. absurd (omega (arith, even, odd))) })
        | inr odd ↦ inr (logged_of own less odd shadow cells)
      ]
  owned_of u own few turn shadow cells false is =
      let same : own.done ≡ own.begun = omega (arith, few, ltb-false own.done own.begun is) in
      let last : ((lock.turn + 1 ≡ 2 * place_of es l) ⊎ (lock.turn ≡ 2 * place_of es l)) × ((last : Entry) × IsOwnersLastEntry es l u own.done last) = turn.1 same in (
        last.1.0,
        last.1.1,
        elim last.0 [
          | inl odd ↦ inr (over_of own last.1.0 same odd last.1.1.found shadow cells)
          | inr even ↦ inl (record { turn = even; cells = cells.finished same })
        ],
      )

  stands_of : (owner : Option ℕ) (owns : ℕ → WorkerWords) → ((u : ℕ) → owner ≡ Some u → (owns u).done ≤ (owns u).begun) → TurnClause lock es l owner owns
      → ShadowAndCellsClause s lock es l owner owns → LockInvariant s lock es l owner owns
  stands_of None owns few turn cells = record { turn = turn; cells = cells }
  stands_of (Some u) owns few turn lock_row = owned_of u (owns u) (few u refl) turn lock_row.0 lock_row.1 (is_pending (owns u)) refl

-- The invariant implies each clause.
pub fact_good : (s : Shape) (mem : Address → ℕ) (privs : Privates) (es : List Entry) → Invariant s mem privs es → IsValidMemory s mem es
fact_good s mem privs es fact = record {
  nodes = λ l below. (local_rooted s mem l).1 (fact.rooted l below);
  one_lock_each = λ w worker one other. one_by_stake s (worker_words mem w) (held_levels_in s mem w) one other (fact.accounts w worker).stake;
  numbers = λ w worker. numbers_of s _ _ es w (fact.accounts w worker);
  slate = λ w worker. slate_of_job s _ _ es w (fact.accounts w worker);
  entries = λ w worker. entries_of_worker s _ _ es w (fact.accounts w worker);
  legal = fact.legal;
  turn = λ l below. turn_of s _ es l fact.legal _ _ (fact.stands l below);
  rows = λ l below. rows_of s _ es l fact.legal _ _ (fact.stands l below);
}

-- The clauses imply the invariant if all workers are down.
pub good_fact : (s : Shape) (mem : Address → ℕ) (privs : Privates) (es : List Entry) → IsValidMemory s mem es → ((w : ℕ) → w < s.workers → privs w ≡ None) → Invariant s mem privs es
good_fact s mem privs es good down = record {
  rooted = λ l below. (local_rooted s mem l).0 (good.nodes l below);
  accounts = λ w worker. account_of s _ _ es w (good.numbers w worker) (good.slate w worker) (good.entries w worker);
  fits = λ w p worker is. absurd (none-some p (sym (down w worker) ∙ is));
  stands = λ l below. stands_of s _ es l good.legal _ _ (λ u owns. (good.numbers u (owner_holds_in s mem l u owns).0).done) (good.turn l below) (good.rows l below);
  legal = good.legal;
}
