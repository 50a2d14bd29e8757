-- The law of the store of Done that finishes a section.
use Rattle.std.proofs.Common.{◌≡◌, ℕ, ◌+◌, ◌/◌, ◌<◌, List, [], ◌∷◌, ◌++◌, length, refl, sym, ◌∙◌, ap, subst, inl, inr, arith}
use Rattle.std.specs.Prelude.{Bool, true, false, ◌==◌, Option, Some, replicate, slice_index}
use Rattle.std.proofs.lemmas.Bool.{cases_Bool, both_ways, false_from_ne_true, ltb-true, le-ltb}
use Rattle.std.proofs.lemmas.List.{ext_get_or, length-replicate}
use Rattle.std.proofs.lemmas.Option.{same_Some}
use Rattle.rme_words.specs.declared.shape.Shape.{Shape}
use Rattle.rme_words.specs.declared.address.Address.{Address}
use Rattle.rme_words.specs.declared.address.Address.TheVariants.{Done}
use Rattle.rme_words.specs.Words.{StoreEffect}
use Rattle.rme_tree.specs.Nodes.{held_levels_in}
use Rattle.rme_script.specs.Cells.{mask_has_cell, ops_name_cell}
use Rattle.rme_script.specs.Eval.{eval_of}
use Rattle.rme_script.specs.Programs.{Program}
use Rattle.rme_script.specs.declared.job.Job.{Job}
use Rattle.rme_script.proofs.Laws.{eval_length, eval_unnamed}
use Rattle.rme_program.specs.declared.note.Receipt.{Receipt}
use Rattle.rme_program.specs.declared.note.Entry.{Entry}
use Rattle.rme_program.specs.declared.private.Private.{Private}
use Rattle.rme_program.specs.declared.stage.Stage.TheVariants.{Copying, Leaving}
use Rattle.rme_program.specs.declared.stage.Redo.TheVariants.{StoreDone}
use Rattle.rme_program.specs.declared.stage.Departure.TheVariants.{LoadExitTurn}
use Rattle.rme_program.specs.declared.stage.Visit.{Visit}
use Rattle.rme_machine.specs.declared.label.Act.TheVariants.{Finish}
use Rattle.rme_machine.specs.declared.stance.JobStance.TheVariants.{Finished}
use Rattle.rme_machine.specs.declared.stance.JobStance.TheVariants as stance
use Rattle.rme_machine.specs.Histories.{place_of, row_after_entries, lock_row, IsLegalNextEntry, last_entry_of_worker, withdrawn_numbers, numbers_of_worker, NumbersRise}
use Rattle.rme_machine.specs.Machine.{WorkerState, with_worker, with_entry}
use Rattle.rme_machine.specs.Views.{WorkerWords, LockWords, worker_words, lock_words, is_pending, current_lock, slate_job}
use Rattle.rme_machine.specs.Knowledge.{PrivateInvariant, ListsAgreeBelow, RedoKnowledge}
use Rattle.rme_machine.specs.Invariant.{Invariant, WorkerInvariant, IsLastReceiptWords, IsLoggedLock, IsFinishedLock, OwnedLockInvariant}
use Rattle.rme_machine.specs.AbstractState.{Privates, abstract_state, abstract_worker, lock_owned_by_worker, abstract_worker_by, is_in_section_or_exit, last_entry_job}
use Rattle.rme_machine.specs.Changes.{PrivateChange}
use Rattle.rme_machine.specs.Laws.{RefinementStep, concrete_state}
use Rattle.rme_machine.proofs.Moves.{OwnMove, done_move, cells_long}
use Rattle.rme_machine.proofs.Kept.{finish_kept}
use Rattle.rme_machine.proofs.Shows.{Frame, owned_at, own_frame, entry_frame, shown_me, shown_finishes}
use Rattle.rme_machine.proofs.Historical.{place_same, row_same, last_at_same, last_by_same, numbers_same, rises_more, withdrawn_finished, place_small}
use Rattle.rme_machine.proofs.Owning.{Owner, stands_odd, same_lock}

-- The row of a lock has one value for each cell.
row_long : (row : List ℕ) (es : List Entry) (lock : ℕ) → length (row_after_entries row es lock) ≡ length row
unfolding row_after_entries
row_long row [] lock = refl
row_long row (e ∷ es) lock = elim (cases_Bool (e.receipt.lock == lock)) [
  | inl t ↦ rw t (row_long (eval_of e.script.ops row).row es lock ∙ eval_length e.script.ops row)
  | inr f ↦ rw f (row_long row es lock)
]

pub rows_long : (s : Shape) (es : List Entry) (lock : ℕ) → length (lock_row s es lock) ≡ s.cells
rows_long s es lock = row_long (replicate s.cells 0) es lock ∙ length-replicate {A = ℕ} s.cells 0

-- Once all of the mask's cells are copied, the cells are the result of the script.
all_copied : (s : Shape) (lock : LockWords) (row : List ℕ) (place : ℕ) (script : Program) → IsLoggedLock s lock row place script
    → ListsAgreeBelow lock.mask s.cells lock.cells lock.shadows → length lock.cells ≡ s.cells → length row ≡ s.cells → lock.cells ≡ (eval_of script.ops row).row
all_copied s lock row place script logged copied long long_row =
    ext_get_or 0 lock.cells (eval_of script.ops row).row (long ∙ sym (eval_length script.ops row ∙ long_row))
    (λ c within. let below : c < s.cells = omega (arith, within, long) in
    elim (cases_Bool (mask_has_cell lock.mask c)) [
      | inl set ↦ copied c below set ∙ logged.shadows c set
      | inr unset ↦ elim (logged.cells c below) [
        | inl old ↦ old ∙ sym (eval_unnamed script.ops row c (unnamed c unset))
        | inr new ↦ new
      ]
    ])
  where
    unnamed : (c : ℕ) → mask_has_cell lock.mask c ≡ false → ops_name_cell script.ops c ≡ false
    unnamed c unset = false_from_ne_true (ops_name_cell script.ops c) (λ t. both_ways (mask_has_cell lock.mask c) unset (logged.mask.named c t))

-- The lock of a finished section still has whole shadow words.
logged_over : (s : Shape) (lock : LockWords) (row row' : List ℕ) (place place' : ℕ) (script : Program) (receipt : Receipt) → IsLoggedLock s lock row place script
    → ListsAgreeBelow lock.mask s.cells lock.cells lock.shadows → length lock.cells ≡ s.cells → length row ≡ s.cells → receipt.reply ≡ lock.shadow_reply
    → row' ≡ (eval_of script.ops row).row → place' ≡ place + 1 → IsFinishedLock s lock row' place' record { receipt = receipt; script = script }
logged_over s lock row row' place place' script receipt logged copied long long_row replies lock_row places =
    let turn = logged.turn in
    record {
      turn = omega (arith, turn, places);
      mask = logged.mask;
      shadows = λ c set. logged.shadows c set ∙ ap (λ (cells : List ℕ). slice_index cells c) (sym lock_row);
      reply = sym replies;
      cells = all_copied s lock row place script logged copied long long_row ∙ sym lock_row;
    }

-- The abstract state of a worker that has finished its section.
shows_finished : (owned : Option ℕ) (own : WorkerWords) (private : Option Private) (last : Job) (withdrawn : List ℕ) (l k : ℕ) (p : Private) (job : Job) (gone : List ℕ)
    → owned ≡ Some l → is_pending own ≡ false → own.begun ≡ k → private ≡ Some p → is_in_section_or_exit (Some p) ≡ true → last ≡ job → withdrawn ≡ gone
    → abstract_worker_by owned own private last withdrawn ≡ record { up = true; entered = true; asked = k; withdrawn = gone; stance = Finished k job }
shows_finished owned own private last withdrawn l k p job gone owns past begun is inside jobs same = rw (owns, past, begun, is, inside, jobs, same) refl

shows_inside : (owned : Option ℕ) (own : WorkerWords) (private : Option Private) (last : Job) (withdrawn : List ℕ) (l : ℕ) (p : Private)
    → owned ≡ Some l → is_pending own ≡ true → private ≡ Some p → is_in_section_or_exit (Some p) ≡ true
    → abstract_worker_by owned own private last withdrawn ≡ record { up = true; entered = true; asked = own.begun; withdrawn = withdrawn; stance = stance.Inside own.begun (slate_job own) }
shows_inside owned own private last withdrawn l p owns pending is inside = rw (owns, pending, is, inside) refl

-- The entry of a section.
abbrev receipt_of : ℕ → ℕ → Visit → ℕ → Receipt
receipt_of w b visit reply = record { worker = w; lock = visit.lock; number = b; place = visit.turn / 2; reply = reply }

abbrev entry_of : WorkerWords → ℕ → ℕ → Visit → ℕ → Entry
entry_of own w b visit reply = record { receipt = receipt_of w b visit reply; script = (slate_job own).script }

module _ (s : Shape) (mem : Address → ℕ) (privs : Privates) (es : List Entry) (w b : ℕ) (visit : Visit) (mask reply : ℕ) (fact : Invariant s mem privs es)
    (owner : Owner s (worker_words mem w) (held_levels_in s mem w) w b visit.lock)
    (knows : RedoKnowledge s (worker_words mem w) (lock_words s mem visit.lock) (StoreDone visit mask reply)) where
  logged : IsLoggedLock s (lock_words s mem visit.lock) (lock_row s es visit.lock) (place_of es visit.lock) (slate_job (worker_words mem w)).script
  logged = let turn = knows.0.0 in stands_odd s mem privs es w b visit.lock fact owner (omega (arith, turn))

  placed : visit.turn / 2 ≡ place_of es visit.lock
  placed = let turn = knows.0.0 in let odd = logged.turn in omega (arith, turn, odd)

  replied : reply ≡ (eval_of (slate_job (worker_words mem w)).script.ops (lock_row s es visit.lock)).reply
  replied = let same : reply ≡ (lock_words s mem visit.lock).shadow_reply = knows.3 in same ∙ logged.reply

  due : IsLegalNextEntry s es (entry_of (worker_words mem w) w b visit reply)
  due = record {
    worker = owner.worker;
    follows = record {
      job = record { lock = owner.lock; script = ((fact.accounts w owner.worker).slate owner.at.pending).job.script };
      place = placed;
      reply = replied;
    };
  }

  begun_next : b ≡ (worker_words mem w).done + 1
  begun_next =
      let later : (worker_words mem w).done < (worker_words mem w).begun = ltb-true (worker_words mem w).done (worker_words mem w).begun owner.at.pending in
      let most = (fact.accounts w owner.worker).begun in
      let known = owner.at.known in
      omega (arith, later, most, known)

  past : is_pending record (worker_words mem w) { done = b } ≡ false
  past = let known = owner.at.known in le-ltb b (worker_words mem w).begun (omega (arith, known))

  over : IsFinishedLock s (lock_words s mem visit.lock) (lock_row s (es ++ entry_of (worker_words mem w) w b visit reply ∷ []) visit.lock)
      (place_of (es ++ entry_of (worker_words mem w) w b visit reply ∷ []) visit.lock) (entry_of (worker_words mem w) w b visit reply)
  over =
      let lock : LockWords = lock_words s mem visit.lock in
      logged_over s lock (lock_row s es visit.lock) (lock_row s (es ++ entry_of (worker_words mem w) w b visit reply ∷ []) visit.lock) (place_of es visit.lock)
      (place_of (es ++ entry_of (worker_words mem w) w b visit reply ∷ []) visit.lock) (slate_job (worker_words mem w)).script (receipt_of w b visit reply) logged
      (subst (λ (m : ℕ). ListsAgreeBelow m s.cells lock.cells lock.shadows) knows.1 knows.2) (cells_long s mem visit.lock) (rows_long s es visit.lock) knows.3
      (row_same (replicate s.cells 0) es (entry_of (worker_words mem w) w b visit reply) visit.lock refl)
      (place_same es (entry_of (worker_words mem w) w b visit reply) visit.lock refl)

  stands : OwnedLockInvariant s (lock_words s mem visit.lock) (es ++ entry_of (worker_words mem w) w b visit reply ∷ []) visit.lock record { worker = w; words = record (worker_words mem w) { done = b } } (is_pending record (worker_words mem w) { done = b })
  stands =
      let e : Entry = entry_of (worker_words mem w) w b visit reply in
      let P : Bool → Type 0 = λ t. OwnedLockInvariant s (lock_words s mem visit.lock) (es ++ e ∷ []) visit.lock record { worker = w; words = record (worker_words mem w) { done = b } } t in
      let finished : P false = (e, record { found = last_at_same es e visit.lock refl; by = refl; under = refl }, inr over) in
      subst P (sym past) finished

  receipt : IsLastReceiptWords record (worker_words mem w) { done = b } (es ++ entry_of (worker_words mem w) w b visit reply ∷ []) w
  receipt = record {
    last = entry_of (worker_words mem w) w b visit reply;
    found = last_by_same es (entry_of (worker_words mem w) w b visit reply) w refl;
    number = refl;
    reply = knows.4;
    place = knows.5;
    at = knows.6;
  }

  account : WorkerInvariant s record (worker_words mem w) { done = b } (held_levels_in s mem w) (es ++ entry_of (worker_words mem w) w b visit reply ∷ []) w
  account =
      let own : WorkerWords = worker_words mem w in
      let new : WorkerWords = record own { done = b } in
      let e : Entry = entry_of own w b visit reply in
      let old : WorkerInvariant s own (held_levels_in s mem w) es w = fact.accounts w owner.worker in
      let known = owner.at.known in
      let next = begun_next in
      let site_past : current_lock new ≡ visit.lock = (let there : current_lock new ≡ own.at = rw past refl in there ∙ knows.6) in
      let site_pending : current_lock own ≡ visit.lock = (let there : current_lock own ≡ own.slate_lock = rw owner.at.pending refl in there ∙ owner.at.slate) in
      let small = place_small s mem privs es visit.lock fact in
      let at = placed in
      let place : own.place ≡ visit.turn / 2 = knows.5 in
      record {
        done = omega (arith, known);
        begun = omega (arith, known);
        few = old.few;
        stake = λ l lock holds. let stake = old.stake l lock holds in (stake.0, site_past ∙ sym site_pending ∙ stake.1);
        slate = λ pending. absurd (both_ways (is_pending new) past pending);
        numbered = subst (λ (ks : List ℕ). NumbersRise 0 b ks) (sym (numbers_same es e w refl)) (rises_more 0 own.done b (numbers_of_worker es w) (omega (arith, next)) (omega (arith, next)) old.numbered);
        withdrawn = λ done some gone. absurd (omega (arith, gone, place, at, small));
        receipt = λ done some there. receipt;
        blank = λ none. absurd (omega (arith, none, known, next));
      }

  fits : PrivateInvariant s record (worker_words mem w) { done = b } (held_levels_in s mem w) (lock_words s mem) w record { worker = w; begun = b; stage = Leaving (LoadExitTurn visit.lock) }
  fits = record {
    is = refl;
    shaped = record { worker = owner.worker; begun = owner.few; stage = owner.lock };
    knows = record { known = owner.at.known; some = (let next = begun_next in omega (arith, next)); past = past; site = knows.6; holds = owner.at.holds };
  }

  -- The receipt is that of the abstract machine.
  same_receipt : receipt_of w b visit reply
      ≡ record {
        worker = w;
        lock = (worker_words mem w).slate_lock;
        number = (worker_words mem w).begun;
        place = place_of es (worker_words mem w).slate_lock;
        reply = (eval_of (slate_job (worker_words mem w)).script.ops (lock_row s es (worker_words mem w).slate_lock)).reply;
      }
  same_receipt = rw (owner.at.slate, owner.at.known, placed, replied) refl

-- The store of Done finishes the section and appends its entry to the history.
pub store_done : (s : Shape) (mem mem' : Address → ℕ) (privs privs' : Privates) (es : List Entry) (w b : ℕ) (visit : Visit) (mask reply : ℕ) → Invariant s mem privs es
    → Owner s (worker_words mem w) (held_levels_in s mem w) w b visit.lock
    → RedoKnowledge s (worker_words mem w) (lock_words s mem visit.lock) (StoreDone visit mask reply)
    → privs w ≡ Some record { worker = w; begun = b; stage = Copying (StoreDone visit mask reply) } → StoreEffect mem mem' (Done w) b
    → PrivateChange privs privs' w (Some record { worker = w; begun = b; stage = Leaving (LoadExitTurn visit.lock) })
    → RefinementStep s (concrete_state mem privs es) (concrete_state mem' privs' (es ++ record { receipt = record { worker = w; lock = visit.lock; number = b; place = visit.turn / 2; reply = reply }; script = (slate_job (worker_words mem w)).script } ∷ []))
    w (Finish record { worker = w; lock = visit.lock; number = b; place = visit.turn / 2; reply = reply })
store_done s mem mem' privs privs' es w b visit mask reply fact owner knows was wrote became =
    let own : WorkerWords = worker_words mem w in
    let new : WorkerWords = record own { done = b } in
    let e : Entry = entry_of own w b visit reply in
    let later : Private = record { worker = w; begun = b; stage = Leaving (LoadExitTurn visit.lock) } in
    let move : OwnMove s mem mem' w new = done_move s mem mem' w b wrote in
    let kept : Invariant s mem' privs' (es ++ e ∷ []) = finish_kept s mem mem' privs privs' es w visit.lock (Some later) new e fact owner.worker owner.lock owner.at.holds move became refl refl
    (due s mem privs es w b visit mask reply fact owner knows) (account s mem privs es w b visit mask reply fact owner knows)
    (λ q same. subst (λ (r : Private). PrivateInvariant s new (held_levels_in s mem w) (lock_words s mem) w r) (same_Some later q same) (fits s mem privs es w b visit mask reply fact owner knows))
    (stands s mem privs es w b visit mask reply fact owner knows) in
    let frame : Frame s mem mem' privs privs' es (es ++ e ∷ []) w = entry_frame s mem mem' privs privs' es w e refl (own_frame s mem mem' privs privs' es w (Some later) new move became) in
    let owned : lock_owned_by_worker s mem w ≡ Some visit.lock = owned_at s mem privs es w visit.lock fact owner.worker owner.lock owner.at.holds in
    let before : abstract_worker s mem privs es w
    ≡ record { up = true; entered = true; asked = own.begun; withdrawn = withdrawn_numbers es w own.done; stance = stance.Inside own.begun (slate_job own) } =
    shows_inside (lock_owned_by_worker s mem w) own (privs w) (last_entry_job (last_entry_of_worker es w)) (withdrawn_numbers es w own.done) visit.lock
    record { worker = w; begun = b; stage = Copying (StoreDone visit mask reply) } owned owner.at.pending was refl in
    let last : last_entry_job (last_entry_of_worker (es ++ e ∷ []) w) ≡ slate_job own =
    ap last_entry_job (last_by_same es e w refl) ∙ ap (λ (l : ℕ). last_entry_job (Some record { receipt = record (receipt_of w b visit reply) { lock = l }; script = (slate_job own).script })) (sym owner.at.slate) in
    let gone : withdrawn_numbers (es ++ e ∷ []) w (worker_words mem' w).done ≡ withdrawn_numbers es w own.done =
    (let next : b ≡ own.done + 1 = begun_next s mem privs es w b visit mask reply fact owner knows in
    ap (λ (o : WorkerWords). withdrawn_numbers (es ++ e ∷ []) w o.done) move.own
    ∙ ap (λ (n : ℕ). withdrawn_numbers (es ++ e ∷ []) w n) next
    ∙ withdrawn_finished es e w own.done refl next) in
    let after : abstract_worker s mem' privs' (es ++ e ∷ []) w
    ≡ record { up = true; entered = true; asked = own.begun; withdrawn = withdrawn_numbers es w own.done; stance = Finished own.begun (slate_job own) } =
    shows_finished (lock_owned_by_worker s mem' w) (worker_words mem' w) (privs' w) (last_entry_job (last_entry_of_worker (es ++ e ∷ []) w)) (withdrawn_numbers (es ++ e ∷ []) w (worker_words mem' w).done)
    visit.lock own.begun later (slate_job own) (withdrawn_numbers es w own.done) (same_lock s mem mem' w (λ k. move.trees.held w k) ∙ owned)
    (ap is_pending move.own ∙ past s mem privs es w b visit mask reply fact owner knows) (ap (λ (o : WorkerWords). o.begun) move.own) became.at refl last gone in (
      kept,
      record {
        me = abstract_worker s mem privs es w;
        is_me = shown_me s mem privs es w owner.worker;
        goes = (
          own.begun,
          slate_job own,
          ap (λ (m : WorkerState). m.up) before,
          ap (λ (m : WorkerState). m.entered) before,
          ap (λ (m : WorkerState). m.stance) before,
          same_receipt s mem privs es w b visit mask reply fact owner knows,
          shown_finishes s mem mem' privs privs' es w owner.worker e frame (λ l lock. move.trees.owner l)
              ∙ ap (λ (m : WorkerState). with_entry (with_worker (abstract_state s mem privs es) w m) e) after,
        );
      },
    )
