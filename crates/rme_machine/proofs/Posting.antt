-- The steps of a worker that posts its job: the stores of its slate are quiet, and the store of `begun` asks for the
-- lock.
use Rattle.std.proofs.Common.{◌≡◌, ℕ, ◌+◌, ◌-◌, ◌*◌, ◌/◌, ◌%◌, ◌<◌, ◌≤◌, List, length, take, refl, sym, ◌∙◌, ap, subst, arith}
use Rattle.std.specs.Prelude.{Bool, true, false, ◌==◌, nat_lt, slice_index, slice_set, Some, None, if◌then◌else◌}
use Rattle.std.proofs.lemmas.Bool.{eqb-true, eqb-false, ltb-true, ltb-false, lt-ltb}
use Rattle.std.proofs.lemmas.List.{length-append, length-replicate, length-set, take-set, take_more_same, get_or-set_same}
use Rattle.std.proofs.lemmas.Option.{same_Some}
use Rattle.rme_words.specs.declared.shape.Shape.{Shape}
use Rattle.rme_words.specs.declared.address.Address.{Address}
use Rattle.rme_words.specs.declared.address.Address.TheVariants.{Begun, SlateLock, SlateLen, SlateWord}
use Rattle.rme_words.specs.Words.{StoreEffect}
use Rattle.rme_tree.specs.Nodes.{held_levels_in}
use Rattle.rme_script.specs.declared.job.Job.{Job}
use Rattle.rme_script.specs.declared.op.Op.{Op}
use Rattle.rme_script.specs.Scripts.{IsScript}
use Rattle.rme_script.specs.Slates.{ops_words, slate_of, script_from_words}
use Rattle.rme_script.proofs.Slating.{words_length, slate_front}
use Rattle.rme_script.proofs.Slates.{slate_some}
use Rattle.rme_script.proofs.Weaker.{IsScript_slate}
use Rattle.rme_program.specs.declared.note.Entry.{Entry}
use Rattle.rme_program.specs.declared.note.Note.{Note}
use Rattle.rme_program.specs.declared.note.Note.TheVariants.{Quiet, Asked}
use Rattle.rme_program.specs.declared.action.Action.TheVariants.{Store}
use Rattle.rme_program.specs.declared.private.Private.{Private}
use Rattle.rme_program.specs.declared.stage.Stage.{Stage}
use Rattle.rme_program.specs.declared.stage.Stage.TheVariants.{Posting, Climbing}
use Rattle.rme_program.specs.declared.stage.Slate.{Slate}
use Rattle.rme_program.specs.ActionEffects.{ActionEffect}
use Rattle.rme_program.specs.Steps.{private_action, private_after, note_after}
use Rattle.rme_machine.specs.declared.label.Act.TheVariants as act
use Rattle.rme_machine.specs.Histories.{last_entry_of_worker, withdrawn_numbers}
use Rattle.rme_machine.specs.Machine.{with_worker}
use Rattle.rme_machine.specs.Views.{WorkerWords, worker_words, lock_words, is_pending, slate_script, slate_job}
use Rattle.rme_machine.specs.AbstractState.{Privates, lock_owned_by_worker, last_entry_job, abstract_worker, abstract_state, act_of_note}
use Rattle.rme_machine.specs.Knowledge.{PrivateInvariant, IsIdleWorker, SlateIsStored}
use Rattle.rme_machine.specs.Invariant.{Invariant, WorkerInvariant, SlateHasJob, IsWithdrawnNumber, IsLastReceiptWords}
use Rattle.rme_machine.specs.Changes.{PrivateChange, history_after}
use Rattle.rme_machine.specs.Laws.{RefinementStep, concrete_state}
use Rattle.rme_machine.proofs.Moves.{OwnMove, begun_move, slate_lock_move, slate_len_move, slate_word_move, slate_long}
use Rattle.rme_machine.proofs.Kept.{own_kept}
use Rattle.rme_machine.proofs.Shows.{owned_none, own_frame, shown_still, shown_moves}
use Rattle.rme_machine.proofs.Faces.{face, shown_as, does_as}

-- The private state of a worker at a stage of Post.
abbrev poster : ℕ → ℕ → Slate → Private
poster w b slate = record { worker = w; begun = b; stage = Posting slate }

slate_room : (ops : List Op) → length ops ≤ 8 → length (slate_of ops) ≡ 24
slate_room ops few = length-append (ops_words ops) _ ∙ omega (arith, words_length ops, length-replicate {A = ℕ} (24 - 3 * length ops) 0)

-- One more word of a slate is stored.
word_stored : (words slate : List ℕ) (i : ℕ) → i < length words → length words ≡ length slate → take i words ≡ take i slate
    → take (i + 1) (slice_set words i (slice_index slate i)) ≡ take (i + 1) slate
word_stored words slate i within long same =
    take_more_same (slice_set words i (slice_index slate i)) slate i 0 (omega (arith, length-set words i (slice_index slate i))) (omega arith)
    (take-set words i _ ∙ same) (get_or-set_same words i _ 0 within)

-- The words of a worker with other slate words, and with another `begun`.
abbrev with_slate : WorkerWords → ℕ → ℕ → List ℕ → WorkerWords
with_slate own lock len words = record own { slate_lock = lock; slate_len = len; slate = words }

-- The account of a worker without a job and without nodes does not depend on its slate.
module _ (s : Shape) (own : WorkerWords) (held : ℕ → ℕ) (es : List Entry) (w b : ℕ) (account : WorkerInvariant s own held es w) (idle : IsIdleWorker s own held b) where
  slate_account : (lock len : ℕ) (words : List ℕ) → WorkerInvariant s (with_slate own lock len words) held es w
  slate_account lock len words = record {
    done = account.done;
    begun = account.begun;
    few = account.few;
    stake = λ l below some. absurd (omega (arith, some, idle.holds l below));
    slate = λ pending. absurd (let clash : true ≡ false = sym pending ∙ idle.past in cc);
    numbered = account.numbered;
    withdrawn = λ past some gone. (let i : IsWithdrawnNumber s own es w = account.withdrawn past some gone in record { no_entry = i.no_entry; reply = i.reply; at = i.at });
    receipt = λ past some there.
        (let i : IsLastReceiptWords own es w = account.receipt past some there in
        record { last = i.last; found = i.found; number = i.number; reply = i.reply; place = i.place; at = i.at });
    blank = account.blank;
  }

  done_all : own.done ≡ b
  done_all = omega (arith, account.done, ltb-false _ _ idle.past, idle.known)

  begun_pending : is_pending (record own { begun = b + 1 }) ≡ true
  begun_pending = lt-ltb _ _ (omega (arith, done_all))

  begun_account : b < s.jobs → SlateHasJob s own → WorkerInvariant s (record own { begun = b + 1 }) held es w
  begun_account more has = record {
    done = omega (arith, done_all);
    begun = omega (arith, done_all);
    few = omega arith;
    stake = λ l below some. absurd (omega (arith, some, idle.holds l below));
    slate = λ pending. record { script = has.script; slate = has.slate; job = has.job };
    numbered = account.numbered;
    withdrawn = λ past. absurd (let clash : true ≡ false = sym begun_pending ∙ past in cc);
    receipt = λ past. absurd (let clash : true ≡ false = sym begun_pending ∙ past in cc);
    blank = λ none. absurd (omega arith);
  }

module _ (s : Shape) (mem mem' : Address → ℕ) (privs privs' : Privates) (es : List Entry) (w b : ℕ) (slate : Slate) (fact : Invariant s mem privs es)
    (worker : w < s.workers) (was : privs w ≡ Some (poster w b slate)) where
  fits : PrivateInvariant s (worker_words mem w) (held_levels_in s mem w) (lock_words s mem) w (poster w b slate)
  fits = fact.fits w _ worker was

  idle : IsIdleWorker s (worker_words mem w) (held_levels_in s mem w) b
  idle = fits.knows.0

  owns_none : lock_owned_by_worker s mem w ≡ None
  owns_none = owned_none s mem w (λ l lock whole. omega (arith, whole, idle.holds l lock, s.counted.tree.some_level))

  shows_handed : abstract_worker s mem privs es w
      ≡ face None false b (slate_job (worker_words mem w)) (last_entry_job (last_entry_of_worker es w)) (Some (poster w b slate)) (withdrawn_numbers es w (worker_words mem w).done)
  shows_handed = shown_as s mem privs es w None false b _ owns_none idle.past idle.known was

  -- After a store of an own word the worker still owns no lock, and its private invariant holds.
  owns_none_after : (new : WorkerWords) → OwnMove s mem mem' w new → lock_owned_by_worker s mem' w ≡ None
  owns_none_after new move =
      owned_none s mem' w (λ l lock whole. omega (arith, sym (move.trees.held w l) ∙ whole, idle.holds l lock, s.counted.tree.some_level))

  own_fact : (new : WorkerWords) (q : Private) → OwnMove s mem mem' w new → PrivateChange privs privs' w (Some q) → WorkerInvariant s new (held_levels_in s mem w) es w
      → PrivateInvariant s new (held_levels_in s mem w) (lock_words s mem) w q → Invariant s mem' privs' es
  own_fact new q move became account now =
      own_kept s mem mem' privs privs' es w (Some q) new fact worker move became account
      (λ r e. let P : Private → Type 0 = λ r. PrivateInvariant s new (held_levels_in s mem w) (lock_words s mem) w r in subst P (same_Some q r e) now)
      (λ l lock whole. absurd (omega (arith, whole, idle.holds l lock, s.counted.tree.some_level)))

  -- A store of the slate is quiet.
  slate_stored : (lock len : ℕ) (words : List ℕ) → OwnMove s mem mem' w (with_slate (worker_words mem w) lock len words)
      → SlateIsStored (with_slate (worker_words mem w) lock len words) record { job = slate.job; stored = slate.stored + 1 } → slate.stored < 2 + 3 * slate.job.script.n
      → PrivateChange privs privs' w (Some (poster w b record { job = slate.job; stored = slate.stored + 1 })) → RefinementStep s (concrete_state mem privs es) (concrete_state mem' privs' es) w act.Still
  slate_stored lock len words move slated more became = (
    own_fact (with_slate (worker_words mem w) lock len words) _ move became (slate_account s _ _ es w b (fact.accounts w worker) idle lock len words)
        record {
          is = refl;
          shaped = record { worker = worker; begun = fits.shaped.begun; stage = (fits.shaped.stage.0, fits.shaped.stage.1, omega arith) };
          knows = (record { known = idle.known; past = idle.past; holds = idle.holds }, slated);
        },
    does_as s act.Still mem privs es w _ _ worker shows_handed
        (refl, shown_still s mem mem' privs privs' es w worker (own_frame s mem mem' privs privs' es w _ _ move became) (λ l lock. move.trees.owner l) (shows_after ∙ sym shows_handed)),
  )
    where
      shows_after : abstract_worker s mem' privs' es w
          ≡ face None false b (slate_job (worker_words mem w)) (last_entry_job (last_entry_of_worker es w)) (Some (poster w b slate)) (withdrawn_numbers es w (worker_words mem w).done)
      shows_after =
          shown_as s mem' privs' es w None false b _ (owns_none_after _ move) (ap is_pending move.own ∙ idle.past)
          (ap (λ (own : WorkerWords). own.begun) move.own ∙ idle.known) became.at
          ∙ ap (λ (own : WorkerWords). face None false b (slate_job own) (last_entry_job (last_entry_of_worker es w)) (Some (poster w b slate)) (withdrawn_numbers es w own.done)) move.own

  -- The slate is whole.
  slate_whole : slate.stored ≡ 2 + 3 * slate.job.script.n → slate_script (worker_words mem w) ≡ Some slate.job.script
  slate_whole all =
      let slated : SlateIsStored (worker_words mem w) slate = fits.knows.1 in
      let len : (worker_words mem w).slate_len ≡ slate.job.script.n = slated.len (omega arith) in
      let script : IsScript s.cells slate.job.script = fits.shaped.stage.1.script in
      let counted : length slate.job.script.ops ≡ slate.job.script.n = script.counted in
      let P : ℕ → Type 0 = λ k. take k (worker_words mem w).slate ≡ take k (slate_of slate.job.script.ops) in
      let first : take (3 * slate.job.script.n) (worker_words mem w).slate ≡ take (3 * slate.job.script.n) (slate_of slate.job.script.ops) =
      subst P (omega arith) slated.words in
      let Q : ℕ → Type 0 = λ k. take (3 * k) (slate_of slate.job.script.ops) ≡ ops_words slate.job.script.ops in
      let front : take (3 * slate.job.script.n) (slate_of slate.job.script.ops) ≡ ops_words slate.job.script.ops = subst Q counted (slate_front slate.job.script.ops) in
      ap (λ (n : ℕ). script_from_words n (worker_words mem w).slate) len
      ∙ slate_some slate.job.script.n (worker_words mem w).slate slate.job.script
      record { counted = refl; script = IsScript_slate s slate.job.script script; first = first ∙ front }

  slate_is_job : slate.stored ≡ 2 + 3 * slate.job.script.n → slate_job (worker_words mem w) ≡ slate.job
  slate_is_job all = (let slated : SlateIsStored (worker_words mem w) slate = fits.knows.1 in rw (slated.lock (omega arith), slate_whole all) refl)

  -- The store of `begun` asks for the lock.
  begun_stored : StoreEffect mem mem' (Begun w) (b + 1) → slate.stored ≡ 2 + 3 * slate.job.script.n
      → PrivateChange privs privs' w (Some record { worker = w; begun = b + 1; stage = Climbing record { lock = slate.job.lock; held = 0 } })
      → RefinementStep s (concrete_state mem privs es) (concrete_state mem' privs' es) w (act.Ask (b + 1))
  begun_stored wrote all became = (
    own_fact (record (worker_words mem w) { begun = b + 1 }) _ move became (begun_account s _ _ es w b (fact.accounts w worker) idle fits.shaped.stage.0 has)
        record {
          is = refl;
          shaped = record { worker = worker; begun = omega (arith, fits.shaped.stage.0); stage = (fits.shaped.stage.1.lock, omega (arith, s.counted.tree.some_level)) };
          knows = record { known = refl; pending = pending; slate = slated.lock (omega arith); holds = idle.holds _ fits.shaped.stage.1.lock };
        },
    does_as s (act.Ask (b + 1)) mem privs es w _ _ worker shows_handed (
      slate.job,
      refl,
      refl,
      refl,
      shown_moves s mem mem' privs privs' es w worker (own_frame s mem mem' privs privs' es w _ _ move became) (λ l lock. move.trees.owner l)
          ∙ ap (with_worker (abstract_state s mem privs es) w) shows_after,
    ),
  )
    where
      slated : SlateIsStored (worker_words mem w) slate
      slated = fits.knows.1

      has : SlateHasJob s (worker_words mem w)
      has = record { script = slate.job.script; slate = slate_whole all; job = rw (slate_is_job all) fits.shaped.stage.1 }

      move : OwnMove s mem mem' w (record (worker_words mem w) { begun = b + 1 })
      move = begun_move s mem mem' w (b + 1) wrote

      pending : is_pending (record (worker_words mem w) { begun = b + 1 }) ≡ true
      pending = begun_pending s (worker_words mem w) (held_levels_in s mem w) es w b (fact.accounts w worker) idle

      shows_after : abstract_worker s mem' privs' es w
          ≡ face None true (b + 1) slate.job (last_entry_job (last_entry_of_worker es w)) (Some record { worker = w; begun = b + 1; stage = Climbing record { lock = slate.job.lock; held = 0 } })
          (withdrawn_numbers es w (worker_words mem w).done)
      shows_after =
          shown_as s mem' privs' es w None true (b + 1) _ (owns_none_after _ move) (ap is_pending move.own ∙ pending)
          (ap (λ (own : WorkerWords). own.begun) move.own) became.at
          ∙ ap (λ (own : WorkerWords). face None true (b + 1) (slate_job own) (last_entry_job (last_entry_of_worker es w))
          (Some record { worker = w; begun = b + 1; stage = Climbing record { lock = slate.job.lock; held = 0 } }) (withdrawn_numbers es w own.done)) move.own
          ∙ ap (λ (job : Job). face None true (b + 1) job (last_entry_job (last_entry_of_worker es w))
          (Some record { worker = w; begun = b + 1; stage = Climbing record { lock = slate.job.lock; held = 0 } }) (withdrawn_numbers es w (worker_words mem w).done))
          (slate_is_job all)

  lock_stored : StoreEffect mem mem' (SlateLock w) slate.job.lock → slate.stored ≡ 0
      → PrivateChange privs privs' w (Some (poster w b record { job = slate.job; stored = slate.stored + 1 })) → RefinementStep s (concrete_state mem privs es) (concrete_state mem' privs' es) w act.Still
  lock_stored wrote first became =
      slate_stored slate.job.lock (worker_words mem w).slate_len (worker_words mem w).slate (slate_lock_move s mem mem' w slate.job.lock wrote)
      record { lock = λ _. refl; len = λ two. absurd (omega arith); words = rw first refl } (omega arith) became

  len_stored : StoreEffect mem mem' (SlateLen w) slate.job.script.n → slate.stored ≡ 1
      → PrivateChange privs privs' w (Some (poster w b record { job = slate.job; stored = slate.stored + 1 })) → RefinementStep s (concrete_state mem privs es) (concrete_state mem' privs' es) w act.Still
  len_stored wrote second became =
      slate_stored (worker_words mem w).slate_lock slate.job.script.n (worker_words mem w).slate (slate_len_move s mem mem' w slate.job.script.n wrote)
      record { lock = λ _. (let slated : SlateIsStored (worker_words mem w) slate = fits.knows.1 in slated.lock (omega arith)); len = λ _. refl; words = rw second refl } (omega arith) became

  word_is_stored : (i : ℕ) → i + 2 ≡ slate.stored → slate.stored < 2 + 3 * slate.job.script.n
      → StoreEffect mem mem' (SlateWord w (i / 3) (i % 3)) (slice_index (slate_of slate.job.script.ops) i)
      → PrivateChange privs privs' w (Some (poster w b record { job = slate.job; stored = slate.stored + 1 })) → RefinementStep s (concrete_state mem privs es) (concrete_state mem' privs' es) w act.Still
  word_is_stored i here more wrote became =
      slate_stored (worker_words mem w).slate_lock (worker_words mem w).slate_len (slice_set (worker_words mem w).slate i (slice_index (slate_of slate.job.script.ops) i))
      (slate_word_move s mem mem' w _ i within wrote)
      record {
        lock = λ _. slated.lock (omega arith);
        len = λ _. slated.len (omega arith);
        words =
            (let P : ℕ → Type 0 = λ k. take k (slice_set (worker_words mem w).slate i (slice_index (slate_of slate.job.script.ops) i)) ≡ take k (slate_of slate.job.script.ops) in
            subst P (omega arith) (word_stored (worker_words mem w).slate (slate_of slate.job.script.ops) i (omega (arith, within, slate_long mem w))
            (slate_long mem w ∙ sym (slate_room slate.job.script.ops (omega (arith, script.counted, script.few)))) before));
      }
      more became
    where
      slated : SlateIsStored (worker_words mem w) slate
      slated = fits.knows.1

      script : IsScript s.cells slate.job.script
      script = fits.shaped.stage.1.script

      within : i < 24
      within = omega (arith, script.few)

      before : take i (worker_words mem w).slate ≡ take i (slate_of slate.job.script.ops)
      before = (let P : ℕ → Type 0 = λ k. take k (worker_words mem w).slate ≡ take k (slate_of slate.job.script.ops) in subst P (omega arith) slated.words)

-- The result of a store, by whether it was the last.
abbrev after_store : ℕ → Slate → Bool → Stage × Note
after_store b slate all =
    if all then (Climbing record { lock = slate.job.lock; held = 0 }, Asked (b + 1)) else (Posting record { job = slate.job; stored = slate.stored + 1 }, Quiet)

-- The law, by the number of words stored.
posting_by : (s : Shape) (mem mem' : Address → ℕ) (privs privs' : Privates) (es : List Entry) (w b : ℕ) (slate : Slate) (found : ℕ) → Invariant s mem privs es
    → w < s.workers → privs w ≡ Some (poster w b slate) → (none one more all : Bool) → (slate.stored == 0) ≡ none → (slate.stored == 1) ≡ one
    → nat_lt slate.stored (2 + 3 * slate.job.script.n) ≡ more → (slate.stored == 2 + 3 * slate.job.script.n) ≡ all
    → ActionEffect mem mem' (if none then Store (SlateLock w) slate.job.lock
    else if one then Store (SlateLen w) slate.job.script.n
    else if more then Store (SlateWord w ((slate.stored - 2) / 3) ((slate.stored - 2) % 3)) (slice_index (slate_of slate.job.script.ops) (slate.stored - 2))
    else Store (Begun w) (b + 1)) found
    → PrivateChange privs privs' w (Some record { worker = w; begun = if all then b + 1 else b; stage = (after_store b slate all).0 })
    → RefinementStep s (concrete_state mem privs es) (concrete_state mem' privs' (history_after es mem w (after_store b slate all).1)) w (act_of_note (after_store b slate all).1)
posting_by s mem mem' privs privs' es w b slate found fact worker was true one more false t1 t2 t3 t4 wrote became =
    lock_stored s mem mem' privs privs' es w b slate fact worker was wrote (eqb-true _ _ t1) became
posting_by s mem mem' privs privs' es w b slate found fact worker was true one more true t1 t2 t3 t4 wrote became =
    absurd (omega (arith, eqb-true _ _ t1, eqb-true _ _ t4))
posting_by s mem mem' privs privs' es w b slate found fact worker was false true more false t1 t2 t3 t4 wrote became =
    len_stored s mem mem' privs privs' es w b slate fact worker was wrote (eqb-true _ _ t2) became
posting_by s mem mem' privs privs' es w b slate found fact worker was false true more true t1 t2 t3 t4 wrote became =
    absurd (omega (arith, eqb-true _ _ t2, eqb-true _ _ t4))
posting_by s mem mem' privs privs' es w b slate found fact worker was false false true false t1 t2 t3 t4 wrote became =
    word_is_stored s mem mem' privs privs' es w b slate fact worker was (slate.stored - 2) (omega (arith, eqb-false _ _ t1, eqb-false _ _ t2)) (ltb-true _ _ t3) wrote became
posting_by s mem mem' privs privs' es w b slate found fact worker was false false true true t1 t2 t3 t4 wrote became =
    absurd (omega (arith, ltb-true _ _ t3, eqb-true _ _ t4))
posting_by s mem mem' privs privs' es w b slate found fact worker was false false false true t1 t2 t3 t4 wrote became =
    begun_stored s mem mem' privs privs' es w b slate fact worker was wrote (eqb-true _ _ t4) became
posting_by s mem mem' privs privs' es w b slate found fact worker was false false false false t1 t2 t3 t4 wrote became =
    let fits : PrivateInvariant s (worker_words mem w) (held_levels_in s mem w) (lock_words s mem) w (poster w b slate) = fact.fits w _ worker was in
    absurd (omega (arith, ltb-false _ _ t3, eqb-false _ _ t4, fits.shaped.stage.2))

-- The law of the steps of Post.
pub posting : (s : Shape) (mem mem' : Address → ℕ) (privs privs' : Privates) (es : List Entry) (w b : ℕ) (slate : Slate) (found : ℕ)
    → Invariant s mem privs es → w < s.workers → privs w ≡ Some record { worker = w; begun = b; stage = Posting slate }
    → ActionEffect mem mem' (private_action s record { worker = w; begun = b; stage = Posting slate }) found
    → PrivateChange privs privs' w (Some (private_after s record { worker = w; begun = b; stage = Posting slate } found))
    → RefinementStep s (concrete_state mem privs es) (concrete_state mem' privs' (history_after es mem w (note_after s record { worker = w; begun = b; stage = Posting slate } found))) w
    (act_of_note (note_after s record { worker = w; begun = b; stage = Posting slate } found))
posting s mem mem' privs privs' es w b slate found fact worker was did became =
    posting_by s mem mem' privs privs' es w b slate found fact worker was _ _ _ _ refl refl refl refl did became
