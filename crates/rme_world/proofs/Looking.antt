-- What the look-ups report.
use Rattle.std.proofs.Common.{◌≡◌, ℕ, suc, ◌+◌, ◌*◌, ◌^◌, ◌<◌, ◌≤◌, ◌/◌, ◌%◌, Bool, true, false, not, List, ◌∷◌, length, take, refl, sym, ◌∙◌, ap, subst, inl, inr, arith, length-append}
use Rattle.std.specs.Prelude.{◌↔◌, IsTrue, Option, Some, None, slice_get, slice_set, ◌==◌}
use Rattle.std.specs.Option.{option_map}
use Rattle.std.proofs.lemmas.Bool.{le-ltb, eqb-true}
use Rattle.std.proofs.Math.Nat.{mul-le-mul}
use Rattle.rme_words.specs.declared.address.Address.TheVariants.{Cell, Turn}
use Rattle.rme_core_image_check.proofs.Filling.{filled_next, filled_whole}
use Rattle.std.proofs.lemmas.List.{length-set}
use Rattle.std.proofs.lemmas.Option.{none-some, same_Some}
use Rattle.rme_program.specs.declared.stage.Stage.{Stage}
use Rattle.rme_program.specs.declared.stage.Stage.TheVariants.{Resting, Recovering, Posting, Climbing, Logging, Copying, Leaving}
use Rattle.rme_tree.specs.Nodes.{held_levels_in, owner_in}
use Rattle.rme_program.specs.declared.note.Entry.{Entry}
use Rattle.rme_program.specs.declared.note.Receipt.{Receipt}
use Rattle.rme_program.specs.declared.private.Private.{Private}
use Rattle.rme_machine.specs.Histories.{IsLegalNextEntry, history_of_lock, place_of}
use Rattle.rme_machine.specs.AbstractCells.{AbstractCells, state_owner, is_lock_settled}
use Rattle.rme_machine.specs.Views.{LockWords, WorkerWords, worker_words, lock_words, is_pending}
use Rattle.rme_machine.specs.Invariant.{LockInvariant, OwnedLockInvariant, WorkerInvariant, IsLastReceiptWords}
use Rattle.rme_machine.proofs.Further.{idling}
use Rattle.rme_machine.proofs.Historical.{entries_few, place_few, place_small}
use Rattle.rme_machine.proofs.Lasts.{IsLast, last_stands, last_due}
use Rattle.rme_machine.proofs.Sections.{place_count}
use Rattle.rme_machine.proofs.Tables.{owning, shown_owner, tables}
use Rattle.rme_machine.specs.Knowledge.{StageKnowledge, log_lock, redo_lock}
use Rattle.rme_machine.specs.FurtherLaws.{stage_owned_lock}
use Rattle.rme_program.specs.declared.kinds.Phase.{Phase}
use Rattle.rme_program.specs.declared.kinds.Phase.TheVariants as phase
use Rattle.rme_program.specs.declared.kinds.Phase.TheVariants.{Section}
use Rattle.rme_program.specs.Phases.{phase_of}
use Rattle.rme_world.specs.declared.counts.Counts.{Counts}
use Rattle.rme_world.specs.Counting.{IsStayCount, phase_count, max_phase_steps}
use Rattle.rme_world.specs.WorldViews.{WorldView, worker_counts, private_if_up, world_memory, world_privates, world_abstract_state}
use Rattle.rme_world.specs.WorldInvariants.{WorldInvariant}
use Rattle.rme_world.specs.Queries.{WordsHaveReceipt, WorkerIsInPhase, IsLastReceipt, WorkerIsReady, WorkerHoldsNoNode, WorkerOwnsItsLock, world_phase, world_worker_words}
use Rattle.rme_world.proofs.Worlds.{is_worker, up_at}

-- ---- the machine's laws, applied to a world

pub owner_shown : (seen : WorldView) (lock : ℕ) → lock < seen.shape.locks → owner_in seen.shape (world_memory seen) lock ≡ state_owner (world_abstract_state seen) lock
owner_shown seen lock below = shown_owner seen.shape (world_memory seen) (world_privates seen) seen.history lock below

pub shown_cells : (seen : WorldView) (lock : ℕ) → WorldInvariant seen → lock < seen.shape.locks → AbstractCells seen.shape (world_abstract_state seen) lock (lock_words seen.shape (world_memory seen) lock).cells
shown_cells seen lock kept below = (tables.tables seen.shape (world_memory seen) (world_privates seen) seen.history kept.fact).cells lock below

pub free_settled : (seen : WorldView) (lock : ℕ) → WorldInvariant seen → lock < seen.shape.locks → owner_in seen.shape (world_memory seen) lock ≡ None → is_lock_settled (world_abstract_state seen) lock ≡ true
free_settled seen lock kept below is = tables.free seen.shape (world_memory seen) (world_privates seen) seen.history lock kept.fact below is

pub owned_settled : (seen : WorldView) (lock worker : ℕ) → WorldInvariant seen → lock < seen.shape.locks → owner_in seen.shape (world_memory seen) lock ≡ Some worker
    → is_lock_settled (world_abstract_state seen) lock ≡ not (is_pending (worker_words (world_memory seen) worker))
owned_settled seen lock worker kept below is = tables.owned seen.shape (world_memory seen) (world_privates seen) seen.history lock worker kept.fact below is

-- ---- the cells, one after the other

pub row_next : (seen : WorldView) (lock cell x cells : ℕ) (row new : List ℕ) → cells ≡ seen.shape.cells → length row ≡ cells → cell < cells → x ≡ world_memory seen (Cell lock cell)
    → new ≡ slice_set row cell x → take cell row ≡ take cell (lock_words seen.shape (world_memory seen) lock).cells
    → (length new ≡ cells) × (take (cell + 1) new ≡ take (cell + 1) (lock_words seen.shape (world_memory seen) lock).cells)
row_next seen lock cell x cells row new all long within is put same = (
  ap (λ (xs : List ℕ). length xs) put ∙ length-set row cell x ∙ long,
  subst (λ (xs : List ℕ). take (cell + 1) xs ≡ take (cell + 1) (lock_words seen.shape (world_memory seen) lock).cells) (sym put)
      (filled_next (λ (c : ℕ). world_memory seen (Cell lock c)) seen.shape.cells row cell x (long ∙ all) (omega (arith, within, all)) is same),
)

pub row_whole : (seen : WorldView) (lock cell cells : ℕ) (row : List ℕ) → cells ≡ seen.shape.cells → length row ≡ cells → cells ≤ cell → cell ≤ cells
    → take cell row ≡ take cell (lock_words seen.shape (world_memory seen) lock).cells → row ≡ (lock_words seen.shape (world_memory seen) lock).cells
row_whole seen lock cell cells row all long low high same =
    let here : cell ≡ seen.shape.cells = omega (arith, low, high, all) in
    let P : ℕ → Type 0 = λ (n : ℕ). take n row ≡ take n (lock_words seen.shape (world_memory seen) lock).cells in
    filled_whole (λ (c : ℕ). world_memory seen (Cell lock c)) seen.shape.cells row (long ∙ all) (subst P here same)

-- ---- the finished sections of a lock

-- From the turn of a lock that is settled or not.
abbrev pub finished_by_turn : Bool → ℕ → ℕ
finished_by_turn true turn = turn / 2 + turn % 2
finished_by_turn false turn = turn / 2

module _ (seen : WorldView) (lock : ℕ) (kept : WorldInvariant seen) (below : lock < seen.shape.locks) where
  abbrev words : LockWords
  words = lock_words seen.shape (world_memory seen) lock

  owned_finished : (worker : ℕ) (own : WorkerWords) (pending : Bool) → OwnedLockInvariant seen.shape words seen.history lock record { worker = worker; words = own } pending
      → finished_by_turn (not pending) words.turn ≡ place_of seen.history lock
  owned_finished worker own true stands = elim stands [
    | inl settled ↦ (let turn = settled.turn in omega (arith, turn))
    | inr logged ↦ (let turn = logged.turn in omega (arith, turn))
  ]
  owned_finished worker own false stands = elim stands.2 [
    | inl settled ↦ (let turn = settled.turn in omega (arith, turn))
    | inr over ↦ (let turn = over.turn in omega (arith, turn))
  ]

  finished_at : (owner : Option ℕ) → owner_in seen.shape (world_memory seen) lock ≡ owner → LockInvariant seen.shape words seen.history lock owner (worker_words (world_memory seen))
      → finished_by_turn (is_lock_settled (world_abstract_state seen) lock) words.turn ≡ place_of seen.history lock
  finished_at None is stands = rw (free_settled seen lock kept below is) (let turn = stands.turn in omega (arith, turn))
  finished_at (Some worker) is stands =
      rw (owned_settled seen lock worker kept below is) (owned_finished worker (worker_words (world_memory seen) worker) (is_pending (worker_words (world_memory seen) worker)) stands)

  -- The turn of a lock determines the number of its finished sections.
  pub finished_is : (settled : Bool) → settled ≡ is_lock_settled (world_abstract_state seen) lock → finished_by_turn settled (world_memory seen (Turn lock)) ≡ length (history_of_lock seen.history lock)
  finished_is settled is =
      ap (λ (b : Bool). finished_by_turn b (world_memory seen (Turn lock))) is
      ∙ finished_at (owner_in seen.shape (world_memory seen) lock) refl (kept.fact.stands lock below)
      ∙ place_count seen.history lock

  pub finished_small : length (history_of_lock seen.history lock) < 2 ^ 32
  finished_small =
      let few = place_small seen.shape (world_memory seen) (world_privates seen) seen.history lock kept.fact in
      omega (arith, few, place_count seen.history lock)

-- ---- a ready worker

pub ready_is : (seen : WorldView) (worker : ℕ) (private : Private) (answer : Bool) → slice_get seen.privates worker ≡ Some (Some private) → (IsTrue answer ↔ (private.stage ≡ Resting))
    → IsTrue answer ↔ WorkerIsReady seen worker
ready_is seen worker private answer found is = (
  λ yes_. (private, found, is.0 yes_),
  λ ready. (let same : ready.0 ≡ private = same_Some _ _ (same_Some _ _ (sym ready.1 ∙ found)) in is.1 (ap (λ (p : Private). p.stage) (sym same) ∙ ready.2)),
)

pub ready_holds : (seen : WorldView) (worker : ℕ) → WorldInvariant seen → WorkerIsReady seen worker → WorkerHoldsNoNode seen worker
ready_holds seen worker kept (private, found, resting) lock below =
    let within : worker < seen.shape.workers = is_worker seen worker (Some private) kept.all_privates found in
    idling seen.shape (world_memory seen) (world_privates seen) seen.history worker lock private kept.fact within below (up_at seen worker (Some private) found) (rw resting refl)

-- ---- a worker in its section

module _ (seen : WorldView) (worker begun : ℕ) where
  owns_slate : (lock : ℕ) → (lock < seen.shape.locks) × (owner_in seen.shape (world_memory seen) lock ≡ Some worker) → (world_worker_words seen worker).slate_lock ≡ lock → WorkerOwnsItsLock seen worker
  owns_slate lock owned slate =
      let P : ℕ → Type 0 = λ (l : ℕ). (l < seen.shape.locks) × (owner_in seen.shape (world_memory seen) l ≡ Some worker) in
      let here : (((world_worker_words seen worker).slate_lock) < seen.shape.locks) × (owner_in seen.shape (world_memory seen) (world_worker_words seen worker).slate_lock ≡ Some worker) = subst P (sym slate) owned in
      record { lock = here.0; owner = here.1; shown = sym (owner_shown seen (world_worker_words seen worker).slate_lock here.0) ∙ here.1 }

  -- The knowledge at an owner's stage names the lock of its slate.
  section_owns : (stage : Stage) → phase_of stage ≡ Section
      → StageKnowledge seen.shape (world_worker_words seen worker) (held_levels_in seen.shape (world_memory seen) worker) (lock_words seen.shape (world_memory seen)) begun stage
      → ((lock : ℕ) → stage_owned_lock seen.shape stage ≡ Some lock → (lock < seen.shape.locks) × (owner_in seen.shape (world_memory seen) lock ≡ Some worker))
      → WorkerOwnsItsLock seen worker
  section_owns Resting there knows owns = absurd (let e : phase.Ready ≡ Section = there in cc)
  section_owns (Recovering recovery) there knows owns = absurd (let e : phase.Recover ≡ Section = there in cc)
  section_owns (Posting slate) there knows owns = absurd (let e : phase.Post ≡ Section = there in cc)
  section_owns (Climbing ascent) there knows owns = absurd (let e : phase.Enter ≡ Section = there in cc)
  section_owns (Logging log) there knows owns = owns_slate (log_lock log) (owns (log_lock log) refl) knows.0.slate
  section_owns (Copying redo) there knows owns = owns_slate (redo_lock redo) (owns (redo_lock redo) refl) knows.0.slate
  section_owns (Leaving departure) there knows owns = absurd (let e : phase.Exit ≡ Section = there in cc)

private_owns : (seen : WorldView) (worker : ℕ) (private : Private) → WorldInvariant seen → world_privates seen worker ≡ Some private → worker < seen.shape.workers → phase_of private.stage ≡ Section
    → WorkerOwnsItsLock seen worker
private_owns seen worker private kept up within there =
    section_owns seen worker private.begun private.stage there (kept.fact.fits worker private within up).knows
    (λ lock. owning seen.shape (world_memory seen) (world_privates seen) seen.history worker lock private kept.fact within up)

-- A worker in its section owns its lock.
pub owns_in_section : (seen : WorldView) (worker : ℕ) → WorldInvariant seen → WorkerIsInPhase seen worker Section → WorkerOwnsItsLock seen worker
owns_in_section seen worker kept (private, found, there) =
    private_owns seen worker private kept (up_at seen worker (Some private) found) (is_worker seen worker (Some private) kept.all_privates found) there

phase_owns : (seen : WorldView) (worker : ℕ) → WorldInvariant seen → (found : Option (Option Private)) → slice_get seen.privates worker ≡ found
    → option_map (λ (private : Private). phase_of private.stage) (private_if_up found) ≡ Some Section → WorkerOwnsItsLock seen worker
phase_owns seen worker kept None is there = absurd (none-some Section there)
phase_owns seen worker kept (Some None) is there = absurd (none-some Section there)
phase_owns seen worker kept (Some (Some private)) is there = owns_in_section seen worker kept (private, is, same_Some _ _ there)

-- The same, from a phase of Section.
pub owns_by_phase : (seen : WorldView) (worker : ℕ) (phase : Option Phase) → WorldInvariant seen → phase ≡ world_phase seen worker → phase ≡ Some Section → WorkerOwnsItsLock seen worker
owns_by_phase seen worker phase kept is there = phase_owns seen worker kept (slice_get seen.privates worker) refl (sym is ∙ there)

-- ---- the last receipt

module _ (seen : WorldView) (worker : ℕ) (kept : WorldInvariant seen) (within : worker < seen.shape.workers) (has : WordsHaveReceipt (world_worker_words seen worker)) where
  account : WorkerInvariant seen.shape (worker_words (world_memory seen) worker) (held_levels_in seen.shape (world_memory seen) worker) seen.history worker
  account = kept.fact.accounts worker within

  receipt : IsLastReceiptWords (worker_words (world_memory seen) worker) seen.history worker
  receipt = account.receipt (le-ltb _ _ (omega (arith, has.done))) (omega (arith, has.some)) has.kept

  last : IsLast (λ (e : Entry). e.receipt.worker == worker) seen.history receipt.last
  last = last_stands (λ (e : Entry). e.receipt.worker == worker) seen.history receipt.last receipt.found

  due : IsLegalNextEntry seen.shape last.before receipt.last
  due = last_due seen.shape (λ (e : Entry). e.receipt.worker == worker) seen.history receipt.last kept.fact.legal last

  place_within : receipt.last.receipt.place ≤ length seen.history
  place_within =
      let all : length seen.history ≡ length last.before + suc (length last.after) = ap (λ (es : List Entry). length es) last.stands ∙ length-append last.before (receipt.last ∷ last.after) in
      omega (arith, due.follows.place, place_few last.before receipt.last.receipt.lock, all)

  -- The words of a receipt are numbers of 32 bits.
  pub receipt_small : ((world_worker_words seen worker).at < 2 ^ 32) × ((world_worker_words seen worker).done < 2 ^ 32) × ((world_worker_words seen worker).place < 2 ^ 32)
  receipt_small = (
    (let below = due.follows.job.lock in omega (arith, receipt.at, below, seen.shape.counted.limits)),
    omega (arith, account.done, account.few, seen.shape.counted.limits),
    omega (arith, receipt.place, place_within, entries_few seen.shape (world_memory seen) (world_privates seen) seen.history kept.fact, most),
  )
    where
      most : seen.shape.workers * seen.shape.jobs ≤ 256 * 1000000
      most = mul-le-mul seen.shape.counted.limits.few_workers seen.shape.counted.limits.few_jobs

  pub last_receipt : (r : Receipt) → r.worker ≡ worker → r.lock ≡ (world_worker_words seen worker).at → r.number ≡ (world_worker_words seen worker).done → r.place ≡ (world_worker_words seen worker).place
      → r.reply ≡ (world_worker_words seen worker).reply → IsLastReceipt seen worker r
  last_receipt r is lock number place reply = record {
    entry = receipt.last;
    last = receipt.found;
    same = (let by : receipt.last.receipt.worker ≡ worker = eqb-true _ _ last.passes in
        same_receipt r receipt.last.receipt (is ∙ sym by) (lock ∙ receipt.at) (number ∙ sym receipt.number) (place ∙ receipt.place) (reply ∙ receipt.reply));
  }
    where
      same_receipt : (a b : Receipt) → a.worker ≡ b.worker → a.lock ≡ b.lock → a.number ≡ b.number → a.place ≡ b.place → a.reply ≡ b.reply → a ≡ b
      same_receipt a b w l n p q =
          ap (λ (x : ℕ). record a { worker = x }) w
          ∙ ap (λ (x : ℕ). record a { worker = b.worker; lock = x }) l
          ∙ ap (λ (x : ℕ). record a { worker = b.worker; lock = b.lock; number = x }) n
          ∙ ap (λ (x : ℕ). record b { place = x; reply = a.reply }) p
          ∙ ap (λ (x : ℕ). record b { reply = x }) q

-- ---- counts

pub steps_most : (seen : WorldView) (worker : ℕ) (phase : Phase) (n : ℕ) (counts : Counts) → WorldInvariant seen → worker < seen.shape.workers → n ≡ phase_count counts phase → counts ≡ worker_counts seen worker
    → n ≤ max_phase_steps seen.shape phase
steps_most seen worker phase n counts kept within is same =
    let all : n ≡ phase_count (worker_counts seen worker) phase = is ∙ ap (λ (c : Counts). phase_count c phase) same in
    subst (λ (k : ℕ). k ≤ max_phase_steps seen.shape phase) (sym all) (kept.short worker phase within)

pub steps_stay : (seen : WorldView) (worker : ℕ) (phase : Phase) (n : ℕ) (counts : Counts) → WorldInvariant seen → worker < seen.shape.workers → n ≡ phase_count counts phase → counts ≡ worker_counts seen worker
    → (private : Private) → slice_get seen.privates worker ≡ Some (Some private) → phase_of private.stage ≡ phase → IsStayCount seen.shape private.stage n
steps_stay seen worker phase n counts kept within is same private found there =
    let all : n ≡ phase_count (worker_counts seen worker) (phase_of private.stage)
    = is ∙ ap (λ (c : Counts). phase_count c phase) same ∙ ap (phase_count (worker_counts seen worker)) (sym there) in
    subst (λ (k : ℕ). IsStayCount seen.shape private.stage k) (sym all) (kept.stays worker private within (up_at seen worker (Some private) found))
