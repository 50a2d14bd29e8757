-- The law of each step of a section from the odd turn on.
use Rattle.std.proofs.Common.{◌≡◌, ℕ, ◌+◌, ◌/◌, ◌%◌, ◌<◌, List, length, refl, sym, ◌∙◌, ap, subst, inl, inr, arith}
use Rattle.std.specs.Prelude.{true, Option, Some, None, slice_index, slice_set}
use Rattle.std.proofs.lemmas.Bool.{cases_eq}
use Rattle.std.proofs.lemmas.List.{get_or-set_same, get_or-set_other}
use Rattle.rme_words.specs.declared.shape.Shape.{Shape}
use Rattle.rme_words.specs.declared.address.Address.{Address}
use Rattle.rme_words.specs.declared.address.Address.TheVariants.{Mask, Shadow, ShadowReply}
use Rattle.rme_tree.specs.Nodes.{held_levels_in}
use Rattle.rme_script.specs.Cells.{mask_has_cell}
use Rattle.rme_script.specs.Eval.{eval_of}
use Rattle.rme_script.specs.Programs.{Program}
use Rattle.rme_program.specs.declared.note.Entry.{Entry}
use Rattle.rme_program.specs.declared.stage.Stage.{Stage}
use Rattle.rme_program.specs.declared.stage.Stage.TheVariants.{Copying}
use Rattle.rme_program.specs.declared.stage.Redo.{Redo}
use Rattle.rme_program.specs.declared.stage.Redo.TheVariants.{LoadMask, LoadShadow, StoreCell, LoadReply, StoreReply, StorePlace, StoreAt, StoreDone}
use Rattle.rme_program.specs.declared.stage.Visit.{Visit}
use Rattle.rme_program.specs.Masks.{first_cell}
use Rattle.rme_program.specs.ActionEffects.{ActionEffect}
use Rattle.rme_program.specs.Conditions.{IsRedoStage}
use Rattle.rme_program.specs.Steps.{private_action, private_after, note_after, copy_stage_from}
use Rattle.rme_machine.specs.declared.label.Act.TheVariants.{Still}
use Rattle.rme_machine.specs.Histories.{place_of, lock_row}
use Rattle.rme_machine.specs.Views.{WorkerWords, LockWords, worker_words, lock_words, slate_job}
use Rattle.rme_machine.specs.Knowledge.{ListsAgreeBelow, IsOddTurn, RedoKnowledge, redo_lock}
use Rattle.rme_machine.specs.Invariant.{Invariant, IsLoggedLock}
use Rattle.rme_machine.specs.AbstractState.{Privates, act_of_note}
use Rattle.rme_machine.specs.Changes.{PrivateChange, history_after}
use Rattle.rme_machine.specs.Laws.{RefinementStep, concrete_state}
use Rattle.rme_machine.proofs.Moves.{OwnMove, reply_move, place_move, at_move, cell_move, cells_long, shadow_read}
use Rattle.rme_machine.proofs.Masking.{next_some, same_start, same_next, same_all, same_stored}
use Rattle.rme_machine.proofs.Owning.{Owner, Inside, copies, stands_odd, with_receipt, quiet_load, quiet_lock, quiet_own}
use Rattle.rme_machine.proofs.Finishing.{store_done}

-- The next copying stage: the mask's cells below a cell are copied.
goes_copies : (s : Shape) (own : WorkerWords) (held : ℕ → ℕ) (locks : ℕ → LockWords) (w b : ℕ) (lock : LockWords) (visit : Visit) (mask from : ℕ) (found : Option ℕ)
    → Owner s own held w b visit.lock → locks visit.lock ≡ lock → IsOddTurn own lock visit → mask ≡ lock.mask → ListsAgreeBelow mask from lock.cells lock.shadows
    → first_cell mask from s.cells ≡ found → Inside s own held locks w b (copy_stage_from visit mask found)
goes_copies s own held locks w b lock visit mask from (Some c) owner is odd same_mask copied next =
    copies s own held locks w b (LoadShadow visit mask c) lock owner (owner.lock, (next_some mask from s.cells c next).below) is
    (odd, same_mask, same_next mask from s.cells c lock.cells lock.shadows next copied, (next_some mask from s.cells c next).set)
goes_copies s own held locks w b lock visit mask from None owner is odd same_mask copied next =
    copies s own held locks w b (LoadReply visit mask) lock owner owner.lock is (odd, same_mask, same_all mask from s.cells lock.cells lock.shadows next copied)

-- The knowledge at a stage.
record Knowing (s : Shape) (mem : Address → ℕ) (w b : ℕ) (redo : Redo) : Type 0 where
  owner : Owner s (worker_words mem w) (held_levels_in s mem w) w b (redo_lock redo)
  shaped : IsRedoStage s redo
  knows : RedoKnowledge s (worker_words mem w) (lock_words s mem (redo_lock redo)) redo

pub redo_lock_less : (s : Shape) (redo : Redo) → IsRedoStage s redo → redo_lock redo < s.locks
redo_lock_less s (LoadMask visit) shaped = shaped
redo_lock_less s (LoadShadow visit mask cell) shaped = shaped.0
redo_lock_less s (StoreCell visit mask cell value) shaped = shaped.0
redo_lock_less s (LoadReply visit mask) shaped = shaped
redo_lock_less s (StoreReply visit mask reply) shaped = shaped
redo_lock_less s (StorePlace visit mask reply) shaped = shaped
redo_lock_less s (StoreAt visit mask reply) shaped = shaped
redo_lock_less s (StoreDone visit mask reply) shaped = shaped

knowing : (s : Shape) (mem : Address → ℕ) (privs : Privates) (es : List Entry) (w b : ℕ) (redo : Redo) → Invariant s mem privs es → w < s.workers
    → privs w ≡ Some record { worker = w; begun = b; stage = Copying redo } → Knowing s mem w b redo
knowing s mem privs es w b redo fact worker was =
    let fits = fact.fits w record { worker = w; begun = b; stage = Copying redo } worker was in
    record {
      owner = record { worker = worker; few = fits.shaped.begun; lock = redo_lock_less s redo fits.shaped.stage; at = fits.knows.0 };
      shaped = fits.shaped.stage;
      knows = fits.knows.1;
    }

-- One more cell is copied.
copied_cell : (s : Shape) (lock : LockWords) (row : List ℕ) (place cell value : ℕ) (script : Program) → IsLoggedLock s lock row place script
    → cell < length lock.cells → mask_has_cell lock.mask cell ≡ true → value ≡ slice_index lock.shadows cell
    → IsLoggedLock s record lock { cells = slice_set lock.cells cell value } row place script
copied_cell s lock row place cell value script logged within set is = record {
  turn = logged.turn;
  mask = logged.mask;
  shadows = logged.shadows;
  reply = logged.reply;
  cells = λ c below. elim (cases_eq c cell) [
    | inl here ↦ inr (ap (λ (k : ℕ). slice_index (slice_set lock.cells cell value) k) here ∙ get_or-set_same lock.cells cell value 0 within
        ∙ is ∙ logged.shadows cell set ∙ ap (λ (k : ℕ). slice_index (eval_of script.ops row).row k) (sym here))
    | inr other ↦
        let kept : slice_index (slice_set lock.cells cell value) c ≡ slice_index lock.cells c = get_or-set_other lock.cells cell c value 0 other in
        elim (logged.cells c below) [
          | inl old ↦ inl (kept ∙ old)
          | inr new ↦ inr (kept ∙ new)
        ]
  ];
}

module _ (s : Shape) (mem mem' : Address → ℕ) (privs privs' : Privates) (es : List Entry) (w b : ℕ) where
  load : (redo : Redo) (stage : Stage) (address : Address) (found : ℕ) → Invariant s mem privs es → Knowing s mem w b redo
      → privs w ≡ Some record { worker = w; begun = b; stage = Copying redo } → (found ≡ mem address) × (mem' ≡ mem)
      → PrivateChange privs privs' w (Some record { worker = w; begun = b; stage = stage })
      → Inside s (worker_words mem w) (held_levels_in s mem w) (lock_words s mem) w b stage
      → RefinementStep s (concrete_state mem privs es) (concrete_state mem' privs' es) w Still
  load redo stage address found fact known was did became next =
      subst (λ (m : Address → ℕ). RefinementStep s (concrete_state mem privs es) (concrete_state m privs' es) w Still) (sym did.1)
      (quiet_load s mem privs privs' es w b (redo_lock redo) record { worker = w; begun = b; stage = Copying redo } stage fact known.owner was refl became next)

  -- A store into a word of the receipt.
  store : (redo next : Redo) (reply place at : ℕ) → Invariant s mem privs es → Knowing s mem w b redo
      → privs w ≡ Some record { worker = w; begun = b; stage = Copying redo } → OwnMove s mem mem' w (with_receipt (worker_words mem w) reply place at)
      → PrivateChange privs privs' w (Some record { worker = w; begun = b; stage = Copying next }) → redo_lock next ≡ redo_lock redo → IsRedoStage s next
      → RedoKnowledge s (with_receipt (worker_words mem w) reply place at) (lock_words s mem (redo_lock next)) next
      → RefinementStep s (concrete_state mem privs es) (concrete_state mem' privs' es) w Still
  store redo next reply place at fact known was move became same shaped knows =
      let own : WorkerWords = with_receipt (worker_words mem w) reply place at in
      let owner : Owner s own (held_levels_in s mem w) w b (redo_lock next) = record {
        worker = known.owner.worker;
        few = known.owner.few;
        lock = redo_lock_less s next shaped;
        at = record {
          known = known.owner.at.known;
          pending = known.owner.at.pending;
          slate = known.owner.at.slate ∙ sym same;
          holds = ap (held_levels_in s mem w) same ∙ known.owner.at.holds;
        };
      } in
      quiet_own s mem mem' privs privs' es w b (redo_lock redo) record { worker = w; begun = b; stage = Copying redo } (Copying next) reply place at fact known.owner was refl became move
      (copies s own (held_levels_in s mem w) (lock_words s mem) w b next (lock_words s mem (redo_lock next)) owner shaped refl knows)

  store_cell : (visit : Visit) (mask cell value found : ℕ) → Invariant s mem privs es → Knowing s mem w b (StoreCell visit mask cell value)
      → privs w ≡ Some record { worker = w; begun = b; stage = Copying (StoreCell visit mask cell value) }
      → ActionEffect mem mem' (private_action s record { worker = w; begun = b; stage = Copying (StoreCell visit mask cell value) }) found
      → PrivateChange privs privs' w (Some record { worker = w; begun = b; stage = copy_stage_from visit mask (first_cell mask (cell + 1) s.cells) })
      → RefinementStep s (concrete_state mem privs es) (concrete_state mem' privs' es) w Still
  store_cell visit mask cell value found fact known was did became =
      let lock : LockWords = lock_words s mem visit.lock in
      let new : LockWords = record lock { cells = slice_set lock.cells cell value } in
      let below = known.shaped.1 in
      let within : cell < length lock.cells = omega (arith, below, cells_long s mem visit.lock) in
      let turn = known.knows.0.0 in
      let odd : lock.turn % 2 ≡ 1 = omega (arith, turn) in
      let logged = stands_odd s mem privs es w b visit.lock fact known.owner odd in
      quiet_lock s mem mem' privs privs' es w b visit.lock record { worker = w; begun = b; stage = Copying (StoreCell visit mask cell value) }
      (copy_stage_from visit mask (first_cell mask (cell + 1) s.cells)) new fact known.owner was refl became (cell_move s mem mem' visit.lock value cell below did)
      (λ locks at. goes_copies s (worker_words mem w) (held_levels_in s mem w) locks w b new visit mask (cell + 1) (first_cell mask (cell + 1) s.cells) known.owner at
      known.knows.0 known.knows.1 (same_stored mask cell value lock.cells lock.shadows within known.knows.4 known.knows.2) refl)
      (inr (copied_cell s lock (lock_row s es visit.lock) (place_of es visit.lock) cell value (slate_job (worker_words mem w)).script logged within
      (ap (λ (m : ℕ). mask_has_cell m cell) (sym known.knows.1) ∙ known.knows.3) known.knows.4))

pub copying : (s : Shape) (mem mem' : Address → ℕ) (privs privs' : Privates) (es : List Entry) (w b : ℕ) (redo : Redo) (found : ℕ) → Invariant s mem privs es
    → w < s.workers → privs w ≡ Some record { worker = w; begun = b; stage = Copying redo }
    → ActionEffect mem mem' (private_action s record { worker = w; begun = b; stage = Copying redo }) found
    → PrivateChange privs privs' w (Some (private_after s record { worker = w; begun = b; stage = Copying redo } found))
    → RefinementStep s (concrete_state mem privs es) (concrete_state mem' privs' (history_after es mem w (note_after s record { worker = w; begun = b; stage = Copying redo } found))) w
    (act_of_note (note_after s record { worker = w; begun = b; stage = Copying redo } found))
copying s mem mem' privs privs' es w b (LoadMask visit) found fact worker was did became =
    let known : Knowing s mem w b (LoadMask visit) = knowing s mem privs es w b (LoadMask visit) fact worker was in
    let lock : LockWords = lock_words s mem visit.lock in
    load s mem mem' privs privs' es w b (LoadMask visit) (copy_stage_from visit found (first_cell found 0 s.cells)) (Mask visit.lock) found fact known was did became
    (goes_copies s (worker_words mem w) (held_levels_in s mem w) (lock_words s mem) w b lock visit found 0 (first_cell found 0 s.cells) known.owner refl
    known.knows did.0 (same_start found lock.cells lock.shadows) refl)
copying s mem mem' privs privs' es w b (LoadShadow visit mask cell) found fact worker was did became =
    let known : Knowing s mem w b (LoadShadow visit mask cell) = knowing s mem privs es w b (LoadShadow visit mask cell) fact worker was in
    load s mem mem' privs privs' es w b (LoadShadow visit mask cell) (Copying (StoreCell visit mask cell found)) (Shadow visit.lock cell) found fact known was did became
    (copies s (worker_words mem w) (held_levels_in s mem w) (lock_words s mem) w b (StoreCell visit mask cell found) (lock_words s mem visit.lock) known.owner known.shaped refl
    (known.knows.0, known.knows.1, known.knows.2, known.knows.3, did.0 ∙ shadow_read s mem visit.lock cell known.shaped.1))
copying s mem mem' privs privs' es w b (StoreCell visit mask cell value) found fact worker was did became =
    store_cell s mem mem' privs privs' es w b visit mask cell value found fact
    (knowing s mem privs es w b (StoreCell visit mask cell value) fact worker was) was did became
copying s mem mem' privs privs' es w b (LoadReply visit mask) found fact worker was did became =
    let known : Knowing s mem w b (LoadReply visit mask) = knowing s mem privs es w b (LoadReply visit mask) fact worker was in
    load s mem mem' privs privs' es w b (LoadReply visit mask) (Copying (StoreReply visit mask found)) (ShadowReply visit.lock) found fact known was did became
    (copies s (worker_words mem w) (held_levels_in s mem w) (lock_words s mem) w b (StoreReply visit mask found) (lock_words s mem visit.lock) known.owner known.shaped refl
    (known.knows.0, known.knows.1, known.knows.2, did.0))
copying s mem mem' privs privs' es w b (StoreReply visit mask reply) found fact worker was did became =
    let own : WorkerWords = worker_words mem w in
    let known : Knowing s mem w b (StoreReply visit mask reply) = knowing s mem privs es w b (StoreReply visit mask reply) fact worker was in
    store s mem mem' privs privs' es w b (StoreReply visit mask reply) (StorePlace visit mask reply) reply own.place own.at fact known was
    (reply_move s mem mem' w reply did) became refl known.shaped
    (known.knows.0, known.knows.1, known.knows.2, known.knows.3, refl)
copying s mem mem' privs privs' es w b (StorePlace visit mask reply) found fact worker was did became =
    let own : WorkerWords = worker_words mem w in
    let known : Knowing s mem w b (StorePlace visit mask reply) = knowing s mem privs es w b (StorePlace visit mask reply) fact worker was in
    store s mem mem' privs privs' es w b (StorePlace visit mask reply) (StoreAt visit mask reply) own.reply (visit.turn / 2) own.at fact known was
    (place_move s mem mem' w (visit.turn / 2) did) became refl known.shaped
    (known.knows.0, known.knows.1, known.knows.2, known.knows.3, known.knows.4, refl)
copying s mem mem' privs privs' es w b (StoreAt visit mask reply) found fact worker was did became =
    let own : WorkerWords = worker_words mem w in
    let known : Knowing s mem w b (StoreAt visit mask reply) = knowing s mem privs es w b (StoreAt visit mask reply) fact worker was in
    store s mem mem' privs privs' es w b (StoreAt visit mask reply) (StoreDone visit mask reply) own.reply own.place visit.lock fact known was
    (at_move s mem mem' w visit.lock did) became refl known.shaped
    (known.knows.0, known.knows.1, known.knows.2, known.knows.3, known.knows.4, known.knows.5, refl)
copying s mem mem' privs privs' es w b (StoreDone visit mask reply) found fact worker was did became =
    let known : Knowing s mem w b (StoreDone visit mask reply) = knowing s mem privs es w b (StoreDone visit mask reply) fact worker was in
    store_done s mem mem' privs privs' es w b visit mask reply fact known.owner known.knows was did became
