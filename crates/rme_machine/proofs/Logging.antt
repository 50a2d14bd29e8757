-- The law of each step of a section until its turn is odd.
use Rattle.std.proofs.Common.{◌≡◌, ℕ, ◌+◌, ◌*◌, ◌/◌, ◌%◌, ◌<◌, ◌≤◌, List, length, take, refl, sym, ◌∙◌, ap, subst, inl, inr, arith}
use Rattle.std.specs.Prelude.{true, ◌⊎◌, Option, Some, None, replicate, slice_index, slice_set}
use Rattle.std.proofs.lemmas.Bool.{cases_eq, eq-eqb, ne_eqb}
use Rattle.std.proofs.lemmas.List.{length-set, length-replicate}
use Rattle.std.proofs.lemmas.Option.{same_Some}
use Rattle.rme_words.specs.declared.shape.Shape.{Shape}
use Rattle.rme_words.specs.declared.address.Address.{Address}
use Rattle.rme_words.specs.declared.address.Address.TheVariants.{SlateLen, SlateWord, Turn, Cell}
use Rattle.rme_words.specs.Words.{StoreEffect}
use Rattle.rme_tree.specs.Nodes.{held_levels_in}
use Rattle.rme_script.specs.Cells.{mask_has_cell, ops_name_cell}
use Rattle.rme_script.specs.Eval.{eval_of}
use Rattle.rme_script.specs.Programs.{Program}
use Rattle.rme_script.specs.Scripts.{IsScript}
use Rattle.rme_script.specs.Slates.{script_from_words}
use Rattle.rme_script.proofs.Laws.{eval_length}
use Rattle.rme_script.proofs.Rising.{has_named}
use Rattle.rme_script.proofs.Weaker.{named_below}
use Rattle.rme_program.proofs.MaskLemmas.{mask_of-is_mask}
use Rattle.rme_program.specs.declared.note.Entry.{Entry}
use Rattle.rme_program.specs.declared.stage.Stage.{Stage}
use Rattle.rme_program.specs.declared.stage.Stage.TheVariants.{Logging, Copying}
use Rattle.rme_program.specs.declared.stage.Log.{Log}
use Rattle.rme_program.specs.declared.stage.Log.TheVariants.{LoadTurn, LoadLen, LoadSlate, LoadCells, StoreShadows, StoreShadowReply, StoreMask, StoreTurn}
use Rattle.rme_program.specs.declared.stage.Redo.TheVariants.{LoadMask}
use Rattle.rme_program.specs.declared.stage.Visit.{Visit}
use Rattle.rme_program.specs.declared.stage.Parity.{Parity}
use Rattle.rme_program.specs.declared.stage.Parity.TheVariants.{Even, Odd}
use Rattle.rme_program.specs.Masks.{mask_of, first_cell}
use Rattle.rme_program.specs.ActionEffects.{ActionEffect}
use Rattle.rme_program.specs.Conditions.{IsLogStage}
use Rattle.rme_program.specs.Steps.{private_action, private_after, note_after, shadow_stage_from, run_stage, cell_stage_from, slate_stage, turn_stage, logging_section}
use Rattle.rme_machine.specs.declared.label.Act.TheVariants.{Still}
use Rattle.rme_machine.specs.Histories.{place_of, lock_row}
use Rattle.rme_machine.specs.Views.{WorkerWords, LockWords, worker_words, lock_words, slate_script, slate_job}
use Rattle.rme_machine.specs.Knowledge.{ListsAgreeBelow, IsEvenTurn, ScriptHasRun, script_result, LogKnowledge, ParityKnowledge, log_lock}
use Rattle.rme_machine.specs.Invariant.{Invariant, IsSettledLock, IsLoggedLock}
use Rattle.rme_machine.specs.AbstractState.{Privates, act_of_note}
use Rattle.rme_machine.specs.Changes.{PrivateChange, history_after}
use Rattle.rme_machine.specs.Laws.{RefinementStep, concrete_state}
use Rattle.rme_machine.proofs.Moves.{LockMove, turn_move, shadow_move, shadow_reply_move, mask_move, cells_long, shadows_long, slate_long, cell_read, slate_read}
use Rattle.rme_machine.proofs.Masking.{next_some, same_start, same_next, same_all, same_stored}
use Rattle.rme_machine.proofs.Scripts.{IsPosted, posted, script_same, words_more, left_same}
use Rattle.rme_machine.proofs.Owning.{Owner, Inside, logs, copies, stands_even, quiet_load, quiet_lock}

-- The stage of a section after each of its loads. `lock` are the words of its lock.
module _ (s : Shape) (own : WorkerWords) (held : ℕ → ℕ) (locks : ℕ → LockWords) (w b : ℕ) (lock : LockWords) where
  -- The shadow words below a cell are stored.
  goes_shadows : (visit : Visit) (named reply from : ℕ) (row : List ℕ) (found : Option ℕ) → Owner s own held w b visit.lock → locks visit.lock ≡ lock
      → (run : ScriptHasRun own lock visit named) → length row ≡ s.cells → ListsAgreeBelow named s.cells row (script_result lock run.script).row
      → reply ≡ (script_result lock run.script).reply → ListsAgreeBelow named from lock.shadows row → first_cell named from s.cells ≡ found
      → Inside s own held locks w b (shadow_stage_from visit named row reply found)
  goes_shadows visit named reply from row (Some c) owner is run long left replies stored next =
      logs s own held locks w b (StoreShadows visit named row reply c) lock owner (owner.lock, (next_some named from s.cells c next).below, long) is
      (run, left, replies, (next_some named from s.cells c next).set, same_next named from s.cells c lock.shadows row next stored)
  goes_shadows visit named reply from row None owner is run long left replies stored next =
      logs s own held locks w b (StoreShadowReply visit named reply) lock owner owner.lock is
      (run, (λ c below set. same_all named from s.cells lock.shadows row next stored c below set ∙ left c below set), replies)

  -- The named cells are loaded, and the script is run.
  goes_run : (l turn named : ℕ) (script : Program) (row : List ℕ) → Owner s own held w b l → locks l ≡ lock → IsEvenTurn lock turn → length lock.cells ≡ s.cells
      → slate_script own ≡ Some script → named ≡ mask_of script.ops → length row ≡ s.cells → ListsAgreeBelow named s.cells row lock.cells
      → Inside s own held locks w b (run_stage s (logging_section l turn script named) row)
  goes_run l turn named script row owner is even long slate mask long_row same =
      let visit : Visit = record { lock = l; turn = turn; parity = Even script.n named } in
      let run : ScriptHasRun own lock visit named = record { even = even; script = script; slate = slate; mask = mask; parity = refl } in
      let left = left_same script.ops s.cells row lock.cells long_row long (subst (λ (m : ℕ). ListsAgreeBelow m s.cells row lock.cells) mask same) in
      goes_shadows visit named (eval_of script.ops row).reply 0 (eval_of script.ops row).row (first_cell named 0 s.cells) owner is run
      (eval_length script.ops row ∙ long_row) (subst (λ (m : ℕ). ListsAgreeBelow m s.cells (eval_of script.ops row).row (script_result lock script).row) (sym mask) left.0)
      left.1 (same_start named lock.shadows (eval_of script.ops row).row) refl

  -- The named cells below a cell are loaded.
  goes_cells : (l turn named from : ℕ) (script : Program) (row : List ℕ) (found : Option ℕ) → Owner s own held w b l → locks l ≡ lock → IsEvenTurn lock turn → length lock.cells ≡ s.cells
      → slate_script own ≡ Some script → IsScript s.cells script → named ≡ mask_of script.ops → length row ≡ s.cells → ListsAgreeBelow named from row lock.cells
      → first_cell named from s.cells ≡ found → Inside s own held locks w b (cell_stage_from s (logging_section l turn script named) row found)
  goes_cells l turn named from script row (Some c) owner is even long slate shaped mask long_row same next =
      logs s own held locks w b (LoadCells l turn script named row c) lock owner (owner.lock, (next_some named from s.cells c next).below, long_row, shaped) is
      (even, slate, mask, (next_some named from s.cells c next).set, same_next named from s.cells c row lock.cells next same)
  goes_cells l turn named from script row None owner is even long slate shaped mask long_row same next =
      goes_run l turn named script row owner is even long slate mask long_row (same_all named from s.cells row lock.cells next same)

  -- The first words of the slate are loaded.
  goes_slate : (l turn operations loaded : ℕ) (words : List ℕ) (script : Program) → Owner s own held w b l → locks l ≡ lock → IsEvenTurn lock turn → length lock.cells ≡ s.cells
      → IsPosted s own script → own.slate_len ≡ operations → length words ≡ 24 → take loaded words ≡ take loaded own.slate → loaded ≤ 3 * operations
      → Inside s own held locks w b (slate_stage s l turn operations words loaded)
  goes_slate l turn operations loaded words script owner is even long post len long_words same most = elim (cases_eq loaded (3 * operations)) [
    | inl all ↦
        let whole : take (3 * operations) words ≡ take (3 * operations) own.slate = subst (λ (n : ℕ). take n words ≡ take n own.slate) all same in
        let found : script_from_words operations words ≡ Some script = script_same operations words own.slate whole ∙ ap (λ (n : ℕ). script_from_words n own.slate) (sym len) ∙ post.slate in
        rw (eq-eqb loaded (3 * operations) all, found)
        (goes_cells l turn (mask_of script.ops) 0 script (replicate s.cells 0) (first_cell (mask_of script.ops) 0 s.cells) owner is even long post.slate post.shaped refl
        (length-replicate s.cells 0) (same_start (mask_of script.ops) (replicate s.cells 0) lock.cells) refl)
    | inr more ↦
        let few = post.few in
        rw (ne_eqb loaded (3 * operations) more)
        (logs s own held locks w b (LoadSlate l turn operations words loaded) lock owner (owner.lock, omega (arith, len, few), omega (arith, most, more)) is (even, len, long_words, same))
  ]

  -- The turn is loaded.
  goes_turn : (l turn : ℕ) → Owner s own held w b l → locks l ≡ lock → lock.turn ≡ turn → Inside s own held locks w b (turn_stage l turn)
  goes_turn l turn owner is at = elim (cases_eq (turn % 2) 0) [
    | inl even ↦ rw (eq-eqb (turn % 2) 0 even) (logs s own held locks w b (LoadLen l turn) lock owner owner.lock is (at, even))
    | inr odd ↦ rw (ne_eqb (turn % 2) 0 odd)
        (copies s own held locks w b (LoadMask record { lock = l; turn = turn; parity = Odd }) lock owner owner.lock is (omega (arith, at, odd), omega (arith, odd)))
  ]

-- A settled lock with whole shadow words is logged once its turn is odd.
logged_now : (s : Shape) (lock : LockWords) (turn : ℕ) (row : List ℕ) (place : ℕ) (script : Program) → IsSettledLock lock row place → turn + 1 ≡ 2 * place + 1
    → IsScript s.cells script → lock.mask ≡ mask_of script.ops → ListsAgreeBelow lock.mask s.cells lock.shadows (script_result lock script).row
    → lock.shadow_reply ≡ (script_result lock script).reply → IsLoggedLock s record lock { turn = turn + 1 } row place script
logged_now s lock turn row place script settled odd shaped mask shadows replies =
    let named : (c : ℕ) → mask_has_cell lock.mask c ≡ ops_name_cell script.ops c = λ c. ap (λ (m : ℕ). mask_has_cell m c) mask ∙ has_named (mask_of script.ops) script.ops (mask_of-is_mask script.ops) c in
    let within : (c : ℕ) → mask_has_cell lock.mask c ≡ true → c < s.cells = λ c set. named_below s.cells script.ops c shaped.within (sym (named c) ∙ set) in
    let left : (eval_of script.ops row).row ≡ (script_result lock script).row = ap (λ (cells : List ℕ). (eval_of script.ops cells).row) (sym settled.cells) in
    record {
      turn = odd;
      mask = record { within = within; named = λ c t. named c ∙ t };
      shadows = λ c set. shadows c (within c set) set ∙ ap (λ (cells : List ℕ). slice_index cells c) (sym left);
      reply = replies ∙ ap (λ (cells : List ℕ). (eval_of script.ops cells).reply) settled.cells;
      cells = λ c below. inl (ap (λ (cells : List ℕ). slice_index cells c) settled.cells);
    }

-- The knowledge at a stage.
record Knowing (s : Shape) (mem : Address → ℕ) (w b : ℕ) (log : Log) : Type 0 where
  owner : Owner s (worker_words mem w) (held_levels_in s mem w) w b (log_lock log)
  shaped : IsLogStage s log
  knows : LogKnowledge s (worker_words mem w) (lock_words s mem (log_lock log)) log

pub log_lock_less : (s : Shape) (log : Log) → IsLogStage s log → log_lock log < s.locks
log_lock_less s (LoadTurn lock) shaped = shaped
log_lock_less s (LoadLen lock turn) shaped = shaped
log_lock_less s (LoadSlate lock turn operations words loaded) shaped = shaped.0
log_lock_less s (LoadCells lock turn script named row cell) shaped = shaped.0
log_lock_less s (StoreShadows visit named row reply cell) shaped = shaped.0
log_lock_less s (StoreShadowReply visit named reply) shaped = shaped
log_lock_less s (StoreMask visit named) shaped = shaped
log_lock_less s (StoreTurn visit) shaped = shaped

knowing : (s : Shape) (mem : Address → ℕ) (privs : Privates) (es : List Entry) (w b : ℕ) (log : Log) → Invariant s mem privs es → w < s.workers
    → privs w ≡ Some record { worker = w; begun = b; stage = Logging log } → Knowing s mem w b log
knowing s mem privs es w b log fact worker was =
    let fits = fact.fits w record { worker = w; begun = b; stage = Logging log } worker was in
    record {
      owner = record { worker = worker; few = fits.shaped.begun; lock = log_lock_less s log fits.shaped.stage; at = fits.knows.0 };
      shaped = fits.shaped.stage;
      knows = fits.knows.1;
    }

module _ (s : Shape) (mem mem' : Address → ℕ) (privs privs' : Privates) (es : List Entry) (w b : ℕ) where
  load : (log : Log) (stage : Stage) (address : Address) (found : ℕ) → Invariant s mem privs es → Knowing s mem w b log
      → privs w ≡ Some record { worker = w; begun = b; stage = Logging log } → (found ≡ mem address) × (mem' ≡ mem)
      → PrivateChange privs privs' w (Some record { worker = w; begun = b; stage = stage })
      → Inside s (worker_words mem w) (held_levels_in s mem w) (lock_words s mem) w b stage
      → RefinementStep s (concrete_state mem privs es) (concrete_state mem' privs' es) w Still
  load log stage address found fact known was did became next =
      subst (λ (m : Address → ℕ). RefinementStep s (concrete_state mem privs es) (concrete_state m privs' es) w Still) (sym did.1)
      (quiet_load s mem privs privs' es w b (log_lock log) record { worker = w; begun = b; stage = Logging log } stage fact known.owner was refl became next)

  store : (log : Log) (stage : Stage) (new : LockWords) → Invariant s mem privs es → Knowing s mem w b log
      → privs w ≡ Some record { worker = w; begun = b; stage = Logging log } → LockMove s mem mem' (log_lock log) new
      → PrivateChange privs privs' w (Some record { worker = w; begun = b; stage = stage })
      → ((locks : ℕ → LockWords) → locks (log_lock log) ≡ new → Inside s (worker_words mem w) (held_levels_in s mem w) locks w b stage)
      → IsSettledLock new (lock_row s es (log_lock log)) (place_of es (log_lock log))
      ⊎ IsLoggedLock s new (lock_row s es (log_lock log)) (place_of es (log_lock log)) (slate_job (worker_words mem w)).script
      → RefinementStep s (concrete_state mem privs es) (concrete_state mem' privs' es) w Still
  store log stage new fact known was move became next stands =
      quiet_lock s mem mem' privs privs' es w b (log_lock log) record { worker = w; begun = b; stage = Logging log } stage new fact known.owner was refl became move next stands

  -- The script of the slate.
  script_at : (l : ℕ) → Invariant s mem privs es → Owner s (worker_words mem w) (held_levels_in s mem w) w b l → (script : Program) × IsPosted s (worker_words mem w) script
  script_at l fact owner = posted s (worker_words mem w) ((fact.accounts w owner.worker).slate owner.at.pending)

  -- While the shadow words are stored, the turn is even and the cells are the row.
  settled_at : (visit : Visit) (named : ℕ) → Invariant s mem privs es → Owner s (worker_words mem w) (held_levels_in s mem w) w b visit.lock
      → ScriptHasRun (worker_words mem w) (lock_words s mem visit.lock) visit named
      → IsSettledLock (lock_words s mem visit.lock) (lock_row s es visit.lock) (place_of es visit.lock)
  settled_at visit named fact owner run =
      let turn = run.even.0 in
      let even = run.even.1 in
      stands_even s mem privs es w b visit.lock fact owner (ap (λ (n : ℕ). n % 2) turn ∙ even)

  store_turn : (visit : Visit) → Invariant s mem privs es → Knowing s mem w b (StoreTurn visit)
      → privs w ≡ Some record { worker = w; begun = b; stage = Logging (StoreTurn visit) } → StoreEffect mem mem' (Turn visit.lock) (visit.turn + 1)
      → PrivateChange privs privs' w (Some record { worker = w; begun = b; stage = Copying (LoadMask visit) })
      → RefinementStep s (concrete_state mem privs es) (concrete_state mem' privs' es) w Still
  store_turn visit fact known was wrote became =
      let own : WorkerWords = worker_words mem w in
      let lock : LockWords = lock_words s mem visit.lock in
      let new : LockWords = record lock { turn = visit.turn + 1 } in
      let run : ScriptHasRun own lock visit lock.mask = known.knows.0 in
      let settled : IsSettledLock lock (lock_row s es visit.lock) (place_of es visit.lock) = settled_at visit lock.mask fact known.owner run in
      let even = run.even.1 in
      let turn : lock.turn ≡ visit.turn = run.even.0 in
      let place = settled.turn in
      let odd : (new.turn ≡ 2 * (visit.turn / 2) + 1) × (new.turn ≡ 2 * place_of es visit.lock + 1) = (omega (arith, even), omega (arith, turn, place)) in
      let script : (script : Program) × IsPosted s own script = script_at visit.lock fact known.owner in
      let same : run.script ≡ script.0 = same_Some run.script script.0 (sym run.slate ∙ script.1.slate) in
      let shaped : IsScript s.cells run.script = subst (λ (some : Program). IsScript s.cells some) (sym same) script.1.shaped in
      let job : (slate_job own).script ≡ run.script = script.1.job ∙ sym same in
      let logged : IsLoggedLock s new (lock_row s es visit.lock) (place_of es visit.lock) run.script =
      logged_now s lock visit.turn (lock_row s es visit.lock) (place_of es visit.lock) run.script settled odd.1 shaped run.mask known.knows.1 known.knows.2 in
      store (StoreTurn visit) (Copying (LoadMask visit)) new fact known was (turn_move s mem mem' visit.lock (visit.turn + 1) wrote) became
      (λ locks at. copies s own (held_levels_in s mem w) locks w b (LoadMask visit) new known.owner known.owner.lock at
      (odd.0, subst (λ (parity : Parity). ParityKnowledge own new visit.turn parity) (sym run.parity) (run.script, run.slate, refl, run.mask, refl, run.even.1)))
      (inr (subst (λ (some : Program). IsLoggedLock s new (lock_row s es visit.lock) (place_of es visit.lock) some) (sym job) logged))

pub logging : (s : Shape) (mem mem' : Address → ℕ) (privs privs' : Privates) (es : List Entry) (w b : ℕ) (log : Log) (found : ℕ) → Invariant s mem privs es
    → w < s.workers → privs w ≡ Some record { worker = w; begun = b; stage = Logging log }
    → ActionEffect mem mem' (private_action s record { worker = w; begun = b; stage = Logging log }) found
    → PrivateChange privs privs' w (Some (private_after s record { worker = w; begun = b; stage = Logging log } found))
    → RefinementStep s (concrete_state mem privs es) (concrete_state mem' privs' (history_after es mem w (note_after s record { worker = w; begun = b; stage = Logging log } found))) w
    (act_of_note (note_after s record { worker = w; begun = b; stage = Logging log } found))
logging s mem mem' privs privs' es w b (LoadTurn l) found fact worker was did became =
    let known : Knowing s mem w b (LoadTurn l) = knowing s mem privs es w b (LoadTurn l) fact worker was in
    load s mem mem' privs privs' es w b (LoadTurn l) (turn_stage l found) (Turn l) found fact known was did became
    (goes_turn s (worker_words mem w) (held_levels_in s mem w) (lock_words s mem) w b (lock_words s mem l) l found known.owner refl (sym did.0))
logging s mem mem' privs privs' es w b (LoadLen l turn) found fact worker was did became =
    let known : Knowing s mem w b (LoadLen l turn) = knowing s mem privs es w b (LoadLen l turn) fact worker was in
    let script : (script : Program) × IsPosted s (worker_words mem w) script = script_at s mem mem' privs privs' es w b l fact known.owner in
    load s mem mem' privs privs' es w b (LoadLen l turn) (slate_stage s l turn found (replicate 24 0) 0) (SlateLen w) found fact known was did became
    (goes_slate s (worker_words mem w) (held_levels_in s mem w) (lock_words s mem) w b (lock_words s mem l) l turn found 0 (replicate 24 0) script.0
    known.owner refl known.knows (cells_long s mem l) script.1 (sym did.0) (length-replicate {A = ℕ} 24 0) refl (omega arith))
logging s mem mem' privs privs' es w b (LoadSlate l turn operations words loaded) found fact worker was did became =
    let own : WorkerWords = worker_words mem w in
    let known : Knowing s mem w b (LoadSlate l turn operations words loaded) = knowing s mem privs es w b (LoadSlate l turn operations words loaded) fact worker was in
    let script : (script : Program) × IsPosted s own script = script_at s mem mem' privs privs' es w b l fact known.owner in
    let few = known.shaped.1 in
    let more = known.shaped.2 in
    let within : loaded < 24 = omega (arith, few, more) in
    let long : length words ≡ 24 = known.knows.2 in
    let front : take (loaded + 1) (slice_set words loaded found) ≡ take (loaded + 1) own.slate =
    words_more words own.slate loaded found (omega (arith, within, long)) (omega (arith, within, slate_long mem w)) (did.0 ∙ slate_read mem w loaded within) known.knows.3 in
    load s mem mem' privs privs' es w b (LoadSlate l turn operations words loaded) (slate_stage s l turn operations (slice_set words loaded found) (loaded + 1))
    (SlateWord w (loaded / 3) (loaded % 3)) found fact known was did became
    (goes_slate s own (held_levels_in s mem w) (lock_words s mem) w b (lock_words s mem l) l turn operations (loaded + 1) (slice_set words loaded found) script.0
    known.owner refl known.knows.0 (cells_long s mem l) script.1 known.knows.1 (length-set words loaded found ∙ long) front (omega (arith, more)))
logging s mem mem' privs privs' es w b (LoadCells l turn script named row cell) found fact worker was did became =
    let known : Knowing s mem w b (LoadCells l turn script named row cell) = knowing s mem privs es w b (LoadCells l turn script named row cell) fact worker was in
    let lock : LockWords = lock_words s mem l in
    let below = known.shaped.1 in
    let long = known.shaped.2 in
    load s mem mem' privs privs' es w b (LoadCells l turn script named row cell)
    (cell_stage_from s (logging_section l turn script named) (slice_set row cell found) (first_cell named (cell + 1) s.cells)) (Cell l cell) found fact known was did became
    (goes_cells s (worker_words mem w) (held_levels_in s mem w) (lock_words s mem) w b lock l turn named (cell + 1) script (slice_set row cell found) (first_cell named (cell + 1) s.cells)
    known.owner refl known.knows.0 (cells_long s mem l) known.knows.1 known.shaped.3 known.knows.2 (length-set row cell found ∙ long)
    (same_stored named cell found row lock.cells (omega (arith, below, long)) (did.0 ∙ cell_read s mem l cell below) known.knows.4) refl)
logging s mem mem' privs privs' es w b (StoreShadows visit named row reply cell) found fact worker was did became =
    let known : Knowing s mem w b (StoreShadows visit named row reply cell) = knowing s mem privs es w b (StoreShadows visit named row reply cell) fact worker was in
    let lock : LockWords = lock_words s mem visit.lock in
    let new : LockWords = record lock { shadows = slice_set lock.shadows cell (slice_index row cell) } in
    let below = known.shaped.1 in
    let run : ScriptHasRun (worker_words mem w) lock visit named = known.knows.0 in
    let settled = settled_at s mem mem' privs privs' es w b visit named fact known.owner run in
    let stored : ListsAgreeBelow named (cell + 1) new.shadows row =
    same_stored named cell (slice_index row cell) lock.shadows row (omega (arith, below, shadows_long s mem visit.lock)) refl known.knows.4 in
    store s mem mem' privs privs' es w b (StoreShadows visit named row reply cell) (shadow_stage_from visit named row reply (first_cell named (cell + 1) s.cells)) new fact known was
    (shadow_move s mem mem' visit.lock (slice_index row cell) cell below did) became
    (λ locks at. goes_shadows s (worker_words mem w) (held_levels_in s mem w) locks w b new visit named reply (cell + 1) row (first_cell named (cell + 1) s.cells)
    known.owner at record { even = run.even; script = run.script; slate = run.slate; mask = run.mask; parity = run.parity } known.shaped.2 known.knows.1 known.knows.2 stored refl)
    (inl record { turn = settled.turn; cells = settled.cells })
logging s mem mem' privs privs' es w b (StoreShadowReply visit named reply) found fact worker was did became =
    let known : Knowing s mem w b (StoreShadowReply visit named reply) = knowing s mem privs es w b (StoreShadowReply visit named reply) fact worker was in
    let lock : LockWords = lock_words s mem visit.lock in
    let new : LockWords = record lock { shadow_reply = reply } in
    let run : ScriptHasRun (worker_words mem w) lock visit named = known.knows.0 in
    let settled = settled_at s mem mem' privs privs' es w b visit named fact known.owner run in
    store s mem mem' privs privs' es w b (StoreShadowReply visit named reply) (Logging (StoreMask visit named)) new fact known was
    (shadow_reply_move s mem mem' visit.lock reply did) became
    (λ locks at. logs s (worker_words mem w) (held_levels_in s mem w) locks w b (StoreMask visit named) new known.owner known.owner.lock at
    (record { even = run.even; script = run.script; slate = run.slate; mask = run.mask; parity = run.parity }, known.knows.1, known.knows.2))
    (inl record { turn = settled.turn; cells = settled.cells })
logging s mem mem' privs privs' es w b (StoreMask visit named) found fact worker was did became =
    let known : Knowing s mem w b (StoreMask visit named) = knowing s mem privs es w b (StoreMask visit named) fact worker was in
    let lock : LockWords = lock_words s mem visit.lock in
    let new : LockWords = record lock { mask = named } in
    let run : ScriptHasRun (worker_words mem w) lock visit named = known.knows.0 in
    let settled = settled_at s mem mem' privs privs' es w b visit named fact known.owner run in
    store s mem mem' privs privs' es w b (StoreMask visit named) (Logging (StoreTurn visit)) new fact known was
    (mask_move s mem mem' visit.lock named did) became
    (λ locks at. logs s (worker_words mem w) (held_levels_in s mem w) locks w b (StoreTurn visit) new known.owner known.owner.lock at
    (record { even = run.even; script = run.script; slate = run.slate; mask = run.mask; parity = run.parity }, known.knows.1, known.knows.2))
    (inl record { turn = settled.turn; cells = settled.cells })
logging s mem mem' privs privs' es w b (StoreTurn visit) found fact worker was did became =
    store_turn s mem mem' privs privs' es w b visit fact (knowing s mem privs es w b (StoreTurn visit) fact worker was) was did became
