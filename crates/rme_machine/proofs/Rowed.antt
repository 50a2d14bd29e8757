-- Each worker that is up is at a place of a row of the step table: the invariant determines what its loads found.
use Rattle.std.proofs.Common.{◌≡◌, ◌≢◌, ℕ, zero, suc, ◌*◌, ◌%◌, ◌<◌, ◌≤◌, List, [], ◌∷◌, take, refl, sym, ◌∙◌, ap, subst, arith}
use Rattle.std.specs.Prelude.{true, nat_lt, slice_index, Some}
use Rattle.std.proofs.lemmas.Bool.{eq-eqb, ne_eqb}
use Rattle.std.proofs.lemmas.Option.{same_Some}
use Rattle.rme_words.specs.declared.shape.Shape.{Shape}
use Rattle.rme_words.specs.declared.address.Address.{Address}
use Rattle.rme_tree.specs.Nodes.{held_levels_in}
use Rattle.rme_script.specs.Cells.{mask_has_cell, ops_name_cell}
use Rattle.rme_script.specs.Eval.{eval_of}
use Rattle.rme_script.specs.Programs.{Program}
use Rattle.rme_script.specs.Slates.{IsSlate, ops_words}
use Rattle.rme_script.proofs.Rising.{has_named}
use Rattle.rme_script.proofs.Slates.{script_slate}
use Rattle.rme_program.specs.declared.stage.Stage.{Stage}
use Rattle.rme_program.specs.declared.stage.Stage.TheVariants.{Resting, Recovering, Posting, Climbing, Logging, Copying, Leaving}
use Rattle.rme_program.specs.declared.stage.Recovery.{Recovery}
use Rattle.rme_program.specs.declared.stage.Recovery.TheVariants.{LoadBegun, LoadDone, LoadLock, LoadPath}
use Rattle.rme_program.specs.declared.stage.Log.{Log}
use Rattle.rme_program.specs.declared.stage.Log.TheVariants.{LoadTurn, LoadLen, LoadSlate, LoadCells, StoreShadows, StoreShadowReply, StoreMask, StoreTurn}
use Rattle.rme_program.specs.declared.stage.Redo.{Redo}
use Rattle.rme_program.specs.declared.stage.Redo.TheVariants.{LoadMask, LoadShadow, StoreCell, LoadReply, StoreReply, StorePlace, StoreAt, StoreDone}
use Rattle.rme_program.specs.declared.stage.Departure.{Departure}
use Rattle.rme_program.specs.declared.stage.Departure.TheVariants.{LoadExitTurn, StoreExitTurn, Clear, WithdrawPlace, WithdrawAt, WithdrawReply, WithdrawDone}
use Rattle.rme_program.specs.declared.stage.Visit.{Visit}
use Rattle.rme_program.specs.declared.stage.Parity.{Parity}
use Rattle.rme_program.specs.declared.stage.Parity.TheVariants.{Even, Odd}
use Rattle.rme_program.specs.Conditions.{IsStage, IsLogStage, IsDepartureStage}
use Rattle.rme_program.specs.Masks.{mask_of}
use Rattle.rme_program.specs.Progress.{IsOnTrack, IsLogOnTrack, IsRedoOnTrack, IsEvenWithMask, IsEvenParity}
use Rattle.rme_program.specs.Steps.{private_action}
use Rattle.rme_program.specs.Stays as stays
use Rattle.rme_program.specs.Stays.{Stay, InRecover, InPost, InEnter, InSection, InExit, InWithdrawal, IsReading, LogIsInStay, RedoIsInStay, WorkerIsAtRow, reading_parity, reading_visit}
use Rattle.rme_program.specs.Table.{Reading}
use Rattle.rme_program.proofs.MaskLemmas.{mask_of-is_mask}
use Rattle.rme_program.proofs.Turns.{takes_by}
use Rattle.rme_machine.specs.Knowledge.{ListsAgreeBelow, ScriptHasRun, LogKnowledge, ParityKnowledge, RedoKnowledge, RecoveryKnowledge, DepartureKnowledge, StageKnowledge, log_lock, redo_lock}
use Rattle.rme_machine.specs.FurtherLaws.{RowLaw}
use Rattle.rme_machine.specs.Views.{WorkerWords, LockWords, worker_words, lock_words, is_pending, slate_script}
use Rattle.rme_machine.proofs.Moves.{cells_long}
use Rattle.rme_machine.proofs.Scripts.{IsPosted, posted}

-- ---- on track

log_on_track : (s : Shape) (own : WorkerWords) (lock : LockWords) (log : Log) → LogKnowledge s own lock log → IsLogOnTrack log
log_on_track s own lock (LoadTurn at) knows = tt
log_on_track s own lock (LoadLen at turn) knows = tt
log_on_track s own lock (LoadSlate at turn operations words loaded) knows = tt
log_on_track s own lock (LoadCells at turn script named row cell) knows = (knows.2, knows.3)
log_on_track s own lock (StoreShadows visit named row reply cell) knows = (subst (λ (p : Parity). IsEvenWithMask p named) (sym knows.0.parity) refl, knows.3)
log_on_track s own lock (StoreShadowReply visit named reply) knows = subst (λ (p : Parity). IsEvenWithMask p named) (sym knows.0.parity) refl
log_on_track s own lock (StoreMask visit named) knows = subst (λ (p : Parity). IsEvenWithMask p named) (sym knows.0.parity) refl
log_on_track s own lock (StoreTurn visit) knows = subst (λ (p : Parity). IsEvenParity p) (sym knows.0.parity) tt

redo_on_track : (s : Shape) (own : WorkerWords) (lock : LockWords) (redo : Redo) → RedoKnowledge s own lock redo → IsRedoOnTrack redo
redo_on_track s own lock (LoadMask visit) knows = tt
redo_on_track s own lock (LoadShadow visit mask cell) knows = knows.3
redo_on_track s own lock (StoreCell visit mask cell value) knows = knows.3
redo_on_track s own lock (LoadReply visit mask) knows = tt
redo_on_track s own lock (StoreReply visit mask reply) knows = tt
redo_on_track s own lock (StorePlace visit mask reply) knows = tt
redo_on_track s own lock (StoreAt visit mask reply) knows = tt
redo_on_track s own lock (StoreDone visit mask reply) knows = tt

on_track : (s : Shape) (own : WorkerWords) (held : ℕ → ℕ) (locks : ℕ → LockWords) (b : ℕ) (stage : Stage) → StageKnowledge s own held locks b stage → IsOnTrack stage
on_track s own held locks b Resting knows = tt
on_track s own held locks b (Recovering recovery) knows = tt
on_track s own held locks b (Posting slate) knows = tt
on_track s own held locks b (Climbing ascent) knows = tt
on_track s own held locks b (Logging log) knows = log_on_track s own (locks (log_lock log)) log knows.1
on_track s own held locks b (Copying redo) knows = redo_on_track s own (locks (redo_lock redo)) redo knows.1
on_track s own held locks b (Leaving departure) knows = tt

-- ---- the values that a section's loads find

-- The lock's words, at the loaded turn, and the script of the slate.
abbrev reading_at : LockWords → ℕ → Program → Reading
reading_at lock turn script = record { turn = turn; script = script; cells = lock.cells; mask = lock.mask; shadows = lock.shadows; reply = lock.shadow_reply }

take_front : (a b : ℕ) (xs ys : List ℕ) → a ≤ b → take b xs ≡ ys → take a xs ≡ take a ys
take_front a b xs ys less same = shorter a b xs less ∙ ap (λ (zs : List ℕ). take a zs) same
  where
    shorter : (a b : ℕ) (xs : List ℕ) → a ≤ b → take a xs ≡ take a (take b xs)
    shorter zero b xs less = refl
    shorter (suc a) zero xs less = absurd (omega (arith, less))
    shorter (suc a) (suc b) [] less = refl
    shorter (suc a) (suc b) (x ∷ xs) less = ap (λ (zs : List ℕ). x ∷ zs) (shorter a b xs (omega (arith, less)))

-- A property of the cells of a script's mask below a cell is one of the cells that the script names.
named_same : (mask from : ℕ) (script : Program) (xs ys : List ℕ) → mask ≡ mask_of script.ops → ListsAgreeBelow mask from xs ys → (c : ℕ) → c < from → ops_name_cell script.ops c ≡ true
    → slice_index xs c ≡ slice_index ys c
named_same mask from script xs ys is same c below named =
    same c below (ap (λ (m : ℕ). mask_has_cell m c) is ∙ has_named (mask_of script.ops) script.ops (mask_of-is_mask script.ops) c ∙ named)

visit_even : (visit : Visit) (lock : LockWords) (script : Program) (named : ℕ) → visit.parity ≡ Even script.n named → named ≡ mask_of script.ops → visit.turn % 2 ≡ 0
    → visit ≡ reading_visit visit.lock (reading_at lock visit.turn script)
visit_even visit lock script named parity mask even =
    let is : visit.parity ≡ reading_parity (reading_at lock visit.turn script) = rw (eq-eqb (visit.turn % 2) 0 even) (parity ∙ ap (λ (m : ℕ). Even script.n m) mask) in
    ap (λ (p : Parity). record visit { parity = p }) is

module _ (s : Shape) (own : WorkerWords) (lock : LockWords) (script : Program) (post : IsPosted s own script) (words : IsSlate own.slate_len own.slate script) where
  same_script : (other : Program) → slate_script own ≡ Some other → other ≡ script
  same_script other is = same_Some other script (sym is ∙ post.slate)

  log_stay : (log : Log) → IsLogStage s log → LogKnowledge s own lock log → (turn : ℕ) × LogIsInStay s (log_lock log) (reading_at lock turn script) log
  log_stay (LoadTurn at) is knows = (0, refl)
  log_stay (LoadLen at turn) is knows = (turn, (knows.1, refl, refl))
  log_stay (LoadSlate at turn operations loaded_words loaded) is knows =
      (turn, (knows.0.1, refl, refl, sym knows.1 ∙ sym post.counted, knows.2, knows.3 ∙ take_front loaded (3 * own.slate_len) own.slate (ops_words script.ops) (omega (arith, is.2, knows.1)) words.first))
  log_stay (LoadCells at turn other named row cell) is knows =
      let same : other ≡ script = same_script other knows.1 in
      let mask : named ≡ mask_of script.ops = knows.2 ∙ ap (λ (p : Program). mask_of p.ops) same in
      (turn, (knows.0.1, refl, refl, same, mask, knows.3, is.2, named_same named cell script row lock.cells mask knows.4))
  log_stay (StoreShadows visit named row reply cell) is knows =
      let run : ScriptHasRun own lock visit named = knows.0 in
      let same : run.script ≡ script = same_script run.script run.slate in
      let mask : named ≡ mask_of script.ops = run.mask ∙ ap (λ (p : Program). mask_of p.ops) same in
      (visit.turn, (run.even.1, visit_even visit lock script named (run.parity ∙ ap (λ (p : Program). Even p.n named) same) mask run.even.1, mask, knows.3, named_same named s.cells script row (eval_of script.ops lock.cells).row mask (subst (λ (p : Program). ListsAgreeBelow named s.cells row (eval_of p.ops lock.cells).row) same knows.1), knows.2 ∙ ap (λ (p : Program). (eval_of p.ops lock.cells).reply) same))
  log_stay (StoreShadowReply visit named reply) is knows =
      let run : ScriptHasRun own lock visit named = knows.0 in
      let same : run.script ≡ script = same_script run.script run.slate in
      let mask : named ≡ mask_of script.ops = run.mask ∙ ap (λ (p : Program). mask_of p.ops) same in
      (visit.turn, (run.even.1, visit_even visit lock script named (run.parity ∙ ap (λ (p : Program). Even p.n named) same) mask run.even.1, mask, knows.2 ∙ ap (λ (p : Program). (eval_of p.ops lock.cells).reply) same))
  log_stay (StoreMask visit named) is knows =
      let run : ScriptHasRun own lock visit named = knows.0 in
      let same : run.script ≡ script = same_script run.script run.slate in
      let mask : named ≡ mask_of script.ops = run.mask ∙ ap (λ (p : Program). mask_of p.ops) same in
      (visit.turn, (run.even.1, visit_even visit lock script named (run.parity ∙ ap (λ (p : Program). Even p.n named) same) mask run.even.1, mask))
  log_stay (StoreTurn visit) is knows =
      let run : ScriptHasRun own lock visit lock.mask = knows.0 in
      let same : run.script ≡ script = same_script run.script run.slate in
      let mask : lock.mask ≡ mask_of script.ops = run.mask ∙ ap (λ (p : Program). mask_of p.ops) same in
      (visit.turn, (run.even.1, visit_even visit lock script lock.mask (run.parity ∙ ap (λ (p : Program). Even p.n lock.mask) same) mask run.even.1))

  visit_by : (visit : Visit) (parity : Parity) → visit.parity ≡ parity → ParityKnowledge own lock visit.turn parity → visit ≡ reading_visit visit.lock (reading_at lock visit.turn script)
  visit_by visit Odd is odd =
      let not_even : visit.turn % 2 ≢ 0 = λ e. omega (arith, e, odd) in
      let there : visit.parity ≡ reading_parity (reading_at lock visit.turn script) = rw (ne_eqb (visit.turn % 2) 0 not_even) is in
      ap (λ (p : Parity). record visit { parity = p }) there
  visit_by visit (Even operations cells) is knows =
      let same : knows.0 ≡ script = same_script knows.0 knows.1 in
      visit_even visit lock script cells (is ∙ ap (λ (n : ℕ). Even n cells) (knows.2 ∙ ap (λ (p : Program). p.n) same)) (knows.3 ∙ ap (λ (p : Program). mask_of p.ops) same) knows.5

  redo_stay : (redo : Redo) → RedoKnowledge s own lock redo → (turn : ℕ) × RedoIsInStay (redo_lock redo) (reading_at lock turn script) redo
  redo_stay (LoadMask visit) knows = (visit.turn, visit_by visit visit.parity refl knows.1)
  redo_stay (LoadShadow visit mask cell) knows = (visit.turn, (visit_by visit visit.parity refl knows.0.1, knows.1, knows.3))
  redo_stay (StoreCell visit mask cell value) knows = (visit.turn, (visit_by visit visit.parity refl knows.0.1, knows.1, knows.3, knows.4))
  redo_stay (LoadReply visit mask) knows = (visit.turn, (visit_by visit visit.parity refl knows.0.1, knows.1))
  redo_stay (StoreReply visit mask reply) knows = (visit.turn, (visit_by visit visit.parity refl knows.0.1, knows.1, knows.3))
  redo_stay (StorePlace visit mask reply) knows = (visit.turn, (visit_by visit visit.parity refl knows.0.1, knows.1, knows.3))
  redo_stay (StoreAt visit mask reply) knows = (visit.turn, (visit_by visit visit.parity refl knows.0.1, knows.1, knows.3))
  redo_stay (StoreDone visit mask reply) knows = (visit.turn, (visit_by visit visit.parity refl knows.0.1, knows.1, knows.3))

-- ---- the stay of each stage

departure_stay : (s : Shape) (own : WorkerWords) (held : ℕ → ℕ) (locks : ℕ → LockWords) (b : ℕ) (departure : Departure) → IsDepartureStage s departure → DepartureKnowledge s own held locks b departure
    → (stay : Stay) × stays.StageIsInStay s b stay (Leaving departure)
departure_stay s own held locks b (LoadExitTurn lock) is knows = (InExit lock 0, refl)
departure_stay s own held locks b (StoreExitTurn lock turn) is knows = (InExit lock turn, (refl, refl, (λ e. omega (arith, e, knows.2))))
departure_stay s own held locks b (Clear lock level) is knows = (InExit lock 0, (refl, is.2))
departure_stay s own held locks b (WithdrawPlace lock levels) is knows = (InWithdrawal lock levels, (refl, refl))
departure_stay s own held locks b (WithdrawAt lock levels) is knows = (InWithdrawal lock levels, (refl, refl))
departure_stay s own held locks b (WithdrawReply lock levels) is knows = (InWithdrawal lock levels, (refl, refl))
departure_stay s own held locks b (WithdrawDone lock levels) is knows = (InWithdrawal lock levels, (refl, refl))

recovery_stay : (s : Shape) (own : WorkerWords) (held : ℕ → ℕ) (b : ℕ) (recovery : Recovery) → RecoveryKnowledge own held b recovery → (stay : Stay) × stays.StageIsInStay s b stay (Recovering recovery)
recovery_stay s own held b LoadBegun knows = (InRecover 0 0 0, tt)
recovery_stay s own held b LoadDone knows = (InRecover b 0 0, refl)
recovery_stay s own held b (LoadLock pending) knows = (InRecover b own.done 0, (refl, sym knows.2 ∙ ap (nat_lt own.done) knows.0))
recovery_stay s own held b (LoadPath pending lock levels) knows = (InRecover b own.done lock, (refl, sym knows.2 ∙ ap (nat_lt own.done) knows.0, refl))

module _ (s : Shape) (mem : Address → ℕ) (w b : ℕ) (script : Program) (post : IsPosted s (worker_words mem w) script)
    (words : IsSlate (worker_words mem w).slate_len (worker_words mem w).slate script) where
  reads : (lock turn : ℕ) → IsReading s (reading_at (lock_words s mem lock) turn script)
  reads lock turn = record { script = post.shaped; cells = cells_long s mem lock }

  section_log : (log : Log) → IsLogStage s log → LogKnowledge s (worker_words mem w) (lock_words s mem (log_lock log)) log → (stay : Stay) × stays.StageIsInStay s b stay (Logging log)
  section_log log is knows =
      let found = log_stay s (worker_words mem w) (lock_words s mem (log_lock log)) script post words log is knows in
      (InSection (log_lock log) (reading_at (lock_words s mem (log_lock log)) found.0 script), (reads (log_lock log) found.0, found.1))

  section_redo : (redo : Redo) → RedoKnowledge s (worker_words mem w) (lock_words s mem (redo_lock redo)) redo → (stay : Stay) × stays.StageIsInStay s b stay (Copying redo)
  section_redo redo knows =
      let found = redo_stay s (worker_words mem w) (lock_words s mem (redo_lock redo)) script post words redo knows in
      (InSection (redo_lock redo) (reading_at (lock_words s mem (redo_lock redo)) found.0 script), (reads (redo_lock redo) found.0, found.1))

pub rowed : RowLaw
rowed s mem privs es w p fact worker was = (on_track s (worker_words mem w) (held_levels_in s mem w) (lock_words s mem) p.begun p.stage (fact.fits w p worker was).knows, stands)
  where
    slated : is_pending (worker_words mem w) ≡ true → (script : Program) × IsPosted s (worker_words mem w) script × IsSlate (worker_words mem w).slate_len (worker_words mem w).slate script
    slated pending =
        let found = posted s (worker_words mem w) ((fact.accounts w worker).slate pending) in
        (found.0, found.1, script_slate (worker_words mem w).slate_len (worker_words mem w).slate found.0 found.1.slate)

    stay_of : (stage : Stage) → stage ≢ Resting → IsStage s p.begun stage → StageKnowledge s (worker_words mem w) (held_levels_in s mem w) (lock_words s mem) p.begun stage → (stay : Stay) × stays.StageIsInStay s p.begun stay stage
    stay_of Resting busy is knows = absurd (busy refl)
    stay_of (Recovering recovery) busy is knows = recovery_stay s (worker_words mem w) (held_levels_in s mem w) p.begun recovery knows
    stay_of (Posting slate) busy is knows = (InPost slate.job, refl)
    stay_of (Climbing ascent) busy is knows = (InEnter ascent.lock 0, (refl, omega arith))
    stay_of (Logging log) busy is knows = let found = slated knows.0.pending in section_log s mem w p.begun found.0 found.1 found.2 log is knows.1
    stay_of (Copying redo) busy is knows = let found = slated knows.0.pending in section_redo s mem w p.begun found.0 found.1 found.2 redo knows.1
    stay_of (Leaving departure) busy is knows = departure_stay s (worker_words mem w) (held_levels_in s mem w) (lock_words s mem) p.begun departure is knows

    stands : p.stage ≢ Resting → WorkerIsAtRow s p
    stands busy =
        let fits = fact.fits w p worker was in
        let found = stay_of p.stage busy fits.shaped.stage fits.knows in
        record { stay = found.0; fits = found.1; here = takes_by s p (private_action s p) fits.shaped refl found.0 found.1 }
