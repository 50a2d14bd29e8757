-- What each step implies for its worker.
use Rattle.std.proofs.Common.{◌≡◌, ◌≢◌, ◌⊎◌, ℕ, zero, suc, ◌+◌, ◌-◌, ◌*◌, ◌%◌, ◌≤◌, Bool, true, false, List, refl, sym, ap, ◌∙◌, inl, inr, arith}
use Rattle.std.specs.Prelude.{Option, Some, None, if◌then◌else◌, ◌==◌}
use Rattle.std.proofs.lemmas.Bool.{cases_Bool, cases_eq, eqb-true}
use Rattle.rme_words.specs.declared.shape.Shape.{Shape}
use Rattle.rme_tree.specs.Paths.{side}
use Rattle.rme_script.specs.Programs.{Program}
use Rattle.rme_script.specs.Slates.{script_from_words}
use Rattle.rme_program.specs.declared.kinds.Phase.{Phase}
use Rattle.rme_program.specs.declared.kinds.Phase.TheVariants as phase
use Rattle.rme_program.specs.declared.note.Note.{Note}
use Rattle.rme_program.specs.declared.stage.Stage.{Stage}
use Rattle.rme_program.specs.declared.stage.Stage.TheVariants.{Resting, Recovering, Posting, Climbing, Logging, Copying, Leaving}
use Rattle.rme_program.specs.declared.stage.Recovery.{Recovery}
use Rattle.rme_program.specs.declared.stage.Recovery.TheVariants.{LoadBegun, LoadDone, LoadLock, LoadPath}
use Rattle.rme_program.specs.declared.stage.Ascent.{Ascent}
use Rattle.rme_program.specs.declared.stage.Slate.{Slate}
use Rattle.rme_program.specs.declared.stage.Log.{Log}
use Rattle.rme_program.specs.declared.stage.Log.TheVariants.{LoadTurn, LoadLen, LoadSlate, LoadCells, StoreShadows, StoreShadowReply, StoreMask, StoreTurn}
use Rattle.rme_program.specs.declared.stage.Redo.{Redo}
use Rattle.rme_program.specs.declared.stage.Redo.TheVariants.{LoadMask, LoadShadow, StoreCell, LoadReply, StoreReply, StorePlace, StoreAt, StoreDone}
use Rattle.rme_program.specs.declared.stage.Departure.{Departure}
use Rattle.rme_program.specs.declared.stage.Departure.TheVariants.{LoadExitTurn, StoreExitTurn, Clear, WithdrawPlace, WithdrawAt, WithdrawReply, WithdrawDone}
use Rattle.rme_program.specs.declared.stage.Visit.{Visit}
use Rattle.rme_program.specs.Conditions.{IsStage, IsValidLoad}
use Rattle.rme_program.specs.Masks.{first_cell}
use Rattle.rme_program.specs.NoteLaws.{NoteMeaning, NoteMeaningLaw, phase_may_follow, PhaseOrderLaw, StepsLeftLaw, BegunLaw}
use Rattle.rme_program.specs.Phases.{phase_of, log_steps_left, redo_steps_left, departure_steps_left}
use Rattle.rme_program.specs.Progress.{phase_rank}
use Rattle.rme_program.specs.Steps.{reentry_stage, after_other_node, after_recovery, after_slate, after_ascent, cell_stage_from, shadow_stage_from, slate_stage, after_log, copy_stage_from, after_redo, clear_stage, cleared_note, after_departure, logging_section}
use Rattle.rme_program.proofs.Counts.{cells_below_less}
use Rattle.rme_program.proofs.Scripting.{no_operations}

-- ---- notes

module _ (shape : Shape) (worker begun value : ℕ) where
  abbrev Told : Stage → Stage × Note → Type 0
  Told stage out = NoteMeaning shape record { worker = worker; begun = begun; stage = stage } value out.0 out.1

  either : (stage : Stage) (b : Bool) (x y : Stage × Note) → (b ≡ true → Told stage x) → (b ≡ false → Told stage y) → Told stage (if b then x else y)
  either stage true x y t f = t refl
  either stage false x y t f = f refl

  other_told : (stage : Stage) (pending : Bool) (lock held : ℕ) → Told stage (after_other_node pending lock held)
  other_told stage true lock held = tt
  other_told stage false lock held = either stage (held == 0) _ _ (λ e. refl) (λ e. tt)

  recovery_told : (recovery : Recovery) → Told (Recovering recovery) (after_recovery shape worker begun recovery value)
  recovery_told LoadBegun = tt
  recovery_told LoadDone = either (Recovering LoadDone) (begun == 0) _ _ (λ e. refl) (λ e. tt)
  recovery_told (LoadLock pending) = tt
  recovery_told (LoadPath pending lock held) =
      either (Recovering (LoadPath pending lock held)) (value == side shape.leaves worker (held + 1)) _ _
      (λ own. either (Recovering (LoadPath pending lock held)) (held + 1 == shape.height) _ _ (λ top. (pending, held, refl, eqb-true _ _ top, refl)) (λ e. tt))
      (λ e. other_told (Recovering (LoadPath pending lock held)) pending lock held)

  slate_told : (slate : Slate) → Told (Posting slate) (after_slate begun slate)
  slate_told slate = either (Posting slate) (slate.stored == 2 + 3 * slate.job.script.n) _ _ (λ whole. (slate, refl, refl, refl, eqb-true _ _ whole)) (λ e. tt)

  ascent_told : (ascent : Ascent) → Told (Climbing ascent) (after_ascent shape ascent value)
  ascent_told ascent =
      either (Climbing ascent) (value == 0) _ _
      (λ free. either (Climbing ascent) (ascent.held + 1 == shape.height) _ _ (λ top. (ascent.held, refl, eqb-true _ _ top, refl)) (λ e. tt))
      (λ taken. (ascent, refl, (λ (e : value ≡ 0). not_zero value taken e), refl))
    where
      not_zero : (n : ℕ) → (n == 0) ≡ false → n ≡ 0 → ⊥
      not_zero n f e = let g : (0 == 0) ≡ false = rw e at f in cc

  redo_told : (redo : Redo) → Told (Copying redo) (after_redo shape worker begun redo value)
  redo_told (LoadMask visit) = tt
  redo_told (LoadShadow visit mask cell) = tt
  redo_told (StoreCell visit mask cell copied) = tt
  redo_told (LoadReply visit mask) = tt
  redo_told (StoreReply visit mask reply) = tt
  redo_told (StorePlace visit mask reply) = tt
  redo_told (StoreAt visit mask reply) = tt
  redo_told (StoreDone visit mask reply) = (visit, mask, reply, refl, refl)

  cleared_told : (lock level : ℕ) → Told (Leaving (Clear lock level)) (clear_stage lock (level - 1), cleared_note shape lock level)
  cleared_told lock level = elim (cases_Bool (level == shape.height)) [
    | inl top ↦ rw top (ap (λ (l : ℕ). Leaving (Clear lock l)) (eqb-true _ _ top))
    | inr below ↦ elim (cases_Bool (level == 1)) [
      | inl last ↦ rw (below, last) (ap (λ (l : ℕ). clear_stage lock (l - 1)) (eqb-true _ _ last))
      | inr more ↦ rw (below, more) tt
    ]
  ]

  departure_told : (departure : Departure) → Told (Leaving departure) (after_departure shape begun departure value)
  departure_told (LoadExitTurn lock) = tt
  departure_told (StoreExitTurn lock turn) = tt
  departure_told (Clear lock level) = cleared_told lock level
  departure_told (WithdrawPlace lock held) = tt
  departure_told (WithdrawAt lock held) = tt
  departure_told (WithdrawReply lock held) = tt
  departure_told (WithdrawDone lock held) = (lock, held, refl, refl)

pub note_law : NoteMeaningLaw
note_law shape worker begun Resting value = tt
note_law shape worker begun (Recovering recovery) value = recovery_told shape worker begun value recovery
note_law shape worker begun (Posting slate) value = slate_told shape worker begun value slate
note_law shape worker begun (Climbing ascent) value = ascent_told shape worker begun value ascent
note_law shape worker begun (Logging log) value = tt
note_law shape worker begun (Copying redo) value = redo_told shape worker begun value redo
note_law shape worker begun (Leaving departure) value = departure_told shape worker begun value departure

-- ---- phases

abbrev Leads : Phase → Stage → Type 0
Leads before stage = phase_may_follow before (phase_of stage) ≡ true

branch : (before : Phase) (b : Bool) (x y : Stage) → Leads before x → Leads before y → Leads before (if b then x else y)
branch before true x y t f = t
branch before false x y t f = f

-- The same for pairs of a stage and a note.
branches : (before : Phase) (b : Bool) (x y : Stage × Note) → Leads before x.0 → Leads before y.0 → Leads before (if b then x else y).0
branches before true x y t f = t
branches before false x y t f = f

shadows_lead : (visit : Visit) (named : ℕ) (row : List ℕ) (reply : ℕ) (next : Option ℕ) → Leads phase.Section (shadow_stage_from visit named row reply next)
shadows_lead visit named row reply None = refl
shadows_lead visit named row reply (Some cell) = refl

cells_lead : (shape : Shape) (lock turn : ℕ) (script : Program) (named : ℕ) (row : List ℕ) (next : Option ℕ) → Leads phase.Section (cell_stage_from shape (logging_section lock turn script named) row next)
cells_lead shape lock turn script named row None = shadows_lead _ _ _ _ (first_cell named 0 shape.cells)
cells_lead shape lock turn script named row (Some cell) = refl

slate_leads : (shape : Shape) (lock turn operations : ℕ) (words : List ℕ) (loaded : ℕ) → (loaded ≡ 3 * operations → (script : Program) × (script_from_words operations words ≡ Some script))
    → Leads phase.Section (slate_stage shape lock turn operations words loaded)
slate_leads shape lock turn operations words loaded some = elim (cases_Bool (loaded == 3 * operations)) [
  | inl all ↦ let script = some (eqb-true _ _ all) in rw (all, script.1) (cells_lead shape lock turn script.0 _ _ (first_cell _ 0 shape.cells))
  | inr part ↦ rw part refl
]

copies_lead : (visit : Visit) (mask : ℕ) (next : Option ℕ) → Leads phase.Section (copy_stage_from visit mask next)
copies_lead visit mask None = refl
copies_lead visit mask (Some cell) = refl

recovery_leads : (shape : Shape) (worker begun value : ℕ) (recovery : Recovery) → Leads phase.Recover (after_recovery shape worker begun recovery value).0
recovery_leads shape worker begun value LoadBegun = refl
recovery_leads shape worker begun value LoadDone = branches phase.Recover (begun == 0) _ _ refl refl
recovery_leads shape worker begun value (LoadLock pending) = refl
recovery_leads shape worker begun value (LoadPath pending lock held) =
    branches phase.Recover (value == side shape.leaves worker (held + 1)) _ _ (branches phase.Recover (held + 1 == shape.height) _ _ (re_enters pending) refl) (others pending)
  where
    re_enters : (b : Bool) → Leads phase.Recover (reentry_stage b lock)
    re_enters true = refl
    re_enters false = refl

    others : (b : Bool) → Leads phase.Recover (after_other_node b lock held).0
    others true = refl
    others false = branches phase.Recover (held == 0) _ _ refl refl

log_leads : (shape : Shape) (log : Log) (value : ℕ) → IsValidLoad shape (Logging log) value → Leads phase.Section (after_log shape log value)
log_leads shape (LoadTurn lock) value takes = branch phase.Section (value % 2 == 0) _ _ refl refl
log_leads shape (LoadLen lock turn) value takes = slate_leads shape lock turn value _ 0 (λ e. let none = no_operations value 16 _ e in (none.0, none.1))
log_leads shape (LoadSlate lock turn operations words loaded) value takes = slate_leads shape lock turn operations _ (loaded + 1) (λ e. let all = takes e in (all.0, all.1))
log_leads shape (LoadCells lock turn script named row cell) value takes = cells_lead shape lock turn script named _ (first_cell named (cell + 1) shape.cells)
log_leads shape (StoreShadows visit named row reply cell) value takes = shadows_lead visit named row reply (first_cell named (cell + 1) shape.cells)
log_leads shape (StoreShadowReply visit named reply) value takes = refl
log_leads shape (StoreMask visit named) value takes = refl
log_leads shape (StoreTurn visit) value takes = refl

redo_leads : (shape : Shape) (worker begun value : ℕ) (redo : Redo) → Leads phase.Section (after_redo shape worker begun redo value).0
redo_leads shape worker begun value (LoadMask visit) = copies_lead visit value (first_cell value 0 shape.cells)
redo_leads shape worker begun value (LoadShadow visit mask cell) = refl
redo_leads shape worker begun value (StoreCell visit mask cell copied) = copies_lead visit mask (first_cell mask (cell + 1) shape.cells)
redo_leads shape worker begun value (LoadReply visit mask) = refl
redo_leads shape worker begun value (StoreReply visit mask reply) = refl
redo_leads shape worker begun value (StorePlace visit mask reply) = refl
redo_leads shape worker begun value (StoreAt visit mask reply) = refl
redo_leads shape worker begun value (StoreDone visit mask reply) = refl

departure_leads : (shape : Shape) (begun value : ℕ) (departure : Departure) → Leads phase.Exit (after_departure shape begun departure value).0
departure_leads shape begun value (LoadExitTurn lock) = branch phase.Exit (value % 2 == 0) _ _ refl refl
departure_leads shape begun value (StoreExitTurn lock turn) = refl
departure_leads shape begun value (Clear lock level) = branch phase.Exit (level - 1 == 0) _ _ refl refl
departure_leads shape begun value (WithdrawPlace lock held) = refl
departure_leads shape begun value (WithdrawAt lock held) = refl
departure_leads shape begun value (WithdrawReply lock held) = refl
departure_leads shape begun value (WithdrawDone lock held) = branch phase.Exit (held == 0) _ _ refl refl

pub phase_law : PhaseOrderLaw
phase_law shape worker begun Resting value takes = refl
phase_law shape worker begun (Recovering recovery) value takes = recovery_leads shape worker begun value recovery
phase_law shape worker begun (Posting slate) value takes = branches phase.Post (slate.stored == 2 + 3 * slate.job.script.n) _ _ refl refl
phase_law shape worker begun (Climbing ascent) value takes =
    branches phase.Enter (value == 0) _ _ (branches phase.Enter (ascent.held + 1 == shape.height) _ _ refl refl) refl
phase_law shape worker begun (Logging log) value takes = log_leads shape log value takes
phase_law shape worker begun (Copying redo) value takes = redo_leads shape worker begun value redo
phase_law shape worker begun (Leaving departure) value takes = departure_leads shape begun value departure

-- ---- the steps left

log_left : (shape : Shape) (b : ℕ) (log : Log) → IsStage shape b (Logging log) → 1 ≤ log_steps_left shape log
log_left shape b (LoadTurn lock) is = omega arith
log_left shape b (LoadLen lock turn) is = omega arith
log_left shape b (LoadSlate lock turn operations words loaded) is = omega (arith, is.2)
log_left shape b (LoadCells lock turn script named row cell) is = omega (arith, cells_below_less named cell shape.cells (omega (arith, is.1)))
log_left shape b (StoreShadows visit named row reply cell) is = omega (arith, cells_below_less named cell shape.cells (omega (arith, is.1)))
log_left shape b (StoreShadowReply visit named reply) is = omega arith
log_left shape b (StoreMask visit named) is = omega arith
log_left shape b (StoreTurn visit) is = omega arith

redo_left : (shape : Shape) (b : ℕ) (redo : Redo) → IsStage shape b (Copying redo) → 1 ≤ redo_steps_left shape redo
redo_left shape b (LoadMask visit) is = omega arith
redo_left shape b (LoadShadow visit mask cell) is = omega (arith, cells_below_less mask cell shape.cells (omega (arith, is.1)))
redo_left shape b (StoreCell visit mask cell value) is = omega (arith, cells_below_less mask cell shape.cells (omega (arith, is.1)))
redo_left shape b (LoadReply visit mask) is = omega arith
redo_left shape b (StoreReply visit mask reply) is = omega arith
redo_left shape b (StorePlace visit mask reply) is = omega arith
redo_left shape b (StoreAt visit mask reply) is = omega arith
redo_left shape b (StoreDone visit mask reply) is = omega arith

departure_left : (shape : Shape) (b : ℕ) (departure : Departure) → IsStage shape b (Leaving departure) → 1 ≤ departure_steps_left shape departure
departure_left shape b (LoadExitTurn lock) is = omega arith
departure_left shape b (StoreExitTurn lock turn) is = omega arith
departure_left shape b (Clear lock level) is = is.1
departure_left shape b (WithdrawPlace lock held) is = omega arith
departure_left shape b (WithdrawAt lock held) is = omega arith
departure_left shape b (WithdrawReply lock held) is = omega arith
departure_left shape b (WithdrawDone lock held) is = omega arith

pub some_left : StepsLeftLaw
some_left shape b Resting busy is = absurd (busy refl)
some_left shape b (Recovering LoadBegun) busy is = omega arith
some_left shape b (Recovering LoadDone) busy is = omega arith
some_left shape b (Recovering (LoadLock pending)) busy is = omega arith
some_left shape b (Recovering (LoadPath pending lock held)) busy is = omega (arith, is.1)
some_left shape b (Posting slate) busy is = omega (arith, is.2)
some_left shape b (Climbing ascent) busy is = omega (arith, is.1)
some_left shape b (Logging log) busy is = log_left shape b log is
some_left shape b (Copying redo) busy is = redo_left shape b redo is
some_left shape b (Leaving departure) busy is = departure_left shape b departure is

-- ---- the known value of `begun`

pub begun_stays : BegunLaw
begun_stays begun Resting value first post = refl
begun_stays begun (Recovering LoadBegun) value first post = absurd (first refl)
begun_stays begun (Recovering LoadDone) value first post = refl
begun_stays begun (Recovering (LoadLock pending)) value first post = refl
begun_stays begun (Recovering (LoadPath pending lock held)) value first post = refl
begun_stays begun (Posting slate) value first post = absurd (post refl)
begun_stays begun (Climbing ascent) value first post = refl
begun_stays begun (Logging log) value first post = refl
begun_stays begun (Copying redo) value first post = refl
begun_stays begun (Leaving departure) value first post = refl

-- ---- phases as numbers

-- Two phases are equal or different.
pub cases_phase : (a b : Phase) → (a ≡ b) ⊎ (a ≢ b)
cases_phase a b = elim (cases_eq (phase_rank a) (phase_rank b)) [
  | inl same ↦ inl (sym (ranked_back a) ∙ ap ranked same ∙ ranked_back b)
  | inr apart ↦ inr (λ (e : a ≡ b). apart (ap phase_rank e))
]
  where
    ranked : ℕ → Phase
    ranked zero = phase.Recover
    ranked (suc zero) = phase.Post
    ranked (suc (suc zero)) = phase.Enter
    ranked (suc (suc (suc zero))) = phase.Section
    ranked (suc (suc (suc (suc zero)))) = phase.Exit
    ranked (suc (suc (suc (suc (suc n))))) = phase.Ready

    ranked_back : (p : Phase) → ranked (phase_rank p) ≡ p
    ranked_back phase.Recover = refl
    ranked_back phase.Post = refl
    ranked_back phase.Enter = refl
    ranked_back phase.Section = refl
    ranked_back phase.Exit = refl
    ranked_back phase.Ready = refl
