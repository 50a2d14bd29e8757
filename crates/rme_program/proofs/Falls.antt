-- Each step makes progress: its worker stays on track, the steps left decrease or a later phase begins, and it is
-- counted.
use Rattle.std.proofs.Common.{◌≡◌, ◌≢◌, ℕ, ◌+◌, ◌-◌, ◌*◌, ◌%◌, ◌<◌, ◌≤◌, ◌==◌, Bool, true, false, nat_lt, List, replicate, refl, sym, ap, subst, ◌∙◌, inl, inr, arith}
use Rattle.std.specs.Prelude.{Option, Some, None, slice_set, if◌then◌else◌}
use Rattle.std.proofs.lemmas.Bool.{cases_Bool, cases_eq, eq-eqb, ne_eqb}
use Rattle.std.proofs.lemmas.Option.{none-some, same_Some}
use Rattle.rme_words.specs.declared.shape.Shape.{Shape}
use Rattle.rme_tree.specs.Paths.{side}
use Rattle.rme_script.specs.declared.op.Op.{Op}
use Rattle.rme_script.specs.Programs.{Program}
use Rattle.rme_script.specs.Cells.{mask_has_cell}
use Rattle.rme_script.specs.Eval.{eval_of}
use Rattle.rme_script.specs.Scripts.{IsScript}
use Rattle.rme_script.specs.Slates.{script_from_words, script_if_read, ops_from_words}
use Rattle.rme_script.proofs.Rising.{cells_named_most}
use Rattle.rme_program.specs.declared.note.Note.{Note}
use Rattle.rme_program.specs.declared.note.Note.TheVariants.{Quiet, Asked, Blocked, Entered, Reentered, Ready, Withdrew}
use Rattle.rme_program.specs.declared.private.Private.{Private}
use Rattle.rme_program.specs.declared.kinds.Phase.TheVariants.{Section}
use Rattle.rme_program.specs.declared.stage.Stage.{Stage}
use Rattle.rme_program.specs.declared.stage.Stage.TheVariants.{Resting, Recovering, Posting, Climbing, Logging, Copying, Leaving}
use Rattle.rme_program.specs.declared.stage.Recovery.{Recovery}
use Rattle.rme_program.specs.declared.stage.Recovery.TheVariants.{LoadBegun, LoadDone, LoadLock, LoadPath}
use Rattle.rme_program.specs.declared.stage.Slate.{Slate}
use Rattle.rme_program.specs.declared.stage.Ascent.{Ascent}
use Rattle.rme_program.specs.declared.stage.Log.{Log}
use Rattle.rme_program.specs.declared.stage.Log.TheVariants.{LoadTurn, LoadLen, LoadSlate, LoadCells, StoreShadows, StoreShadowReply, StoreMask, StoreTurn}
use Rattle.rme_program.specs.declared.stage.Redo.{Redo}
use Rattle.rme_program.specs.declared.stage.Redo.TheVariants.{LoadMask, LoadShadow, StoreCell, LoadReply, StoreReply, StorePlace, StoreAt, StoreDone}
use Rattle.rme_program.specs.declared.stage.Departure.{Departure}
use Rattle.rme_program.specs.declared.stage.Departure.TheVariants.{LoadExitTurn, StoreExitTurn, Clear, WithdrawPlace, WithdrawAt, WithdrawReply, WithdrawDone}
use Rattle.rme_program.specs.declared.stage.Visit.{Visit}
use Rattle.rme_program.specs.declared.stage.Parity.{Parity}
use Rattle.rme_program.specs.declared.stage.Parity.TheVariants.{Even, Odd}
use Rattle.rme_program.specs.Conditions.{IsRecoveryStage, IsLogStage, IsRedoStage, IsDepartureStage, IsStage, IsPrivate, IsValidLoad}
use Rattle.rme_program.specs.Masks.{mask_of, first_cell}
use Rattle.rme_program.specs.Phases.{phase_of, steps_left, log_steps_left, redo_steps_left, departure_steps_left, mask_cells_below}
use Rattle.rme_program.specs.Steps.{outcome_at, after_recovery, after_other_node, reentry_stage, after_slate, after_ascent, after_departure, clear_stage, cleared_note, exit_stage, after_log, after_redo, shadow_stage_from, run_stage, cell_stage_from, script_stage, slate_stage, turn_stage, copy_stage_from, logging_section}
use Rattle.rme_program.specs.StepsMade.{steps_made_in_recovery, steps_made_in_log, steps_made_in_redo, steps_before_redo, load_and_shadow_steps, load_steps}
use Rattle.rme_program.specs.Progress.{phase_rank, IsEvenWithMask, IsEvenParity, IsLogOnTrack, IsRedoOnTrack, IsOnTrack, StageProgress, IsSectionStart, StepsTaken, ExitStepsTaken, StepIsCounted}
use Rattle.rme_program.proofs.Counts.{cells_below_less}
use Rattle.rme_program.proofs.Scripting.{no_operations}
use Rattle.rme_program.proofs.Firsts.{FirstCell, first_some, first_none, below_more, below_zero}

-- What a step preserves and what it makes progress in.
pub record Steps (shape : Shape) (old : Stage) (out : Stage × Note) : Type 0 where
  pub track : IsOnTrack out.0
  pub falls : out.1 ≢ Blocked → StageProgress shape old out.0
  pub counts : StepIsCounted shape old out.0 out.1

-- A step to a later phase, and one that stays in its phase.
leads : (shape : Shape) (old new : Stage) (note : Note) → IsOnTrack new → phase_rank (phase_of old) < phase_rank (phase_of new) → phase_of new ≢ phase_of old → StepsTaken shape new new 0 → Steps shape old (new, note)
leads shape old new note track later differs begins =
    record { track = track; falls = λ open_way. inr later; counts = record { more = λ first count taken same open_way. absurd (differs same); begins = λ differ. begins } }

goes : (shape : Shape) (old new : Stage) (note : Note) → IsOnTrack new → phase_of new ≡ phase_of old → steps_left shape new < steps_left shape old
    → ((first : Stage) (count : ℕ) → StepsTaken shape first old count → StepsTaken shape first new (count + 1)) → Steps shape old (new, note)
goes shape old new note track same less more =
    record { track = track; falls = λ open_way. inl (same, less); counts = record { more = λ first count taken again open_way. more first count taken; begins = λ differ. absurd (differ same) } }

either : {shape : Shape} {old : Stage} (b : Bool) (x y : Stage × Note) → (b ≡ true → Steps shape old x) → (b ≡ false → Steps shape old y) → Steps shape old (if b then x else y)
either true x y hit miss = hit refl
either false x y hit miss = miss refl

-- ---- RECOVER

more_in_recover : (shape : Shape) (old new : Recovery) → steps_made_in_recovery new ≡ steps_made_in_recovery old + 1 → (first : Stage) (count : ℕ) → StepsTaken shape first (Recovering old) count → StepsTaken shape first (Recovering new) (count + 1)
more_in_recover shape old new e (Recovering first) count taken = (taken.0, omega (arith, e, taken.1))
more_in_recover shape old new e _ count taken = absurd taken

entered_again : (shape : Shape) (pending : Bool) (lock : ℕ) (recovery : Recovery) (note : Note) → Steps shape (Recovering recovery) (reentry_stage pending lock, note)
entered_again shape true lock recovery note = leads shape (Recovering recovery) (Logging (LoadTurn lock)) note tt (omega arith) (λ e. cc) (tt, refl)
entered_again shape false lock recovery note = leads shape (Recovering recovery) (Leaving (LoadExitTurn lock)) note tt (omega arith) (λ e. cc) refl

other_steps : (shape : Shape) (pending : Bool) (lock held : ℕ) (recovery : Recovery) → Steps shape (Recovering recovery) (after_other_node pending lock held)
other_steps shape true lock held recovery = leads shape (Recovering recovery) (Climbing record { lock = lock; held = held }) Quiet tt (omega arith) (λ e. cc) (omega arith)
other_steps shape false lock held recovery = either (held == 0) _ _
    (λ _. leads shape (Recovering recovery) Resting Ready tt (omega arith) (λ e. cc) refl)
    (λ _. leads shape (Recovering recovery) (Leaving (Clear lock held)) Quiet tt (omega arith) (λ e. cc) (omega arith))

recovery_steps : (shape : Shape) (worker known value : ℕ) (recovery : Recovery) → IsRecoveryStage shape recovery → Steps shape (Recovering recovery) (after_recovery shape worker known recovery value)
recovery_steps shape worker known value LoadBegun is =
    goes shape (Recovering LoadBegun) (Recovering LoadDone) Quiet tt refl (omega arith) (more_in_recover shape LoadBegun LoadDone refl)
recovery_steps shape worker known value LoadDone is = either (known == 0) _ _
    (λ _. leads shape (Recovering LoadDone) Resting Ready tt (omega arith) (λ e. cc) refl)
    (λ _. goes shape (Recovering LoadDone) (Recovering (LoadLock (nat_lt value known))) Quiet tt refl (omega arith) (more_in_recover shape LoadDone (LoadLock (nat_lt value known)) refl))
recovery_steps shape worker known value (LoadLock pending) is =
    goes shape (Recovering (LoadLock pending)) (Recovering (LoadPath pending value 0)) Quiet tt refl (omega (arith, shape.counted.tree.some_level)) (more_in_recover shape (LoadLock pending) (LoadPath pending value 0) refl)
recovery_steps shape worker known value (LoadPath pending lock held) is = either (value == side shape.leaves worker (held + 1)) _ _
    (λ _. either ((held + 1) == shape.height) _ _
    (λ _. entered_again shape pending lock (LoadPath pending lock held) (Reentered lock))
    (λ _. goes shape (Recovering (LoadPath pending lock held)) (Recovering (LoadPath pending lock (held + 1))) Quiet tt refl (omega (arith, is.1))
    (more_in_recover shape (LoadPath pending lock held) (LoadPath pending lock (held + 1)) (omega arith))))
    (λ _. other_steps shape pending lock held (LoadPath pending lock held))

-- ---- POST, ENTER

more_in_post : (shape : Shape) (slate : Slate) (first : Stage) (count : ℕ) → StepsTaken shape first (Posting slate) count → StepsTaken shape first (Posting record { job = slate.job; stored = slate.stored + 1 }) (count + 1)
more_in_post shape slate (Posting first) count taken = (taken.0, taken.1, ap (λ (n : ℕ). n + 1) taken.2)
more_in_post shape slate _ count taken = absurd taken

slate_steps : (shape : Shape) (known : ℕ) (slate : Slate) → slate.stored ≤ 2 + 3 * slate.job.script.n → Steps shape (Posting slate) (after_slate known slate)
slate_steps shape known slate most = either (slate.stored == 2 + 3 * slate.job.script.n) _ _
    (λ _. leads shape (Posting slate) (Climbing record { lock = slate.job.lock; held = 0 }) (Asked (known + 1)) tt (omega arith) (λ e. cc) (omega arith))
    (λ _. goes shape (Posting slate) (Posting record { job = slate.job; stored = slate.stored + 1 }) Quiet tt refl (omega (arith, most)) (more_in_post shape slate))

more_in_enter : (shape : Shape) (ascent : Ascent) (first : Stage) (count : ℕ) → StepsTaken shape first (Climbing ascent) count → StepsTaken shape first (Climbing record { lock = ascent.lock; held = ascent.held + 1 }) (count + 1)
more_in_enter shape ascent (Climbing first) count taken = omega (arith, taken)
more_in_enter shape ascent _ count taken = absurd taken

ascent_steps : (shape : Shape) (ascent : Ascent) (value : ℕ) → ascent.held < shape.height → Steps shape (Climbing ascent) (after_ascent shape ascent value)
ascent_steps shape ascent value is = either (value == 0) _ _
    (λ _. either ((ascent.held + 1) == shape.height) _ _
    (λ _. leads shape (Climbing ascent) (Logging (LoadTurn ascent.lock)) (Entered ascent.lock) tt (omega arith) (λ e. cc) (tt, refl))
    (λ _. goes shape (Climbing ascent) (Climbing record { lock = ascent.lock; held = ascent.held + 1 }) Quiet tt refl (omega (arith, is)) (more_in_enter shape ascent)))
    (λ _. record { track = tt; falls = λ open_way. absurd (open_way refl); counts = record { more = λ first count taken same open_way. absurd (open_way refl); begins = λ differ. absurd (differ refl) } })

-- ---- EXIT

abbrev MoreInExit : Shape → Departure → Departure → Type 0
MoreInExit shape old new = (first : Departure) (count : ℕ) → ExitStepsTaken shape first old count → ExitStepsTaken shape first new (count + 1)

more_in_exit : (shape : Shape) (old new : Departure) → MoreInExit shape old new → (first : Stage) (count : ℕ) → StepsTaken shape first (Leaving old) count → StepsTaken shape first (Leaving new) (count + 1)
more_in_exit shape old new more (Leaving first) count taken = more first count taken
more_in_exit shape old new more _ count taken = absurd taken

settled : (shape : Shape) (lock turn : ℕ) → MoreInExit shape (LoadExitTurn lock) (StoreExitTurn lock turn)
settled shape lock turn (LoadExitTurn from) count taken = omega (arith, taken)
settled shape lock turn _ count taken = absurd taken

even_cleared : (shape : Shape) (lock : ℕ) → MoreInExit shape (LoadExitTurn lock) (Clear lock shape.height)
even_cleared shape lock (LoadExitTurn from) count taken = inl (omega (arith, taken))
even_cleared shape lock _ count taken = absurd taken

odd_cleared : (shape : Shape) (lock turn : ℕ) → MoreInExit shape (StoreExitTurn lock turn) (Clear lock shape.height)
odd_cleared shape lock turn (LoadExitTurn from) count taken = inr (omega (arith, taken))
odd_cleared shape lock turn _ count taken = absurd taken

next_cleared : (shape : Shape) (lock level : ℕ) → 1 ≤ level → MoreInExit shape (Clear lock level) (Clear lock (level - 1))
next_cleared shape lock level some (LoadExitTurn from) count taken = elim taken [ inl e ↦ inl (omega (arith, e, some)) | inr e ↦ inr (omega (arith, e, some)) ]
next_cleared shape lock level some (Clear from levels) count taken = omega (arith, taken, some)
next_cleared shape lock level some (WithdrawPlace from levels) count taken = omega (arith, taken, some)
next_cleared shape lock level some _ count taken = absurd taken

placed : (shape : Shape) (lock held : ℕ) → MoreInExit shape (WithdrawPlace lock held) (WithdrawAt lock held)
placed shape lock held (WithdrawPlace from levels) count taken = (taken.0, omega (arith, taken.1))
placed shape lock held _ count taken = absurd taken

named_lock : (shape : Shape) (lock held : ℕ) → MoreInExit shape (WithdrawAt lock held) (WithdrawReply lock held)
named_lock shape lock held (WithdrawPlace from levels) count taken = (taken.0, omega (arith, taken.1))
named_lock shape lock held _ count taken = absurd taken

replied : (shape : Shape) (lock held : ℕ) → MoreInExit shape (WithdrawReply lock held) (WithdrawDone lock held)
replied shape lock held (WithdrawPlace from levels) count taken = (taken.0, omega (arith, taken.1))
replied shape lock held _ count taken = absurd taken

given_up : (shape : Shape) (lock held : ℕ) → MoreInExit shape (WithdrawDone lock held) (Clear lock held)
given_up shape lock held (WithdrawPlace from levels) count taken = omega (arith, taken.0, taken.1)
given_up shape lock held _ count taken = absurd taken

clear_steps : (shape : Shape) (old : Departure) (lock level : ℕ) (note : Note) → level < departure_steps_left shape old → MoreInExit shape old (Clear lock level) → Steps shape (Leaving old) (clear_stage lock level, note)
clear_steps shape old lock level note less more = elim (cases_eq level 0) [
  | inl q ↦ rw (eq-eqb level 0 q) (leads shape (Leaving old) Resting note tt (omega arith) (λ e. cc) refl)
  | inr n ↦ rw (ne_eqb level 0 n) (goes shape (Leaving old) (Leaving (Clear lock level)) note tt refl less (more_in_exit shape old (Clear lock level) more))
]

exit_steps : (shape : Shape) (lock turn : ℕ) → Steps shape (Leaving (LoadExitTurn lock)) (exit_stage shape lock turn, Quiet)
exit_steps shape lock turn = elim (cases_eq (turn % 2) 0) [
  | inl q ↦ rw (eq-eqb (turn % 2) 0 q) (goes shape (Leaving (LoadExitTurn lock)) (Leaving (Clear lock shape.height)) Quiet tt refl (omega arith) (more_in_exit shape (LoadExitTurn lock) (Clear lock shape.height) (even_cleared shape lock)))
  | inr n ↦ rw (ne_eqb (turn % 2) 0 n) (goes shape (Leaving (LoadExitTurn lock)) (Leaving (StoreExitTurn lock turn)) Quiet tt refl (omega arith) (more_in_exit shape (LoadExitTurn lock) (StoreExitTurn lock turn) (settled shape lock turn)))
]

departure_steps : (shape : Shape) (known value : ℕ) (departure : Departure) → IsDepartureStage shape departure → Steps shape (Leaving departure) (after_departure shape known departure value)
departure_steps shape known value (LoadExitTurn lock) is = exit_steps shape lock value
departure_steps shape known value (StoreExitTurn lock turn) is =
    goes shape (Leaving (StoreExitTurn lock turn)) (Leaving (Clear lock shape.height)) Quiet tt refl (omega arith) (more_in_exit shape (StoreExitTurn lock turn) (Clear lock shape.height) (odd_cleared shape lock turn))
departure_steps shape known value (Clear lock level) is = clear_steps shape (Clear lock level) lock (level - 1) (cleared_note shape lock level) (omega (arith, is.1)) (next_cleared shape lock level is.1)
departure_steps shape known value (WithdrawPlace lock held) is =
    goes shape (Leaving (WithdrawPlace lock held)) (Leaving (WithdrawAt lock held)) Quiet tt refl (omega arith) (more_in_exit shape (WithdrawPlace lock held) (WithdrawAt lock held) (placed shape lock held))
departure_steps shape known value (WithdrawAt lock held) is =
    goes shape (Leaving (WithdrawAt lock held)) (Leaving (WithdrawReply lock held)) Quiet tt refl (omega arith) (more_in_exit shape (WithdrawAt lock held) (WithdrawReply lock held) (named_lock shape lock held))
departure_steps shape known value (WithdrawReply lock held) is =
    goes shape (Leaving (WithdrawReply lock held)) (Leaving (WithdrawDone lock held)) Quiet tt refl (omega arith) (more_in_exit shape (WithdrawReply lock held) (WithdrawDone lock held) (replied shape lock held))
departure_steps shape known value (WithdrawDone lock held) is = clear_steps shape (WithdrawDone lock held) lock held (Withdrew known) (omega arith) (given_up shape lock held)

-- ---- SECTION

-- A stage of a section at a place, with at most `left` steps left.
record Moves (shape : Shape) (new : Stage) (place left : ℕ) : Type 0 where
  track : IsOnTrack new
  phase : phase_of new ≡ Section
  taken : (first : Log) → IsSectionStart first → StepsTaken shape (Logging first) new place
  less : steps_left shape new ≤ left

even_with : (parity : Parity) (named : ℕ) → IsEvenWithMask parity named → (operations : ℕ) × (parity ≡ Even operations named)
even_with (Even operations cells) named e = (operations, ap (λ (c : ℕ). Even operations c) e)
even_with Odd named e = absurd e

start_even : (shape : Shape) (parity : Parity) → IsEvenParity parity → steps_before_redo shape parity ≡ load_and_shadow_steps shape parity + 3
start_even shape (Even operations cells) even = refl
start_even shape Odd even = absurd even

shadows_move : (shape : Shape) (visit : Visit) (named : ℕ) (row : List ℕ) (reply from : ℕ) (found : Option ℕ) → IsEvenWithMask visit.parity named → from ≤ shape.cells → first_cell named from shape.cells ≡ found
    → Moves shape (shadow_stage_from visit named row reply found) (load_steps shape visit.parity + mask_cells_below named from) (9 + 2 * shape.cells + mask_cells_below named shape.cells - mask_cells_below named from)
shadows_move shape visit named row reply from (Some cell) even le e =
    let first : FirstCell named from shape.cells cell = first_some named from shape.cells cell le e in
    record { track = (even, first.set); phase = refl; taken = λ from_here begins. (begins, omega (arith, first.same)); less = omega (arith, first.same, cells_below_less named cell shape.cells (omega (arith, first.below))) }
shadows_move shape visit named row reply from None even le e =
    let parity : (operations : ℕ) × (visit.parity ≡ Even operations named) = even_with visit.parity named even in
    record { track = even; phase = refl; taken = λ from_here begins. (begins, rw parity.1 (omega (arith, first_none named from shape.cells le e))); less = omega (arith, first_none named from shape.cells le e) }

run_move : (shape : Shape) (lock turn : ℕ) (script : Program) (named : ℕ) (row : List ℕ)
    → Moves shape (run_stage shape (logging_section lock turn script named) row) (2 + 3 * script.n + mask_cells_below named shape.cells) (9 + 2 * shape.cells + mask_cells_below named shape.cells)
run_move shape lock turn script named row =
    let shadows : Moves shape (run_stage shape (logging_section lock turn script named) row) (2 + 3 * script.n + mask_cells_below named shape.cells + mask_cells_below named 0) (9 + 2 * shape.cells + mask_cells_below named shape.cells - mask_cells_below named 0)
    = shadows_move shape record { lock = lock; turn = turn; parity = Even script.n named } named (eval_of script.ops row).row (eval_of script.ops row).reply 0 (first_cell named 0 shape.cells) refl (omega arith) refl in
    let none : 2 + 3 * script.n + mask_cells_below named shape.cells + mask_cells_below named 0 ≡ 2 + 3 * script.n + mask_cells_below named shape.cells = omega (arith, below_zero named) in
    record {
      track = shadows.track;
      phase = shadows.phase;
      taken = λ from_here begins. subst (λ (place : ℕ). StepsTaken shape (Logging from_here) (run_stage shape (logging_section lock turn script named) row) place) none (shadows.taken from_here begins);
      less = omega (arith, shadows.less);
    }

cells_move : (shape : Shape) (lock turn : ℕ) (script : Program) (row : List ℕ) (from : ℕ) (found : Option ℕ) → from ≤ shape.cells → first_cell (mask_of script.ops) from shape.cells ≡ found
    → Moves shape (cell_stage_from shape (logging_section lock turn script (mask_of script.ops)) row found) (2 + 3 * script.n + mask_cells_below (mask_of script.ops) from)
    (9 + 2 * shape.cells + 2 * mask_cells_below (mask_of script.ops) shape.cells - mask_cells_below (mask_of script.ops) from)
cells_move shape lock turn script row from (Some cell) le e =
    let first : FirstCell (mask_of script.ops) from shape.cells cell = first_some (mask_of script.ops) from shape.cells cell le e in
    record { track = (refl, first.set); phase = refl; taken = λ from_here begins. (begins, omega (arith, first.same)); less = omega (arith, first.same, cells_below_less (mask_of script.ops) cell shape.cells (omega (arith, first.below))) }
cells_move shape lock turn script row from None le e =
    let run : Moves shape (run_stage shape (logging_section lock turn script (mask_of script.ops)) row) (2 + 3 * script.n + mask_cells_below (mask_of script.ops) shape.cells) (9 + 2 * shape.cells + mask_cells_below (mask_of script.ops) shape.cells) = run_move shape lock turn script (mask_of script.ops) row in
    let all : mask_cells_below (mask_of script.ops) shape.cells ≡ mask_cells_below (mask_of script.ops) from = first_none (mask_of script.ops) from shape.cells le e in
    record {
      track = run.track;
      phase = run.phase;
      taken = λ from_here begins. subst (λ (n : ℕ). StepsTaken shape (Logging from_here) (run_stage shape (logging_section lock turn script (mask_of script.ops)) row) (2 + 3 * script.n + n)) all (run.taken from_here begins);
      less = omega (arith, run.less, all);
    }

counted_by : (operations : ℕ) (ops : Option (List Op)) (script : Program) → script_if_read operations ops ≡ Some script → script.n ≡ operations
counted_by operations None script e = absurd (none-some script e)
counted_by operations (Some ops) script e = ap (λ (p : Program). p.n) (sym (same_Some record { n = operations; ops = ops } script e))

counted : (operations : ℕ) (words : List ℕ) (script : Program) → script_from_words operations words ≡ Some script → script.n ≡ operations
counted operations words script e = elim (cases_Bool (nat_lt 8 operations)) [
  | inl t ↦ let none : None ≡ Some script = rw t at e in absurd (none-some script none)
  | inr f ↦ let by : script_if_read operations (ops_from_words operations words) ≡ Some script = rw f at e in counted_by operations (ops_from_words operations words) script by
]

script_move : (shape : Shape) (lock turn operations : ℕ) (words : List ℕ) (script : Program) → script_from_words operations words ≡ Some script
    → Moves shape (script_stage shape lock turn (script_from_words operations words)) (2 + 3 * operations) (9 + 4 * shape.cells)
script_move shape lock turn operations words script e =
    let same : script.n ≡ operations = counted operations words script e in
    let cells : Moves shape (script_stage shape lock turn (Some script)) (2 + 3 * script.n + mask_cells_below (mask_of script.ops) 0) (9 + 2 * shape.cells + 2 * mask_cells_below (mask_of script.ops) shape.cells - mask_cells_below (mask_of script.ops) 0)
    = cells_move shape lock turn script (replicate shape.cells 0) 0 (first_cell (mask_of script.ops) 0 shape.cells) (omega arith) refl in
    let none : 2 + 3 * script.n + mask_cells_below (mask_of script.ops) 0 ≡ 2 + 3 * operations = omega (arith, same, below_zero (mask_of script.ops)) in
    rw e record {
      track = cells.track;
      phase = cells.phase;
      taken = λ from_here begins. subst (λ (place : ℕ). StepsTaken shape (Logging from_here) (script_stage shape lock turn (Some script)) place) none (cells.taken from_here begins);
      less = omega (arith, cells.less, cells_named_most (mask_of script.ops) shape.cells);
    }

slate_move : (shape : Shape) (lock turn operations : ℕ) (words : List ℕ) (loaded : ℕ)
    → (loaded ≡ 3 * operations → (script : Program) × (script_from_words operations words ≡ Some script) × IsScript shape.cells script)
    → Moves shape (slate_stage shape lock turn operations words loaded) (2 + loaded) (9 + 3 * operations + 4 * shape.cells - loaded)
slate_move shape lock turn operations words loaded whole = elim (cases_eq loaded (3 * operations)) [
  | inl q ↦
      let found : (script : Program) × (script_from_words operations words ≡ Some script) × IsScript shape.cells script = whole q in
      let script : Moves shape (script_stage shape lock turn (script_from_words operations words)) (2 + 3 * operations) (9 + 4 * shape.cells) = script_move shape lock turn operations words found.0 found.1 in
      rw (eq-eqb loaded (3 * operations) q) record {
        track = script.track;
        phase = script.phase;
        taken = λ from_here begins. subst (λ (n : ℕ). StepsTaken shape (Logging from_here) (script_stage shape lock turn (script_from_words operations words)) (2 + n)) (sym q) (script.taken from_here begins);
        less = omega (arith, script.less, q);
      }
  | inr n ↦ rw (ne_eqb loaded (3 * operations) n) record { track = tt; phase = refl; taken = λ from_here begins. (begins, refl); less = omega arith }
]

turn_move : (shape : Shape) (lock turn : ℕ) → Moves shape (turn_stage lock turn) 1 (34 + 4 * shape.cells)
turn_move shape lock turn = elim (cases_eq (turn % 2) 0) [
  | inl q ↦ rw (eq-eqb (turn % 2) 0 q) record { track = tt; phase = refl; taken = λ from_here begins. (begins, refl); less = omega arith }
  | inr n ↦ rw (ne_eqb (turn % 2) 0 n) record { track = tt; phase = refl; taken = λ from_here begins. (begins, refl); less = omega arith }
]

more_in_log : (shape : Shape) (log : Log) (new : Stage) (place : ℕ) → place ≡ steps_made_in_log shape log + 1 → ((first : Log) → IsSectionStart first → StepsTaken shape (Logging first) new place)
    → (first : Stage) (count : ℕ) → StepsTaken shape first (Logging log) count → StepsTaken shape first new (count + 1)
more_in_log shape log new place e more (Logging from_here) count taken =
    let next : place ≡ count + 1 = omega (arith, e, taken.1) in subst (λ (n : ℕ). StepsTaken shape (Logging from_here) new n) next (more from_here taken.0)
more_in_log shape log new place e more _ count taken = absurd taken

log_goes : (shape : Shape) (log : Log) (new : Stage) (place left : ℕ) → place ≡ steps_made_in_log shape log + 1 → left < log_steps_left shape log → Moves shape new place left → Steps shape (Logging log) (new, Quiet)
log_goes shape log new place left e l moves =
    goes shape (Logging log) new Quiet moves.track moves.phase (omega (arith, moves.less, l)) (more_in_log shape log new place e moves.taken)

log_steps : (shape : Shape) (log : Log) (value : ℕ) → IsLogStage shape log → IsValidLoad shape (Logging log) value → IsLogOnTrack log → Steps shape (Logging log) (after_log shape log value, Quiet)
log_steps shape (LoadTurn lock) value is taken on = log_goes shape (LoadTurn lock) (turn_stage lock value) 1 (34 + 4 * shape.cells) refl (omega arith) (turn_move shape lock value)
log_steps shape (LoadLen lock turn) value is taken on =
    log_goes shape (LoadLen lock turn) (slate_stage shape lock turn value (replicate 24 0) 0) 2 (9 + 3 * value + 4 * shape.cells - 0) refl (omega (arith, taken))
    (slate_move shape lock turn value (replicate 24 0) 0 (no_operations value shape.cells (replicate 24 0)))
log_steps shape (LoadSlate lock turn operations words loaded) value is taken on =
    log_goes shape (LoadSlate lock turn operations words loaded) (slate_stage shape lock turn operations (slice_set words loaded value) (loaded + 1)) (2 + (loaded + 1)) (9 + 3 * operations + 4 * shape.cells - (loaded + 1))
    (omega arith) (omega (arith, is.2)) (slate_move shape lock turn operations (slice_set words loaded value) (loaded + 1) taken)
log_steps shape (LoadCells lock turn script named row cell) value is taken on =
    let set : mask_has_cell (mask_of script.ops) cell ≡ true = ap (λ (m : ℕ). mask_has_cell m cell) (sym on.0) ∙ on.1 in
    let count : mask_cells_below (mask_of script.ops) (cell + 1) ≡ mask_cells_below (mask_of script.ops) cell + 1 = below_more (mask_of script.ops) cell set in
    let within : mask_cells_below (mask_of script.ops) (cell + 1) ≤ mask_cells_below (mask_of script.ops) shape.cells = cells_below_less (mask_of script.ops) (cell + 1) shape.cells (omega (arith, is.1)) in
    rw on.0 (log_goes shape (LoadCells lock turn script (mask_of script.ops) row cell) (cell_stage_from shape (logging_section lock turn script (mask_of script.ops)) (slice_set row cell value) (first_cell (mask_of script.ops) (cell + 1) shape.cells))
    (2 + 3 * script.n + mask_cells_below (mask_of script.ops) (cell + 1)) (9 + 2 * shape.cells + 2 * mask_cells_below (mask_of script.ops) shape.cells - mask_cells_below (mask_of script.ops) (cell + 1))
    (omega (arith, count)) (omega (arith, count, within))
    (cells_move shape lock turn script (slice_set row cell value) (cell + 1) (first_cell (mask_of script.ops) (cell + 1) shape.cells) (omega (arith, is.1)) refl))
log_steps shape (StoreShadows visit named row reply cell) value is taken on =
    let count : mask_cells_below named (cell + 1) ≡ mask_cells_below named cell + 1 = below_more named cell on.1 in
    let within : mask_cells_below named (cell + 1) ≤ mask_cells_below named shape.cells = cells_below_less named (cell + 1) shape.cells (omega (arith, is.1)) in
    log_goes shape (StoreShadows visit named row reply cell) (shadow_stage_from visit named row reply (first_cell named (cell + 1) shape.cells))
    (load_steps shape visit.parity + mask_cells_below named (cell + 1)) (9 + 2 * shape.cells + mask_cells_below named shape.cells - mask_cells_below named (cell + 1))
    (omega (arith, count)) (omega (arith, count, within))
    (shadows_move shape visit named row reply (cell + 1) (first_cell named (cell + 1) shape.cells) on.0 (omega (arith, is.1)) refl)
log_steps shape (StoreShadowReply visit named reply) value is taken on =
    log_goes shape (StoreShadowReply visit named reply) (Logging (StoreMask visit named)) (load_and_shadow_steps shape visit.parity + 1) (8 + 2 * shape.cells) refl (omega arith)
    record { track = on; phase = refl; taken = λ from_here begins. (begins, refl); less = omega arith }
log_steps shape (StoreMask visit named) value is taken on =
    let parity : (operations : ℕ) × (visit.parity ≡ Even operations named) = even_with visit.parity named on in
    log_goes shape (StoreMask visit named) (Logging (StoreTurn visit)) (load_and_shadow_steps shape visit.parity + 2) (7 + 2 * shape.cells) (omega arith) (omega arith)
    record { track = rw parity.1 tt; phase = refl; taken = λ from_here begins. (begins, refl); less = omega arith }
log_steps shape (StoreTurn visit) value is taken on =
    let start : steps_before_redo shape visit.parity ≡ load_and_shadow_steps shape visit.parity + 3 = start_even shape visit.parity on in
    log_goes shape (StoreTurn visit) (Copying (LoadMask visit)) (steps_before_redo shape visit.parity) (6 + 2 * shape.cells) (omega (arith, start)) (omega arith)
    record { track = tt; phase = refl; taken = λ from_here begins. (begins, refl); less = omega arith }

-- ---- SECTION, from the load of the mask on

copies_move : (shape : Shape) (visit : Visit) (mask from : ℕ) (found : Option ℕ) → from ≤ shape.cells → first_cell mask from shape.cells ≡ found
    → Moves shape (copy_stage_from visit mask found) (steps_before_redo shape visit.parity + (1 + 2 * mask_cells_below mask from)) (5 + 2 * mask_cells_below mask shape.cells - 2 * mask_cells_below mask from)
copies_move shape visit mask from (Some cell) le e =
    let first : FirstCell mask from shape.cells cell = first_some mask from shape.cells cell le e in
    record { track = first.set; phase = refl; taken = λ from_here begins. (begins, omega (arith, first.same)); less = omega (arith, first.same, cells_below_less mask cell shape.cells (omega (arith, first.below))) }
copies_move shape visit mask from None le e =
    let all : mask_cells_below mask shape.cells ≡ mask_cells_below mask from = first_none mask from shape.cells le e in
    record { track = tt; phase = refl; taken = λ from_here begins. (begins, omega (arith, all)); less = omega (arith, all) }

more_in_redo : (shape : Shape) (redo : Redo) (new : Stage) (place : ℕ) → place ≡ steps_made_in_redo shape redo + 1 → ((first : Log) → IsSectionStart first → StepsTaken shape (Logging first) new place)
    → (first : Stage) (count : ℕ) → StepsTaken shape first (Copying redo) count → StepsTaken shape first new (count + 1)
more_in_redo shape redo new place e more (Logging from_here) count taken =
    let next : place ≡ count + 1 = omega (arith, e, taken.1) in subst (λ (n : ℕ). StepsTaken shape (Logging from_here) new n) next (more from_here taken.0)
more_in_redo shape redo new place e more _ count taken = absurd taken

redo_goes : (shape : Shape) (redo : Redo) (new : Stage) (place left : ℕ) → place ≡ steps_made_in_redo shape redo + 1 → left < redo_steps_left shape redo → Moves shape new place left → Steps shape (Copying redo) (new, Quiet)
redo_goes shape redo new place left e l moves =
    goes shape (Copying redo) new Quiet moves.track moves.phase (omega (arith, moves.less, l)) (more_in_redo shape redo new place e moves.taken)

-- The place of the next stage, and the steps left there.
here : (shape : Shape) (redo : Redo) → IsRedoOnTrack redo → Moves shape (Copying redo) (steps_made_in_redo shape redo) (redo_steps_left shape redo)
here shape redo on = record { track = on; phase = refl; taken = λ from_here begins. (begins, refl); less = omega arith }

redo_steps : (shape : Shape) (worker known : ℕ) (redo : Redo) (value : ℕ) → IsRedoStage shape redo → IsRedoOnTrack redo → Steps shape (Copying redo) (after_redo shape worker known redo value)
redo_steps shape worker known (LoadMask visit) value is on =
    redo_goes shape (LoadMask visit) (copy_stage_from visit value (first_cell value 0 shape.cells)) (steps_before_redo shape visit.parity + (1 + 2 * mask_cells_below value 0)) (5 + 2 * mask_cells_below value shape.cells - 2 * mask_cells_below value 0)
    (omega (arith, below_zero value)) (omega (arith, cells_named_most value shape.cells)) (copies_move shape visit value 0 (first_cell value 0 shape.cells) (omega arith) refl)
redo_steps shape worker known (LoadShadow visit mask cell) value is on =
    redo_goes shape (LoadShadow visit mask cell) (Copying (StoreCell visit mask cell value)) (steps_made_in_redo shape (StoreCell visit mask cell value)) (redo_steps_left shape (StoreCell visit mask cell value))
    (omega arith) (omega (arith, cells_below_less mask cell shape.cells (omega (arith, is.1)))) (here shape (StoreCell visit mask cell value) on)
redo_steps shape worker known (StoreCell visit mask cell copied) value is on =
    let count : mask_cells_below mask (cell + 1) ≡ mask_cells_below mask cell + 1 = below_more mask cell on in
    let within : mask_cells_below mask (cell + 1) ≤ mask_cells_below mask shape.cells = cells_below_less mask (cell + 1) shape.cells (omega (arith, is.1)) in
    redo_goes shape (StoreCell visit mask cell copied) (copy_stage_from visit mask (first_cell mask (cell + 1) shape.cells)) (steps_before_redo shape visit.parity + (1 + 2 * mask_cells_below mask (cell + 1))) (5 + 2 * mask_cells_below mask shape.cells - 2 * mask_cells_below mask (cell + 1))
    (omega (arith, count)) (omega (arith, count, within)) (copies_move shape visit mask (cell + 1) (first_cell mask (cell + 1) shape.cells) (omega (arith, is.1)) refl)
redo_steps shape worker known (LoadReply visit mask) value is on =
    redo_goes shape (LoadReply visit mask) (Copying (StoreReply visit mask value)) (steps_made_in_redo shape (StoreReply visit mask value)) 4 (omega arith) (omega arith) (here shape (StoreReply visit mask value) tt)
redo_steps shape worker known (StoreReply visit mask reply) value is on =
    redo_goes shape (StoreReply visit mask reply) (Copying (StorePlace visit mask reply)) (steps_made_in_redo shape (StorePlace visit mask reply)) 3 (omega arith) (omega arith) (here shape (StorePlace visit mask reply) tt)
redo_steps shape worker known (StorePlace visit mask reply) value is on =
    redo_goes shape (StorePlace visit mask reply) (Copying (StoreAt visit mask reply)) (steps_made_in_redo shape (StoreAt visit mask reply)) 2 (omega arith) (omega arith) (here shape (StoreAt visit mask reply) tt)
redo_steps shape worker known (StoreAt visit mask reply) value is on =
    redo_goes shape (StoreAt visit mask reply) (Copying (StoreDone visit mask reply)) (steps_made_in_redo shape (StoreDone visit mask reply)) 1 (omega arith) (omega arith) (here shape (StoreDone visit mask reply) tt)
redo_steps shape worker known (StoreDone visit mask reply) value is on =
    leads shape (Copying (StoreDone visit mask reply)) (Leaving (LoadExitTurn visit.lock)) _ tt (omega arith) (λ e. cc) refl

-- ---- all stages

pub steps_on : (shape : Shape) (worker known : ℕ) (stage : Stage) (value : ℕ) → stage ≢ Resting → IsStage shape known stage → IsValidLoad shape stage value → IsOnTrack stage
    → Steps shape stage (outcome_at shape worker known stage value)
steps_on shape worker known Resting value busy is takes on = absurd (busy refl)
steps_on shape worker known (Recovering recovery) value busy is takes on = recovery_steps shape worker known value recovery is
steps_on shape worker known (Posting slate) value busy is takes on = slate_steps shape known slate is.2
steps_on shape worker known (Climbing ascent) value busy is takes on = ascent_steps shape ascent value is.1
steps_on shape worker known (Logging log) value busy is takes on = log_steps shape log value is takes on
steps_on shape worker known (Copying redo) value busy is takes on = redo_steps shape worker known redo value is on
steps_on shape worker known (Leaving departure) value busy is takes on = departure_steps shape known value departure is

-- ---- a worker, from what is known to follow

pub track_on : (shape : Shape) (worker known : ℕ) (stage : Stage) (value : ℕ) → IsStage shape known stage → IsValidLoad shape stage value → IsOnTrack stage → IsOnTrack (outcome_at shape worker known stage value).0
track_on shape worker known Resting value is takes on = tt
track_on shape worker known (Recovering recovery) value is takes on = (recovery_steps shape worker known value recovery is).track
track_on shape worker known (Posting slate) value is takes on = (slate_steps shape known slate is.2).track
track_on shape worker known (Climbing ascent) value is takes on = (ascent_steps shape ascent value is.1).track
track_on shape worker known (Logging log) value is takes on = (log_steps shape log value is takes on).track
track_on shape worker known (Copying redo) value is takes on = (redo_steps shape worker known redo value is on).track
track_on shape worker known (Leaving departure) value is takes on = (departure_steps shape known value departure is).track

pub steps_by : (shape : Shape) (private : Private) (value : ℕ) (out : Stage × Note) → out ≡ outcome_at shape private.worker private.begun private.stage value
    → IsPrivate shape private → IsValidLoad shape private.stage value → IsOnTrack private.stage → private.stage ≢ Resting → Steps shape private.stage out
steps_by shape private value out e is takes on busy =
    subst (λ (o : Stage × Note). Steps shape private.stage o) (sym e) (steps_on shape private.worker private.begun private.stage value busy is.stage takes on)

pub track_by : (shape : Shape) (private : Private) (value : ℕ) (out : Stage × Note) → out ≡ outcome_at shape private.worker private.begun private.stage value
    → IsPrivate shape private → IsValidLoad shape private.stage value → IsOnTrack private.stage → IsOnTrack out.0
track_by shape private value out e is takes on =
    subst (λ (o : Stage × Note). IsOnTrack o.0) (sym e) (track_on shape private.worker private.begun private.stage value is.stage takes on)
