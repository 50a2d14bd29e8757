-- The outcome of a step is the table's at its place.
use Rattle.std.proofs.Common.{◌≡◌, ◌≢◌, ℕ, ◌+◌, ◌-◌, ◌*◌, ◌%◌, ◌<◌, ◌≤◌, ◌==◌, Bool, true, false, nat_lt, length, refl, sym, subst, inl, inr, arith}
use Rattle.std.specs.Prelude.{Some, if◌then◌else◌}
use Rattle.std.specs.List.{slice_get}
use Rattle.std.proofs.lemmas.Bool.{cases_eq, eq-eqb, ne_eqb, lt-ltb, le-ltb}
use Rattle.std.proofs.lemmas.Option.{slice_get_within}
use Rattle.rme_words.specs.declared.shape.Shape.{Shape}
use Rattle.rme_tree.specs.Paths.{side}
use Rattle.rme_script.specs.declared.job.Job.{Job}
use Rattle.rme_program.specs.declared.action.Action.{Action}
use Rattle.rme_program.specs.declared.note.Note.{Note}
use Rattle.rme_program.specs.declared.note.Note.TheVariants.{Quiet, Ready}
use Rattle.rme_program.specs.declared.private.Private.{Private}
use Rattle.rme_program.specs.declared.stage.Stage.{Stage}
use Rattle.rme_program.specs.declared.stage.Stage.TheVariants.{Resting, Recovering, Posting, Climbing, Logging, Copying, Leaving}
use Rattle.rme_program.specs.declared.stage.Recovery.{Recovery}
use Rattle.rme_program.specs.declared.stage.Recovery.TheVariants.{LoadBegun, LoadDone, LoadLock, LoadPath}
use Rattle.rme_program.specs.declared.stage.Slate.{Slate}
use Rattle.rme_program.specs.declared.stage.Ascent.{Ascent}
use Rattle.rme_program.specs.declared.stage.Log.{Log}
use Rattle.rme_program.specs.declared.stage.Log.TheVariants.{LoadTurn}
use Rattle.rme_program.specs.declared.stage.Redo.{Redo}
use Rattle.rme_program.specs.declared.stage.Redo.TheVariants.{LoadMask, LoadShadow, StoreCell, LoadReply, StoreReply, StorePlace, StoreAt, StoreDone}
use Rattle.rme_program.specs.declared.stage.Departure.{Departure}
use Rattle.rme_program.specs.declared.stage.Departure.TheVariants.{LoadExitTurn, StoreExitTurn, Clear, WithdrawPlace, WithdrawAt, WithdrawReply, WithdrawDone}
use Rattle.rme_program.specs.Conditions.{IsLogStage, IsRedoStage, IsDepartureStage, IsStage, IsPrivate}
use Rattle.rme_program.specs.Steps.{recovery_action, log_action, redo_action, after_log, after_redo, departure_action, stage_action, private_action, outcome_at, begun_after, private_after, note_after, after_recovery, after_other_node, reentry_stage, after_slate, after_ascent, after_departure, clear_stage}
use Rattle.rme_program.specs.declared.stage.Visit.{Visit}
use Rattle.rme_program.specs.Phases.{mask_cells_below}
use Rattle.rme_program.specs.StepsMade.{steps_before_redo}
use Rattle.rme_program.specs.Table.{Reading, section_row}
use Rattle.rme_program.specs.Stays.{reading_parity, Stay, InRecover, InPost, InEnter, InSection, InExit, InPartialExit, InWithdrawal, StayOutcome, Goes, Stays, Leads, StageIsInStay, RecoveryIsInStay, ExitIsInStay, PartialExitIsInStay, WithdrawalIsInStay, StayLoadFinds, steps_made_in_row, steps_made_in_exit, steps_made_in_partial_exit, steps_made_in_withdrawal, stay_row, path_outcome, recover_outcome, recovery_reading, post_outcome, enter_outcome, section_outcome, exit_outcome, clear_stay_outcome, clear_outcome, withdraw_outcome, row_step_outcome, IsStayOutcome, ActionIsInRow, StepFollowsRow}
use Rattle.rme_program.proofs.Rows.{recover_at, post_at, enter_at, exit_at, partial_at, withdraw_at}
use Rattle.rme_program.proofs.SectionRows.{log_at, redo_at, section_length}
use Rattle.rme_program.proofs.Fitting.{log_fits, redo_fits}

-- ---- the action of a stage

takes : (shape : Shape) (worker known : ℕ) (stay : Stay) (stage : Stage) → IsStage shape known stage → StageIsInStay shape known stay stage
    → slice_get (stay_row shape worker known stay) (steps_made_in_row shape stay stage) ≡ Some (stage_action shape worker known stage)
takes shape worker known (InRecover begun done lock) (Recovering recovery) is fits = recover_at shape worker known begun done lock recovery is fits
takes shape worker known (InPost job) (Posting slate) is fits =
    subst (λ (j : Job). slice_get (stay_row shape worker known (InPost j)) slate.stored ≡ Some (stage_action shape worker known (Posting slate))) fits (post_at shape worker known slate is.1 is.2)
takes shape worker known (InEnter lock from) (Climbing ascent) is fits = enter_at shape worker lock from ascent is.1 fits
takes shape worker known (InSection lock reading) (Logging log) is fits = log_at shape worker known lock reading log is fits.1
takes shape worker known (InSection lock reading) (Copying redo) is fits = redo_at shape worker known lock reading redo is fits.1
takes shape worker known (InExit lock turn) (Leaving departure) is fits = exit_at shape worker known lock turn departure is fits
takes shape worker known (InPartialExit lock levels) (Leaving departure) is fits = partial_at shape worker known lock levels departure is fits
takes shape worker known (InWithdrawal lock levels) (Leaving departure) is fits = withdraw_at shape worker known lock levels departure is fits
takes shape worker known _ _ is fits = absurd fits

-- The next action of a worker in a stay is its row's at its place.
pub takes_row : (shape : Shape) (private : Private) → IsPrivate shape private → ActionIsInRow shape private (private_action shape private)
takes_row shape private is stay fits = takes shape private.worker private.begun stay private.stage is.stage fits

-- ---- the outcome of a step

abbrev StageOnward : Shape → Stay → ℕ → ℕ → Stage → Stage → StayOutcome → Type 0
StageOnward shape stay known now old new Goes = StageIsInStay shape now stay new × (steps_made_in_row shape stay new ≡ steps_made_in_row shape stay old + 1)
StageOnward shape stay known now old new Stays = (new ≡ old) × (now ≡ known)
StageOnward shape stay known now old new (Leads stage) = new ≡ stage

pub record StageTurn (shape : Shape) (stay : Stay) (known now : ℕ) (old : Stage) (out : Stage × Note) (turned : StayOutcome × Note) : Type 0 where
  pub says : out.1 ≡ turned.1
  pub onward : StageOnward shape stay known now old out.0 turned.0

-- The same for both branches.
either : {shape : Shape} {stay : Stay} {known now : ℕ} {old : Stage} (b : Bool) (x y : Stage × Note) (u v : StayOutcome × Note)
    → (b ≡ true → StageTurn shape stay known now old x u) → (b ≡ false → StageTurn shape stay known now old y v)
    → StageTurn shape stay known now old (if b then x else y) (if b then u else v)
either true x y u v hit miss = hit refl
either false x y u v hit miss = miss refl

-- ---- RECOVER

same_test : (n : ℕ) → ((n + 1) == 1) ≡ (n == 0)
same_test n = elim (cases_eq n 0) [
  | inl q ↦ rw (eq-eqb n 0 q) (eq-eqb (n + 1) 1 (omega (arith, q)))
  | inr m ↦ rw (ne_eqb n 0 m) (ne_eqb (n + 1) 1 (omega (arith, m)))
]

module _ (shape : Shape) (worker known begun done lock : ℕ) where
  abbrev recover : Stay
  recover = InRecover begun done lock

  other_turn : (pending : Bool) (held : ℕ) (old : Stage)
      → StageTurn shape recover known known old (after_other_node pending lock held)
      (if pending then (Leads (Climbing record { lock = lock; held = held }), Quiet) else if held == 0 then (Leads Resting, Ready) else (Leads (Leaving (Clear lock held)), Quiet))
  other_turn true held old = record { says = refl; onward = refl }
  other_turn false held old = either (held == 0) _ _ _ _ (λ _. record { says = refl; onward = refl }) (λ _. record { says = refl; onward = refl })

  entry_is : (pending : Bool) → reentry_stage pending lock ≡ (if pending then Logging (LoadTurn lock) else Leaving (LoadExitTurn lock))
  entry_is true = refl
  entry_is false = refl

  path_turned : (pending : Bool) (held value : ℕ) → (known ≡ begun) → pending ≡ nat_lt done begun
      → StageTurn shape recover known known (Recovering (LoadPath pending lock held)) (after_recovery shape worker known (LoadPath pending lock held) value) (path_outcome shape worker pending lock (held + 1) value)
  path_turned pending held value same when =
      let one : ((held + 1) == 1) ≡ (held == 0) = same_test held in
      let less : held + 1 - 1 ≡ held = omega arith in
      rw (one, less) (either (value == side shape.leaves worker (held + 1)) _ _ _ _
      (λ _. either ((held + 1) == shape.height) _ _ _ _
      (λ _. record { says = refl; onward = entry_is pending })
      (λ _. record { says = refl; onward = ((same, when, refl), omega arith) }))
      (λ _. other_turn pending held (Recovering (LoadPath pending lock held))))

  recover_turned : (recovery : Recovery) (value : ℕ) → RecoveryIsInStay known begun done lock recovery → StayLoadFinds recover (recovery_action shape worker recovery) value
      → StageTurn shape recover known (begun_after known (Recovering recovery) value) (Recovering recovery) (after_recovery shape worker known recovery value)
      (recover_outcome shape worker (recovery_reading begun done lock) (steps_made_in_row shape recover (Recovering recovery)) value)
  recover_turned LoadBegun value fits finds = record { says = refl; onward = (finds, refl) }
  recover_turned LoadDone value fits finds = rw (← fits) (either (known == 0) _ _ _ _
      (λ _. record { says = refl; onward = refl })
      (λ _. record { says = refl; onward = ((refl, rw finds refl), refl) }))
  recover_turned (LoadLock true) value fits finds = record { says = refl; onward = ((fits.0, fits.1, finds), refl) }
  recover_turned (LoadLock false) value fits finds = record { says = refl; onward = ((fits.0, fits.1, finds), refl) }
  recover_turned (LoadPath pending here held) value fits finds =
      let far : nat_lt 2 (3 + held) ≡ true = lt-ltb 2 (3 + held) (omega arith) in
      let level : 3 + held - 2 ≡ held + 1 = omega arith in
      rw (far, level, fits.2, ← fits.1) (path_turned pending held value fits.0 fits.1)

-- ---- POST

post_turned : (shape : Shape) (known value : ℕ) (slate : Slate)
    → StageTurn shape (InPost slate.job) known (begun_after known (Posting slate) value) (Posting slate) (after_slate known slate) (post_outcome known slate.job slate.stored)
post_turned shape known value slate =
    either (slate.stored == 2 + 3 * slate.job.script.n) _ _ _ _ (λ _. record { says = refl; onward = refl }) (λ _. record { says = refl; onward = (refl, refl) })

-- ---- ENTER

enter_turned : (shape : Shape) (known lock from value : ℕ) (ascent : Ascent) → (ascent.lock ≡ lock) × (from ≤ ascent.held)
    → StageTurn shape (InEnter lock from) known known (Climbing ascent) (after_ascent shape ascent value) (enter_outcome shape lock (from + (ascent.held - from) + 1) value)
enter_turned shape known lock from value ascent fits =
    let level : from + (ascent.held - from) + 1 ≡ ascent.held + 1 = omega (arith, fits.1) in
    rw (level, ← fits.0) (either (value == 0) _ _ _ _
    (λ _. either ((ascent.held + 1) == shape.height) _ _ _ _
    (λ _. record { says = refl; onward = refl })
    (λ _. record { says = refl; onward = ((refl, omega (arith, fits.1)), omega (arith, fits.1)) }))
    (λ _. record { says = refl; onward = (refl, refl) }))

-- ---- EXIT

-- The node of a level is cleared: the worker continues with the level below, or is ready.
clear_onward_is : (shape : Shape) (stay : Stay) (known lock level : ℕ) (old : Stage) → 1 ≤ level
    → (2 ≤ level → StageIsInStay shape known stay (Leaving (Clear lock (level - 1))) × (steps_made_in_row shape stay (Leaving (Clear lock (level - 1))) ≡ steps_made_in_row shape stay old + 1))
    → StageOnward shape stay known known old (clear_stage lock (level - 1)) (clear_stay_outcome level)
clear_onward_is shape stay known lock level old some below = elim (cases_eq level 1) [
  | inl q ↦ rw (eq-eqb level 1 q, eq-eqb (level - 1) 0 (omega (arith, q))) refl
  | inr n ↦ rw (ne_eqb level 1 n, ne_eqb (level - 1) 0 (omega (arith, n, some))) (below (omega (arith, n, some)))
]

abbrev ExitTurned : Shape → ℕ → ℕ → Stay → Departure → ℕ → StayOutcome × Note → Type 0
ExitTurned shape worker known stay departure value turned =
    StageTurn shape stay known known (Leaving departure) (after_departure shape known departure value) turned

exit_turned : (shape : Shape) (worker known lock turn value : ℕ) (departure : Departure) → IsDepartureStage shape departure → ExitIsInStay shape lock turn departure
    → StayLoadFinds (InExit lock turn) (departure_action shape worker known departure) value
    → ExitTurned shape worker known (InExit lock turn) departure value (exit_outcome shape lock turn (steps_made_in_exit shape turn departure))
exit_turned shape worker known lock turn value (LoadExitTurn here) is fits finds =
    let first : nat_lt 0 (1 + turn % 2) ≡ true = lt-ltb 0 (1 + turn % 2) (omega arith) in
    rw (first, fits, finds) (elim (cases_eq (turn % 2) 0) [
      | inl q ↦ rw (eq-eqb (turn % 2) 0 q) record { says = refl; onward = ((refl, omega arith), omega (arith, q)) }
      | inr n ↦ rw (ne_eqb (turn % 2) 0 n) record { says = refl; onward = ((refl, refl, n), refl) }
    ])
exit_turned shape worker known lock turn value (StoreExitTurn here odd) is fits finds =
    let one : turn % 2 ≡ 1 = omega (arith, fits.2) in
    let second : nat_lt 1 (1 + turn % 2) ≡ true = lt-ltb 1 (1 + turn % 2) (omega (arith, one)) in
    rw second record { says = refl; onward = ((fits.0, omega arith), omega (arith, one)) }
exit_turned shape worker known lock turn value (Clear here level) is fits finds =
    let past : nat_lt (1 + turn % 2 + (shape.height - level)) (1 + turn % 2) ≡ false = le-ltb (1 + turn % 2 + (shape.height - level)) (1 + turn % 2) (omega arith) in
    let there : shape.height - (1 + turn % 2 + (shape.height - level) - (1 + turn % 2)) ≡ level = omega (arith, is.2) in
    rw (past, there, fits.0) record {
      says = refl;
      onward = clear_onward_is shape (InExit lock turn) known lock level (Leaving (Clear lock level)) is.1 (λ more. ((refl, omega (arith, fits.1)), omega (arith, more, is.2)));
    }
exit_turned shape worker known lock turn value (WithdrawPlace here held) is fits finds = absurd fits
exit_turned shape worker known lock turn value (WithdrawAt here held) is fits finds = absurd fits
exit_turned shape worker known lock turn value (WithdrawReply here held) is fits finds = absurd fits
exit_turned shape worker known lock turn value (WithdrawDone here held) is fits finds = absurd fits

partial_turned : (shape : Shape) (worker known lock levels value : ℕ) (departure : Departure) → IsDepartureStage shape departure → PartialExitIsInStay shape lock levels departure
    → ExitTurned shape worker known (InPartialExit lock levels) departure value (clear_outcome (levels - steps_made_in_partial_exit levels departure))
partial_turned shape worker known lock levels value (Clear here level) is fits =
    let there : levels - (levels - level) ≡ level = omega (arith, fits.1) in
    let below : (level == shape.height) ≡ false = ne_eqb level shape.height (omega (arith, fits.1, fits.2)) in
    rw (there, fits.0, below) record {
      says = refl;
      onward = clear_onward_is shape (InPartialExit lock levels) known lock level (Leaving (Clear lock level)) is.1
          (λ more. ((refl, omega (arith, fits.1), fits.2), omega (arith, more, fits.1)));
    }
partial_turned shape worker known lock levels value (LoadExitTurn here) is fits = absurd fits
partial_turned shape worker known lock levels value (StoreExitTurn here odd) is fits = absurd fits
partial_turned shape worker known lock levels value (WithdrawPlace here held) is fits = absurd fits
partial_turned shape worker known lock levels value (WithdrawAt here held) is fits = absurd fits
partial_turned shape worker known lock levels value (WithdrawReply here held) is fits = absurd fits
partial_turned shape worker known lock levels value (WithdrawDone here held) is fits = absurd fits

withdraw_turned : (shape : Shape) (worker known lock levels value : ℕ) (departure : Departure) → IsDepartureStage shape departure → WithdrawalIsInStay shape lock levels departure
    → ExitTurned shape worker known (InWithdrawal lock levels) departure value (withdraw_outcome known levels (steps_made_in_withdrawal levels departure))
withdraw_turned shape worker known lock levels value (WithdrawPlace here held) is fits = record { says = refl; onward = ((fits.0, fits.1), refl) }
withdraw_turned shape worker known lock levels value (WithdrawAt here held) is fits = record { says = refl; onward = ((fits.0, fits.1), refl) }
withdraw_turned shape worker known lock levels value (WithdrawReply here held) is fits = record { says = refl; onward = ((fits.0, fits.1), refl) }
withdraw_turned shape worker known lock levels value (WithdrawDone here held) is fits =
    rw fits.1 (elim (cases_eq levels 0) [
      | inl q ↦ rw (eq-eqb levels 0 q) record { says = refl; onward = refl }
      | inr n ↦ rw (ne_eqb levels 0 n) record { says = refl; onward = ((fits.0, omega arith, omega (arith, fits.1, is.1)), omega arith) }
    ])
withdraw_turned shape worker known lock levels value (Clear here level) is fits =
    let early : nat_lt (4 + (levels - level)) 3 ≡ false = le-ltb (4 + (levels - level)) 3 (omega arith) in
    let past : ((4 + (levels - level)) == 3) ≡ false = ne_eqb (4 + (levels - level)) 3 (omega arith) in
    let there : levels - (4 + (levels - level) - 4) ≡ level = omega (arith, fits.1) in
    let below : (level == shape.height) ≡ false = ne_eqb level shape.height (omega (arith, fits.1, fits.2)) in
    rw (early, past, there, fits.0, below) record {
      says = refl;
      onward = clear_onward_is shape (InWithdrawal lock levels) known lock level (Leaving (Clear lock level)) is.1
          (λ more. ((refl, omega (arith, fits.1), fits.2), omega (arith, more, fits.1)));
    }
withdraw_turned shape worker known lock levels value (LoadExitTurn here) is fits = absurd fits
withdraw_turned shape worker known lock levels value (StoreExitTurn here odd) is fits = absurd fits

-- ---- SECTION

module _ (shape : Shape) (worker known lock : ℕ) (reading : Reading) where
  abbrev section : Stay
  section = InSection lock reading

  -- A step after which the stay continues is not the row's last.
  going_on : (old new : Stage) → IsStage shape known new → StageIsInStay shape known section new × (steps_made_in_row shape section new ≡ steps_made_in_row shape section old + 1)
      → StageTurn shape section known known old (new, Quiet) (section_outcome worker known lock reading (steps_made_in_row shape section old + 1 == length (section_row shape worker known lock reading)))
  going_on old new is fits =
      let inside : steps_made_in_row shape section new < length (section_row shape worker known lock reading)
      = slice_get_within (section_row shape worker known lock reading) (steps_made_in_row shape section new) (stage_action shape worker known new) (takes shape worker known section new is fits.0) in
      let more : (steps_made_in_row shape section old + 1 == length (section_row shape worker known lock reading)) ≡ false = ne_eqb (steps_made_in_row shape section old + 1) (length (section_row shape worker known lock reading)) (omega (arith, inside, fits.1)) in
      rw more record { says = refl; onward = fits }

  log_turned : (log : Log) (value : ℕ) → IsLogStage shape log → IsStage shape known (after_log shape log value) → StageIsInStay shape known section (Logging log) → StayLoadFinds section (log_action worker log) value
      → StageTurn shape section known known (Logging log) (after_log shape log value, Quiet) (row_step_outcome shape worker known section (steps_made_in_row shape section (Logging log)) value)
  log_turned log value is next fits finds = going_on (Logging log) (after_log shape log value) next (log_fits shape known lock reading fits.0 worker log value is fits.1 finds)

  redo_quiet : (redo : Redo) (value : ℕ) → ((visit : Visit) (mask reply : ℕ) → redo ≢ StoreDone visit mask reply) → after_redo shape worker known redo value ≡ ((after_redo shape worker known redo value).0, Quiet)
  redo_quiet (LoadMask visit) value more = refl
  redo_quiet (LoadShadow visit mask cell) value more = refl
  redo_quiet (StoreCell visit mask cell copied) value more = refl
  redo_quiet (LoadReply visit mask) value more = refl
  redo_quiet (StoreReply visit mask reply) value more = refl
  redo_quiet (StorePlace visit mask reply) value more = refl
  redo_quiet (StoreAt visit mask reply) value more = refl
  redo_quiet (StoreDone visit mask reply) value more = absurd (more visit mask reply refl)

  redo_going : (redo : Redo) (value : ℕ) → IsRedoStage shape redo → IsStage shape known (after_redo shape worker known redo value).0 → StageIsInStay shape known section (Copying redo) → StayLoadFinds section (redo_action worker known redo) value
      → ((visit : Visit) (mask reply : ℕ) → redo ≢ StoreDone visit mask reply)
      → StageTurn shape section known known (Copying redo) (after_redo shape worker known redo value) (row_step_outcome shape worker known section (steps_made_in_row shape section (Copying redo)) value)
  redo_going redo value is next fits finds more =
      subst (λ (out : Stage × Note). StageTurn shape section known known (Copying redo) out (row_step_outcome shape worker known section (steps_made_in_row shape section (Copying redo)) value)) (sym (redo_quiet redo value more))
      (going_on (Copying redo) (after_redo shape worker known redo value).0 next (redo_fits shape known lock reading fits.0 worker redo value is fits.1 finds more))

  done_turned : (visit : Visit) (mask reply value : ℕ) → StageIsInStay shape known section (Copying (StoreDone visit mask reply))
      → StageTurn shape section known known (Copying (StoreDone visit mask reply)) (after_redo shape worker known (StoreDone visit mask reply) value)
      (row_step_outcome shape worker known section (steps_made_in_row shape section (Copying (StoreDone visit mask reply))) value)
  done_turned visit mask reply value fits =
      let last : (steps_before_redo shape (reading_parity reading) + (5 + 2 * mask_cells_below reading.mask shape.cells) + 1 == length (section_row shape worker known lock reading)) ≡ true
      = eq-eqb (steps_before_redo shape (reading_parity reading) + (5 + 2 * mask_cells_below reading.mask shape.cells) + 1) (length (section_row shape worker known lock reading)) (omega (arith, section_length shape worker known lock reading)) in
      rw (fits.1.0, fits.1.1, fits.1.2, last) record { says = refl; onward = refl }

  redo_turned : (redo : Redo) (value : ℕ) → IsRedoStage shape redo → IsStage shape known (after_redo shape worker known redo value).0 → StageIsInStay shape known section (Copying redo) → StayLoadFinds section (redo_action worker known redo) value
      → StageTurn shape section known known (Copying redo) (after_redo shape worker known redo value) (row_step_outcome shape worker known section (steps_made_in_row shape section (Copying redo)) value)
  redo_turned (LoadMask visit) value is next fits finds = redo_going (LoadMask visit) value is next fits finds (λ v m r e. cc)
  redo_turned (LoadShadow visit mask cell) value is next fits finds = redo_going (LoadShadow visit mask cell) value is next fits finds (λ v m r e. cc)
  redo_turned (StoreCell visit mask cell copied) value is next fits finds = redo_going (StoreCell visit mask cell copied) value is next fits finds (λ v m r e. cc)
  redo_turned (LoadReply visit mask) value is next fits finds = redo_going (LoadReply visit mask) value is next fits finds (λ v m r e. cc)
  redo_turned (StoreReply visit mask reply) value is next fits finds = redo_going (StoreReply visit mask reply) value is next fits finds (λ v m r e. cc)
  redo_turned (StorePlace visit mask reply) value is next fits finds = redo_going (StorePlace visit mask reply) value is next fits finds (λ v m r e. cc)
  redo_turned (StoreAt visit mask reply) value is next fits finds = redo_going (StoreAt visit mask reply) value is next fits finds (λ v m r e. cc)
  redo_turned (StoreDone visit mask reply) value is next fits finds = done_turned visit mask reply value fits

-- ---- all stages

turned : (shape : Shape) (worker known : ℕ) (stay : Stay) (stage : Stage) (value : ℕ) → IsStage shape known stage → IsStage shape (begun_after known stage value) (outcome_at shape worker known stage value).0
    → StageIsInStay shape known stay stage → StayLoadFinds stay (stage_action shape worker known stage) value
    → StageTurn shape stay known (begun_after known stage value) stage (outcome_at shape worker known stage value) (row_step_outcome shape worker known stay (steps_made_in_row shape stay stage) value)
turned shape worker known (InRecover begun done lock) (Recovering recovery) value is next fits finds = recover_turned shape worker known begun done lock recovery value fits finds
turned shape worker known (InPost job) (Posting slate) value is next fits finds =
    subst (λ (j : Job). StageTurn shape (InPost j) known (begun_after known (Posting slate) value) (Posting slate) (after_slate known slate) (post_outcome known j slate.stored)) fits (post_turned shape known value slate)
turned shape worker known (InEnter lock from) (Climbing ascent) value is next fits finds = enter_turned shape known lock from value ascent fits
turned shape worker known (InSection lock reading) (Logging log) value is next fits finds = log_turned shape worker known lock reading log value is next fits finds
turned shape worker known (InSection lock reading) (Copying redo) value is next fits finds = redo_turned shape worker known lock reading redo value is next fits finds
turned shape worker known (InExit lock turn) (Leaving departure) value is next fits finds = exit_turned shape worker known lock turn value departure is fits finds
turned shape worker known (InPartialExit lock levels) (Leaving departure) value is next fits finds = partial_turned shape worker known lock levels value departure is fits
turned shape worker known (InWithdrawal lock levels) (Leaving departure) value is next fits finds = withdraw_turned shape worker known lock levels value departure is fits
turned shape worker known _ _ value is next fits finds = absurd fits

onward_is : (shape : Shape) (stay : Stay) (worker known now : ℕ) (old new : Stage) (onward : StayOutcome) → StageOnward shape stay known now old new onward
    → IsStayOutcome shape stay record { worker = worker; begun = known; stage = old } record { worker = worker; begun = now; stage = new } onward
onward_is shape stay worker known now old new Goes on = on
onward_is shape stay worker known now old new Stays on = rw (on.0, on.1) refl
onward_is shape stay worker known now old new (Leads stage) on = on

-- The outcome of a step is the table's.
pub follows_row : (shape : Shape) (private : Private) (value : ℕ) → IsPrivate shape private → IsPrivate shape (private_after shape private value)
    → StepFollowsRow shape private value (private_after shape private value) (note_after shape private value)
follows_row shape private value is next stay fits finds =
    let turn : StageTurn shape stay private.begun (begun_after private.begun private.stage value) private.stage (outcome_at shape private.worker private.begun private.stage value) (row_step_outcome shape private.worker private.begun stay (steps_made_in_row shape stay private.stage) value)
    = turned shape private.worker private.begun stay private.stage value is.stage next.stage fits finds in
    record {
      says = turn.says;
      onward = onward_is shape stay private.worker private.begun (begun_after private.begun private.stage value) private.stage (outcome_at shape private.worker private.begun private.stage value).0
          (row_step_outcome shape private.worker private.begun stay (steps_made_in_row shape stay private.stage) value).0 turn.onward;
    }

-- The same for an action that is known to be the stage's.
pub takes_by : (shape : Shape) (private : Private) (action : Action) → IsPrivate shape private → action ≡ private_action shape private → ActionIsInRow shape private action
takes_by shape private action is e = subst (λ (a : Action). ActionIsInRow shape private a) (sym e) (takes_row shape private is)

-- The same for a stage and note that are known to follow.
pub follows_by : (shape : Shape) (private : Private) (value now : ℕ) (out : Stage × Note) → now ≡ begun_after private.begun private.stage value → out ≡ outcome_at shape private.worker private.begun private.stage value
    → IsPrivate shape private → now ≤ shape.jobs → IsStage shape private.begun out.0
    → (IsStage shape private.begun (outcome_at shape private.worker private.begun private.stage value).0 → IsStage shape now (outcome_at shape private.worker private.begun private.stage value).0)
    → StepFollowsRow shape private value record { worker = private.worker; begun = now; stage = out.0 } out.1
follows_by shape private value now out b a is few stage grows =
    let there : IsStage shape now (outcome_at shape private.worker private.begun private.stage value).0 = grows (subst (λ (o : Stage × Note). IsStage shape private.begun o.0) a stage) in
    let next : IsPrivate shape (private_after shape private value) = record {
      worker = is.worker;
      begun = rw (← b) few;
      stage = subst (λ (n : ℕ). IsStage shape n (outcome_at shape private.worker private.begun private.stage value).0) b there;
    } in
    rw (b, a) (follows_row shape private value is next)
