-- The laws of the step table's rows.
use Rattle.std.proofs.Common.{◌≡◌, ◌≢◌, ℕ, ◌+◌, ◌-◌, ◌%◌, ◌==◌, Bool, true, false, nat_lt, List, length, refl, sym, ap, inl, inr, arith}
use Rattle.std.proofs.lemmas.Bool.{cases_Bool, cases_eq, cases_lt, ne_eqb, lt-ltb, le-ltb}
use Rattle.rme_words.specs.declared.shape.Shape.{Shape}
use Rattle.rme_tree.specs.Paths.{side}
use Rattle.rme_script.specs.Cells.{cells_of_ops, mask_cells}
use Rattle.rme_script.proofs.Rising.{cells_named_mask}
use Rattle.rme_program.specs.declared.note.Note.TheVariants.{Quiet, Reentered, Ready}
use Rattle.rme_program.specs.declared.stage.Stage.{Stage}
use Rattle.rme_program.specs.declared.stage.Stage.TheVariants.{Recovering, Posting, Climbing, Logging, Copying, Leaving}
use Rattle.rme_program.specs.declared.stage.Departure.{Departure}
use Rattle.rme_program.specs.declared.stage.Departure.TheVariants.{LoadExitTurn, StoreExitTurn, Clear, WithdrawPlace, WithdrawAt, WithdrawReply, WithdrawDone}
use Rattle.rme_program.specs.Masks.{mask_of}
use Rattle.rme_program.specs.Stays.{Stay, InRecover, InPost, InEnter, InSection, InExit, InPartialExit, InWithdrawal, StageIsInStay, ExitIsInStay, PartialExitIsInStay, WithdrawalIsInStay, first_stage, steps_made_in_row, path_outcome, recover_outcome, recovery_reading}
use Rattle.rme_program.specs.Progress.{ExitStepsTaken, StepsTaken}
use Rattle.rme_program.specs.RowLaws.{RowLengths, NamedMaskLaw, ReentryStep, StayStartLaw, StepsMatchRowLaw}
use Rattle.rme_program.proofs.Columns.{fits_on_track}
use Rattle.rme_program.proofs.MaskLemmas.{mask_of-is_mask}
use Rattle.rme_program.proofs.Rows.{recover_length, post_length, enter_length, exit_length, clear_length, withdraw_length, path_at}
use Rattle.rme_program.proofs.SectionRows.{even_length, odd_length}

pub row_lengths : (shape : Shape) → RowLengths shape
row_lengths shape = record {
  recover = recover_length shape;
  post = post_length;
  enter = enter_length shape;
  even = even_length shape;
  odd = odd_length shape;
  exit = exit_length shape;
  partial_exit = clear_length shape;
  withdrawal = withdraw_length shape;
}

pub named_mask : NamedMaskLaw
named_mask shape worker begun lock reading e =
    let cells : mask_cells reading.mask shape.cells ≡ cells_of_ops reading.script.ops shape.cells = rw e (cells_named_mask (mask_of reading.script.ops) reading.script.ops (mask_of-is_mask reading.script.ops) shape.cells) in
    let same : length (mask_cells reading.mask shape.cells) ≡ length (cells_of_ops reading.script.ops shape.cells) = ap (λ (xs : List ℕ). length xs) cells in
    record { cells = cells; steps = omega (arith, even_length shape worker begun lock reading, same) }

-- ---- re-entry

not_reentered : (shape : Shape) (worker : ℕ) (pending : Bool) (lock level value here : ℕ) → level ≢ shape.height → (path_outcome shape worker pending lock level value).1 ≢ Reentered here
not_reentered shape worker true lock level value here n e = elim (cases_Bool (value == side shape.leaves worker level)) [
  | inl t ↦ let quiet : Quiet ≡ Reentered here = rw (t, ne_eqb level shape.height n) at e in cc
  | inr f ↦ let quiet : Quiet ≡ Reentered here = rw f at e in cc
]
not_reentered shape worker false lock level value here n e = elim (cases_Bool (value == side shape.leaves worker level)) [
  | inl t ↦ let quiet : Quiet ≡ Reentered here = rw (t, ne_eqb level shape.height n) at e in cc
  | inr f ↦ elim (cases_Bool (level == 1)) [
    | inl one ↦ let ready : Ready ≡ Reentered here = rw (f, one) at e in cc
    | inr more ↦ let quiet : Quiet ≡ Reentered here = rw (f, more) at e in cc
  ]
]

early : (shape : Shape) (worker begun done lock place value here : ℕ) → nat_lt 2 place ≡ false → (recover_outcome shape worker (recovery_reading begun done lock) place value).1 ≢ Reentered here
early shape worker begun done lock place value here f e = elim (cases_Bool (place == 1)) [
  | inl one ↦ elim (cases_Bool (begun == 0)) [
    | inl none ↦ let ready : Ready ≡ Reentered here = rw (f, one, none) at e in cc
    | inr some ↦ let quiet : Quiet ≡ Reentered here = rw (f, one, some) at e in cc
  ]
  | inr other ↦ let quiet : Quiet ≡ Reentered here = rw (f, other) at e in cc
]

pub reentry : (shape : Shape) (worker begun done lock : ℕ) → ReentryStep shape worker begun done lock
reentry shape worker begun done lock = record {
  there = path_at shape worker (nat_lt done begun) lock (shape.height - 1) (shape.height + 2) shape.height
      (omega (arith, shape.counted.tree.some_level)) (omega (arith, shape.counted.tree.some_level)) (omega (arith, shape.counted.tree.some_level));
  alone = λ place value here e. elim (cases_lt 2 place) [
    | inl far ↦ elim (cases_eq (place - 2) shape.height) [
      | inl q ↦ omega (arith, q, far)
      | inr n ↦ let path : (path_outcome shape worker (nat_lt done begun) lock (place - 2) value).1 ≡ Reentered here = rw (lt-ltb 2 place far) at e in
          absurd (not_reentered shape worker (nat_lt done begun) lock (place - 2) value here n path)
    ]
    | inr near ↦ absurd (early shape worker begun done lock place value here (le-ltb 2 place near) e)
  ];
}

-- ---- the start of a stay, and the steps made of it

pub begin_law : StayStartLaw
begin_law shape known (InRecover begun done lock) is = record { fits = tt; none = refl; taken = (tt, refl) }
begin_law shape known (InPost job) is = record { fits = refl; none = refl; taken = (refl, refl, refl) }
begin_law shape known (InEnter lock from) is = record { fits = (refl, omega arith); none = omega arith; taken = omega arith }
begin_law shape known (InSection lock reading) is = record { fits = (is, refl); none = refl; taken = (tt, refl) }
begin_law shape known (InExit lock turn) is = record { fits = refl; none = refl; taken = refl }
begin_law shape known (InPartialExit lock levels) is = record { fits = (refl, omega arith, is); none = omega arith; taken = omega arith }
begin_law shape known (InWithdrawal lock levels) is = record { fits = (refl, refl); none = refl; taken = (refl, refl) }

exit_taken : (shape : Shape) (lock turn : ℕ) (departure : Departure) → ExitIsInStay shape lock turn departure → ExitStepsTaken shape (LoadExitTurn lock) departure (steps_made_in_row shape (InExit lock turn) (Leaving departure))
exit_taken shape lock turn (LoadExitTurn here) fits = refl
exit_taken shape lock turn (StoreExitTurn here odd) fits = refl
exit_taken shape lock turn (Clear here level) fits = elim (cases_eq (turn % 2) 0) [
  | inl q ↦ inl (omega (arith, q, fits.1))
  | inr n ↦ inr (omega (arith, n, fits.1))
]
exit_taken shape lock turn (WithdrawPlace here held) fits = absurd fits
exit_taken shape lock turn (WithdrawAt here held) fits = absurd fits
exit_taken shape lock turn (WithdrawReply here held) fits = absurd fits
exit_taken shape lock turn (WithdrawDone here held) fits = absurd fits

partial_taken : (shape : Shape) (lock levels : ℕ) (departure : Departure) → PartialExitIsInStay shape lock levels departure → ExitStepsTaken shape (Clear lock levels) departure (steps_made_in_row shape (InPartialExit lock levels) (Leaving departure))
partial_taken shape lock levels (Clear here level) fits = omega (arith, fits.1)
partial_taken shape lock levels (LoadExitTurn here) fits = absurd fits
partial_taken shape lock levels (StoreExitTurn here odd) fits = absurd fits
partial_taken shape lock levels (WithdrawPlace here held) fits = absurd fits
partial_taken shape lock levels (WithdrawAt here held) fits = absurd fits
partial_taken shape lock levels (WithdrawReply here held) fits = absurd fits
partial_taken shape lock levels (WithdrawDone here held) fits = absurd fits

withdrawal_taken : (shape : Shape) (lock levels : ℕ) (departure : Departure) → WithdrawalIsInStay shape lock levels departure → ExitStepsTaken shape (WithdrawPlace lock levels) departure (steps_made_in_row shape (InWithdrawal lock levels) (Leaving departure))
withdrawal_taken shape lock levels (WithdrawPlace here held) fits = (fits.1, refl)
withdrawal_taken shape lock levels (WithdrawAt here held) fits = (fits.1, refl)
withdrawal_taken shape lock levels (WithdrawReply here held) fits = (fits.1, refl)
withdrawal_taken shape lock levels (WithdrawDone here held) fits = (fits.1, refl)
withdrawal_taken shape lock levels (Clear here level) fits = omega (arith, fits.1)
withdrawal_taken shape lock levels (LoadExitTurn here) fits = absurd fits
withdrawal_taken shape lock levels (StoreExitTurn here odd) fits = absurd fits

taken : (shape : Shape) (known : ℕ) (stay : Stay) (stage : Stage) → StageIsInStay shape known stay stage → StepsTaken shape (first_stage stay) stage (steps_made_in_row shape stay stage)
taken shape known (InRecover begun done lock) (Recovering recovery) fits = (tt, refl)
taken shape known (InPost job) (Posting slate) fits = (sym fits, refl, refl)
taken shape known (InEnter lock from) (Climbing ascent) fits = omega (arith, fits.1)
taken shape known (InSection lock reading) (Logging log) fits = (tt, refl)
taken shape known (InSection lock reading) (Copying redo) fits = (tt, refl)
taken shape known (InExit lock turn) (Leaving departure) fits = exit_taken shape lock turn departure fits
taken shape known (InPartialExit lock levels) (Leaving departure) fits = partial_taken shape lock levels departure fits
taken shape known (InWithdrawal lock levels) (Leaving departure) fits = withdrawal_taken shape lock levels departure fits
taken shape known _ _ fits = absurd fits

pub place_law : StepsMatchRowLaw
place_law shape known stay stage fits = record { track = fits_on_track shape known stay stage fits; taken = taken shape known stay stage fits }
