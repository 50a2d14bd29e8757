-- The stay of a line's worker is found, and ends or continues.
use Rattle.std.proofs.Common.{◌≡◌, ℕ, Bool, List, [], ◌++◌, Option, Some, None, Result, Ok, Err, OnOk, refl, sym, ap, ◌∙◌, append-nil}
use Rattle.std.specs.Prelude.{slice_get, slice_set}
use Rattle.rme_machine.specs.Machine.{WorkerState}
use Rattle.rme_line_text.specs.declared.event.EventLine.{EventLine}
use Rattle.rme_core_checker.specs.Views.{MachineView}
use Rattle.rme_draw_picture.specs.declared.drawing.DrawnStay.{DrawnStay}
use Rattle.rme_draw_history.specs.declared.stays.OngoingStay.{OngoingStay}
use Rattle.rme_draw_history.specs.Stays.{are_few_workers, stays_ended, next_stay, ongoing_stays_after, ongoing_stays_by, ended_stays_after, ended_stays_by}
use Rattle.rme_draw_history.specs.LineMarks.{line_worker}

pub on_ok : {A E : Type 0} {X Y : Type 0} (result : Result A E) → (X → Y) → OnOk result X → OnOk result Y
on_ok (Ok a) f x = f x
on_ok (Err e) f x = tt

pub always : {A E : Type 0} {Y : Type 0} (result : Result A E) → Y → OnOk result Y
always (Ok a) y = y
always (Err e) y = tt

-- there is no such stay, so none has ended
stays_none : (found : Option WorkerState) (event_line : EventLine) (line : ℕ) (all : List OngoingStay) → ended_stays_by found None event_line line all ≡ []
stays_none None event_line line all = refl
stays_none (Some me) event_line line all = refl

pub nothing_over : (event_line : EventLine) (line : ℕ) (machine : MachineView) (all : List OngoingStay) (worker : ℕ) (stays : List DrawnStay) → worker ≡ line_worker event_line → slice_get all worker ≡ None → stays ≡ stays ++ ended_stays_after event_line line machine all
nothing_over event_line line machine all worker stays same none =
    let here : slice_get all (line_worker event_line) ≡ None = ap (λ w. slice_get all w) (sym same) ∙ none in
    let found = slice_get machine.state.workers (line_worker event_line) in
    sym (ap (λ l. stays ++ l) (ap (λ (b : Option OngoingStay). ended_stays_by found b event_line line all) here ∙ stays_none found event_line line all) ∙ append-nil stays)

-- the stay and its worker are there
module _ (event_line : EventLine) (line : ℕ) (machine : MachineView) (all : List OngoingStay) (worker : ℕ) (few : Bool) (me : WorkerState) (before : OngoingStay) (same : worker ≡ line_worker event_line)
    (is_me : slice_get machine.state.workers worker ≡ Some me) (is_before : slice_get all worker ≡ Some before) (few_is : few ≡ are_few_workers all) where
  my_state : slice_get machine.state.workers (line_worker event_line) ≡ Some me
  my_state = ap (λ w. slice_get machine.state.workers w) (sym same) ∙ is_me

  my_stay : slice_get all (line_worker event_line) ≡ Some before
  my_stay = ap (λ w. slice_get all w) (sym same) ∙ is_before

  pub stay_over : (stays new : List DrawnStay) → new ≡ stays ++ stays_ended event_line line few me before → new ≡ stays ++ ended_stays_after event_line line machine all
  stay_over stays new e =
      let found : ended_stays_after event_line line machine all ≡ stays_ended event_line line (are_few_workers all) me before =
      ap (λ (f : Option WorkerState). ended_stays_by f (slice_get all (line_worker event_line)) event_line line all) my_state ∙ ap (λ (b : Option OngoingStay). ended_stays_by (Some me) b event_line line all) my_stay in
      e ∙ ap (λ x. stays ++ stays_ended event_line line x me before) few_is ∙ ap (λ l. stays ++ l) (sym found)

  pub stay_next : (new : List OngoingStay) (stay : OngoingStay) → new ≡ slice_set all worker stay → stay ≡ next_stay event_line line few me before → new ≡ ongoing_stays_after event_line line machine all
  stay_next new stay e f =
      let found : ongoing_stays_after event_line line machine all ≡ slice_set all (line_worker event_line) (next_stay event_line line (are_few_workers all) me before) =
      ap (λ (w : Option WorkerState). ongoing_stays_by w (slice_get all (line_worker event_line)) event_line line all) my_state ∙ ap (λ (b : Option OngoingStay). ongoing_stays_by (Some me) b event_line line all) my_stay in
      e ∙ ap (λ w. slice_set all w stay) same ∙ ap (λ (s : OngoingStay). slice_set all (line_worker event_line) s) (f ∙ ap (λ x. next_stay event_line line x me before) few_is) ∙ sym found
