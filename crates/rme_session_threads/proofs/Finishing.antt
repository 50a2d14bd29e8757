-- A worker that was inside finished its job, and left its lock.
use Rattle.std.proofs.Common.{◌≡◌, ℕ, ◌∙◌, subst}
use Rattle.std.specs.Prelude.{Bool, false}
use Rattle.rme_words.specs.declared.shape.Shape.{Shape}
use Rattle.rme_program.specs.declared.note.Receipt.{Receipt}
use Rattle.rme_service_steps.specs.CallSteps.{CallFell, SeatCall, seat_call}
use Rattle.rme_service_steps.specs.Parts.{unchanged_part}
use Rattle.rme_service_steps.specs.SeatViews.{SeatView}
use Rattle.rme_table.specs.Calls.{CallIsDone, PerformContract}
use Rattle.rme_table.specs.Driving.{DriveOutcome}
use Rattle.rme_table.specs.declared.driving.Driven.TheVariants as driven
use Rattle.rme_table.proofs.GoingOn.{finishes_so, goes_fell, goes_made, goes_on, performed, same_number}
use Rattle.rme_session_protocol.specs.declared.planned_crash.Countdown.{Countdown}
use Rattle.rme_session_protocol.specs.declared.reply.JobOutcome.TheVariants as outcome
use Rattle.rme_session_threads.specs.CrashPlans.{countdown_tally}
use Rattle.rme_session_threads.specs.JobOutcomes.{HasKnownPlace}
use Rattle.rme_session_threads.specs.declared.stand.Holding.TheVariants.{Held}

abbrev call_of : Shape → SeatView → SeatView → Countdown → Countdown → SeatCall
call_of shape start end old new = seat_call shape unchanged_part start end (countdown_tally old) (countdown_tally new)

module _ (shape : Shape) (held leave : SeatView) (old mid : Countdown) (receipt : Receipt) (over : Bool) (pending : over ≡ false) (performs : PerformContract over (call_of shape held leave old mid) receipt) where
  finishes : PerformContract false (call_of shape held leave old mid) receipt
  finishes = subst (λ (its : Bool). PerformContract its (call_of shape held leave old mid) receipt) pending performs

  pub left_lock : (ready : SeatView) (new : Countdown) (least most : ℕ) → CallIsDone (call_of shape leave ready mid new) least most → ready.part.private.begun ≡ leave.part.private.begun
      → DriveOutcome shape false held (countdown_tally old) (countdown_tally new) (driven.Done ready receipt)
  left_lock ready new least most exits number =
      let before = countdown_tally old in
      let between = countdown_tally mid in
      let after = countdown_tally new in (
        goes_on shape held leave ready before between after 0 (performed shape held leave before between receipt false finishes) (goes_made shape leave ready between after least most exits),
        finishes_so shape held leave before between receipt ready false finishes exits.stays.entries,
        number ∙ same_number shape held leave before between receipt false finishes,
      )

  pub fell_leaving : (down : SeatView) (new : Countdown) (most : ℕ) → CallFell (call_of shape leave down mid new) most → DriveOutcome shape false held (countdown_tally old) (countdown_tally new) (driven.Fell down)
  fell_leaving down new most falls =
      let before = countdown_tally old in
      let between = countdown_tally mid in
      let after = countdown_tally new in
      goes_on shape held leave down before between after 1 (performed shape held leave before between receipt false finishes) (goes_fell shape leave down between after most falls)

  pub known_place : HasKnownPlace (Held held) (outcome.Receipt receipt)
  known_place = finishes.2.finishes.place
