-- A worker that is driven by one call after another.
use Rattle.std.proofs.Common.{◌≡◌, ℕ, ◌∙◌, [], ◌∷◌, ◌++◌, refl, sym, ap, subst, arith}
use Rattle.std.specs.Prelude.{Bool, true, false, Option, Some, None}
use Rattle.rme_words.specs.declared.shape.Shape.{Shape}
use Rattle.rme_program.specs.declared.note.Note.TheVariants.{Entered}
use Rattle.rme_program.specs.declared.note.Receipt.{Receipt}
use Rattle.rme_program.specs.declared.private.Private.{Private}
use Rattle.rme_service_steps.specs.Chances.{QuestionsAreCounted, ChanceCounts}
use Rattle.rme_service_steps.specs.CallSteps.{seat_call, CallFell}
use Rattle.rme_service_steps.specs.Parts.{draft_script, unchanged_part}
use Rattle.rme_service_steps.specs.declared.seat_record.Part.{Part}
use Rattle.rme_service_steps.specs.SeatViews.{ServiceId, SeatView}
use Rattle.rme_service_steps.proofs.Chains.{walks_then}
use Rattle.rme_table.specs.Calls.{CallIsDone, PartOwnsLock, PerformContract, is_section_over}
use Rattle.rme_table.specs.Driving.{DriveDoesNotWait, DriveOutcome, WaitsAfterAllSweeps, JobIsFinished, DriveSteps, FinishesJobNow, GateWasAsked, SeatStillHasJob, GateStopsAtEntry, GateStopsInside}
use Rattle.rme_table.specs.declared.driving.Driven.{Driven}
use Rattle.rme_table.specs.declared.driving.SweepTries.{SweepTries}
use Rattle.rme_table.specs.declared.driving.Driven.TheVariants.{Done, Waits, Stopped, Fell}

pub goes_on : (s : Shape) (a b c : SeatView) (t u v : ChanceCounts) (falls : ℕ) → DriveSteps s a b t u 0 → DriveSteps s b c u v falls → DriveSteps s a c t v falls
goes_on s a b c t u v falls one two =
    record { ident = two.ident ∙ one.ident; own = two.own ∙ one.own; walks = walks_then s a b c t u v falls one.walks two.walks }

-- No step was made yet.
counted_none : (count : Option ℕ) → QuestionsAreCounted count count 0
counted_none None = tt
counted_none (Some x) = omega arith

pub goes_none : (s : Shape) (a : SeatView) (t : ChanceCounts) → DriveSteps s a a t t 0
goes_none s a t = record {
  ident = refl;
  own = refl;
  walks = record { values = []; walk = refl; found = tt; steps = omega arith; asks = record { yes = omega arith; asked = counted_none t.questions } };
}

pub goes_made : (s : Shape) (a b : SeatView) (t u : ChanceCounts) (least most : ℕ) → CallIsDone (seat_call s unchanged_part a b t u) least most → DriveSteps s a b t u 0
goes_made s a b t u least most made = record { ident = made.stays.ident; own = made.stays.own; walks = made.walks }

pub goes_fell : (s : Shape) (a b : SeatView) (t u : ChanceCounts) (most : ℕ) → CallFell (seat_call s unchanged_part a b t u) most → DriveSteps s a b t u 1
goes_fell s a b t u most fell = record { ident = fell.ident; own = fell.own; walks = fell.walks }

pub still_on : (a b c : SeatView) → SeatStillHasJob a b → SeatStillHasJob b c → SeatStillHasJob a c
still_on a b c one two = record { draft = two.draft ∙ one.draft; entries = two.entries ∙ one.entries; number = two.number ∙ one.number }

pub still_made : (s : Shape) (a b : SeatView) (t u : ChanceCounts) (least most : ℕ) → CallIsDone (seat_call s unchanged_part a b t u) least most → b.part.private.begun ≡ a.part.private.begun → SeatStillHasJob a b
still_made s a b t u least most made number = record { draft = made.stays.draft; entries = made.stays.entries; number = number }

-- A worker that still had its job was driven.
module _ (s : Shape) (a b : SeatView) (t u v : ChanceCounts) (one : DriveSteps s a b t u 0) (still : SeatStillHasJob a b) where
  finished_on : (ready : SeatView) (receipt : Receipt) → FinishesJobNow b ready receipt → FinishesJobNow a ready receipt
  finished_on ready receipt its = record {
    job = its.job;
    draft = sym still.draft ∙ its.draft;
    entries = its.entries ∙ ap (λ es. es ++ record { receipt = receipt; script = its.job.script } ∷ []) still.entries;
    by = its.by ∙ one.own;
    number = its.number ∙ still.number;
    lock = its.lock;
  }

  pub drives_on : (driven : Driven) → DriveOutcome s false b u v driven → DriveOutcome s false a t v driven
  drives_on (Done ready receipt) (went, its, number) = (goes_on s a b ready t u v 0 one went, finished_on ready receipt its, number ∙ still.number)
  drives_on (Waits climb) (went, has) = (goes_on s a b climb t u v 0 one went, still_on a b climb still has)
  drives_on (Stopped held) (went, has) = (goes_on s a b held t u v 0 one went, still_on a b held still has)
  drives_on (Fell down) went = goes_on s a b down t u v 1 one went

-- The section, and then the exit.
module _ (s : Shape) (start leave : SeatView) (t u : ChanceCounts) (receipt : Receipt) where
  same_goes : leave ≡ start → u ≡ t → DriveSteps s start leave t u 0
  same_goes same unasked =
      let P : SeatView → Type 0 = λ x. DriveSteps s start x t u 0 in
      let Q : ChanceCounts → Type 0 = λ x. DriveSteps s start start t x 0 in subst P (sym same) (subst Q (sym unasked) (goes_none s start t))

  pub performed : (over : Bool) → PerformContract over (seat_call s unchanged_part start leave t u) receipt → DriveSteps s start leave t u 0
  performed true told = same_goes told.idles.same told.idles.unasked
  performed false (job, draft, performs, owns) = let f = performs.finishes in record { ident = f.ident; own = f.own; walks = f.walks }

  pub finishes_so : (ready : SeatView) (over : Bool) → PerformContract over (seat_call s unchanged_part start leave t u) receipt → ready.part.entries ≡ leave.part.entries → JobIsFinished over start ready receipt
  finishes_so ready true told same = record {
    before = told.before;
    last = told.last;
    entries = told.entries;
    same = same ∙ ap (λ (x : SeatView). x.part.entries) told.idles.same;
    told = told.receipt_is;
  }
  finishes_so ready false (job, draft, performs, owns) same =
      let f = performs.finishes in record {
        job = job;
        draft = draft;
        entries = same ∙ f.entries ∙ ap (λ d. start.part.entries ++ record { receipt = receipt; script = draft_script d } ∷ []) draft;
        by = f.by;
        number = f.number;
        lock = f.at_lock;
      }

  pub same_number : (over : Bool) → PerformContract over (seat_call s unchanged_part start leave t u) receipt → leave.part.private.begun ≡ start.part.private.begun
  same_number true told = ap (λ (x : SeatView). x.part.private.begun) told.idles.same
  same_number false (job, draft, performs, owns) = ap (λ (q : Private). q.begun) performs.finishes.at.private

-- A worker that owned the lock makes no further sweep.
pub exhausts_owning : (start : SeatView) (old new : SweepTries) (driven : Driven) → DriveDoesNotWait driven → WaitsAfterAllSweeps start old new driven
exhausts_owning start old new (Done ready receipt) owns = tt
exhausts_owning start old new (Waits climb) owns = absurd owns
exhausts_owning start old new (Stopped held) owns = tt
exhausts_owning start old new (Fell down) owns = tt

-- A worker that had just entered is stopped there.
pub stops_inside : (start : SeatView) (driven : Driven) → ((lock : ℕ) × (start.part.note ≡ Entered lock)) → GateStopsAtEntry start driven → GateStopsInside driven
stops_inside start (Done ready receipt) entered stops = tt
stops_inside start (Waits climb) entered stops = tt
stops_inside start (Stopped held) entered (same, pending) =
    let P : SeatView → Type 0 = λ x. ((lock : ℕ) × (x.part.note ≡ Entered lock)) × (is_section_over x.part.private.stage ≡ false) in subst P (sym same) (entered, pending)
stops_inside start (Fell down) entered stops = tt

-- The gate was asked about the worker and the lock that its value names.
pub asked_so : (answered : ℕ → ℕ → Bool → Type 0) (ident now : ServiceId) (part : Part) (worker lock : ℕ) (answer : Bool) → ident ≡ now → worker ≡ part.worker → PartOwnsLock ident.shape part lock
    → answered worker lock answer → GateWasAsked answered now.shape part.worker answer
asked_so answered ident now part worker lock answer same own owns asked = record {
  part = part;
  lock = lock;
  own = refl;
  owns = subst (λ (i : ServiceId). PartOwnsLock i.shape part lock) same owns;
  asked = subst (λ (w : ℕ). answered w lock answer) own asked;
}
