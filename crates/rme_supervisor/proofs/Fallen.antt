-- The falls of a plan: consecutive lives, with the Chance's questions before the own steps of each.
use Rattle.std.proofs.Common.{◌≡◌, ◌≢◌, ℕ, ◌+◌, ◌-◌, ◌<◌, ◌≤◌, List, length, get_or, sym, ◌∙◌, ap, subst, arith}
use Rattle.std.specs.Prelude.{Bool, Option, Some, None, Result, Ok, Err, slice_get}
use Rattle.std.proofs.lemmas.Option.{same_Some, slice_get-get_or, slice_get_within}
use Rattle.rme_words.specs.declared.shape.Shape.{Shape}
use Rattle.rme_service_steps.specs.declared.seat_record.Part.{Part}
use Rattle.rme_service_steps.specs.Chances.{ChanceWasAsked, QuestionsAreCounted, ChanceCounts}
use Rattle.rme_service_steps.specs.CallSteps.{seat_call, SeatStepSequence}
use Rattle.rme_service_steps.specs.Parts.{unchanged_part}
use Rattle.rme_service_steps.specs.SeatViews.{SeatView}
use Rattle.rme_table.specs.Driving.{DriveOutcome}
use Rattle.rme_table.specs.declared.driving.Driven.{Driven}
use Rattle.rme_table.specs.declared.driving.Driven.TheVariants as driven
use Rattle.rme_supervisor.specs.declared.fall_countdown.FallCountdown.{FallCountdown}
use Rattle.rme_supervisor.specs.declared.fall_countdown.FallCountdown.TheVariants.{Never, After, Fallen}
use Rattle.rme_supervisor.specs.declared.life_stop.LifeStop.{LifeStop}
use Rattle.rme_supervisor.specs.declared.life_stop.LifeStop.TheVariants as stop
use Rattle.rme_supervisor.specs.Falling.{LivesFellAt, CountdownWasAsked, IsNextFall, LastLifeStoodAt, counts_of_countdown}
use Rattle.rme_supervisor.specs.Plans.{CountsRise}
use Rattle.rme_supervisor.specs.Stops.{LifeSteps, drive_result}

-- Questions that were asked in sequence.
counted_on : (a b c : Option ℕ) (m n : ℕ) → QuestionsAreCounted a b m → QuestionsAreCounted b c n → QuestionsAreCounted a c (m + n)
counted_on None None None m n one two = tt
counted_on None None (Some z) m n one two = absurd two
counted_on None (Some y) c m n one two = absurd one
counted_on (Some x) None None m n one two = tt
counted_on (Some x) None (Some z) m n one two = absurd two
counted_on (Some x) (Some y) None m n one two = tt
counted_on (Some x) (Some y) (Some z) m n one two = omega (arith, one, two)

counted_none : (a : Option ℕ) → QuestionsAreCounted a a 0
counted_none None = tt
counted_none (Some x) = omega arith

pub asked_idle : (a b : FallCountdown) (x y : SeatView) → y ≡ x → counts_of_countdown b ≡ counts_of_countdown a → CountdownWasAsked a b x y 0
asked_idle a b x y same unasked = record {
  made = 0;
  steps = let still : y.part.steps ≡ x.part.steps = ap (λ (z : SeatView). z.part.steps) same in omega (arith, still);
  asks = let P : ChanceCounts → Type 0 = λ (t : ChanceCounts). ChanceWasAsked (counts_of_countdown a) t 0 0 in subst P (sym unasked) (record { yes = omega arith; asked = counted_none (counts_of_countdown a).questions });
}

pub asked_on : (a b c : FallCountdown) (x y z : SeatView) (falls : ℕ) → CountdownWasAsked a b x y 0 → CountdownWasAsked b c y z falls → CountdownWasAsked a c x z falls
asked_on a b c x y z falls one two = record {
  made = one.made + two.made;
  steps = let first = one.steps in let then_ = two.steps in omega (arith, first, then_);
  asks = record {
    yes = let first = one.asks.yes in let then_ = two.asks.yes in omega (arith, first, then_);
    asked =
        let all : one.made + 0 + (two.made + falls) ≡ one.made + two.made + falls = omega arith in
        subst (λ (n : ℕ). QuestionsAreCounted (counts_of_countdown a).questions (counts_of_countdown c).questions n) all
        (counted_on (counts_of_countdown a).questions (counts_of_countdown b).questions (counts_of_countdown c).questions (one.made + 0) (two.made + falls) one.asks.asked two.asks.asked);
  };
}

pub asked_walks : (s : Shape) (lead : Part → Part) (a b : FallCountdown) (x y : SeatView) (falls : ℕ) → SeatStepSequence (seat_call s lead x y (counts_of_countdown a) (counts_of_countdown b)) falls → CountdownWasAsked a b x y falls
asked_walks s lead a b x y falls walks = record { made = length walks.values; steps = walks.steps; asks = walks.asks }

-- A life, or a part of one, so far.
pub fared_on : (a b c : FallCountdown) (x y : SeatView) (r : Result SeatView LifeStop) → CountdownWasAsked a b x y 0 → LifeSteps b c y r → LifeSteps a c x r
fared_on a b c x y (Ok ready) one two = asked_on a b c x y ready 0 one two
fared_on a b c x y (Err (stop.Fell down)) one two = asked_on a b c x y down 1 one two
fared_on a b c x y (Err (stop.Ended down end)) one two = asked_on a b c x y down 0 one two

pub fared_driven : (s : Shape) (over : Bool) (a b : FallCountdown) (start : SeatView) (its : Driven) → DriveOutcome s over start (counts_of_countdown a) (counts_of_countdown b) its → LifeSteps a b start (drive_result its)
fared_driven s over a b start (driven.Done ready receipt) drives = asked_walks s unchanged_part a b start ready 0 drives.0.walks
fared_driven s over a b start (driven.Waits climb) drives = asked_walks s unchanged_part a b start climb 0 drives.0.walks
fared_driven s over a b start (driven.Stopped held) drives = asked_walks s unchanged_part a b start held 0 drives.0.walks
fared_driven s over a b start (driven.Fell down) drives = asked_walks s unchanged_part a b start down 1 drives.walks

-- A fall is due after exactly the planned number of own steps.
due : (left : ℕ) (new : FallCountdown) (made : ℕ) → left < 4294967296 → ChanceWasAsked (counts_of_countdown (After left)) (counts_of_countdown new) (made + 1) 1 → made ≡ left
due left Never made small asks = absurd (let yes = asks.yes in omega (arith, yes))
due left (After rest) made small asks = absurd (let yes = asks.yes in omega (arith, yes))
due left Fallen made small asks = let asked = asks.asked in omega (arith, small, asked)

-- Without a fall there were at most that many.
spared : (left : ℕ) (new : FallCountdown) (made : ℕ) → left < 4294967296 → ChanceWasAsked (counts_of_countdown (After left)) (counts_of_countdown new) (made + 0) 0 → made ≤ left
spared left Never made small asks = absurd (let yes = asks.yes in omega (arith, yes))
spared left (After rest) made small asks = let asked = asks.asked in omega (arith, small, asked)
spared left Fallen made small asks = absurd (let yes = asks.yes in omega (arith, yes))

never_falls : (new : FallCountdown) (made : ℕ) → ChanceWasAsked (counts_of_countdown Never) (counts_of_countdown new) (made + 1) 1 → ⊥
never_falls Never made asks = let yes = asks.yes in omega (arith, yes)
never_falls (After rest) made asks = let yes = asks.yes in omega (arith, yes)
never_falls Fallen made asks = let yes = asks.yes in omega (arith, yes)

module _ (counts : List ℕ) (lives before made : ℕ) (fell : LivesFellAt counts lives before) where
  -- A life that ended at a fall ended at the plan's next one.
  pub fell_next : (falls new : FallCountdown) → IsNextFall counts lives falls → ChanceWasAsked (counts_of_countdown falls) (counts_of_countdown new) (made + 1) 1 → LivesFellAt counts (lives + 1) (before + made)
  fell_next Never new next asks = absurd (never_falls new made asks)
  fell_next (After left) new next asks =
      let steps : made ≡ left = due left new made next.0 asks in
      let place : lives + 1 - 1 ≡ lives = omega arith in record {
        none = λ none. absurd (omega (arith, none));
        last = λ some. ap (slice_get counts) place ∙ next.2 before fell ∙ ap (λ (n : ℕ). Some (before + n)) (sym steps);
      }
  fell_next Fallen new next asks = absurd next

  -- A life that did not end at a fall went no further than the next one.
  pub stood_next : (falls new : FallCountdown) → IsNextFall counts lives falls → ChanceWasAsked (counts_of_countdown falls) (counts_of_countdown new) (made + 0) 0 → LastLifeStoodAt counts (lives + 1) (before + made)
  stood_next falls new next asks =
      let place : lives ≡ lives + 1 - 1 = omega arith in record {
        before = before;
        fell = subst (λ (n : ℕ). LivesFellAt counts n before) place fell;
        past = omega arith;
        next = λ count at. by_fall falls next asks count (ap (slice_get counts) place ∙ at);
      }
    where
      by_fall : (its : FallCountdown) → IsNextFall counts lives its → ChanceWasAsked (counts_of_countdown its) (counts_of_countdown new) (made + 0) 0 → (count : ℕ) → slice_get counts lives ≡ Some count → before + made ≤ count
      by_fall Never over asked count at = absurd (let within : lives < length counts = slice_get_within counts lives count at in omega (arith, within, over))
      by_fall (After left) is asked count at =
          let few : made ≤ left = spared left new made is.0 asked in
          let same : before + left ≡ count = same_Some _ _ (sym (is.2 before fell) ∙ at) in
          omega (arith, few, same)
      by_fall Fallen is asked count at = absurd is

-- A plan has a fall for each life that ended at one.
pub fell_within : (counts : List ℕ) (lives made : ℕ) (falls new : FallCountdown) → IsNextFall counts lives falls → ChanceWasAsked (counts_of_countdown falls) (counts_of_countdown new) (made + 1) 1 → lives < length counts
fell_within counts lives made Never new next asks = absurd (never_falls new made asks)
fell_within counts lives made (After left) new next asks = next.1
fell_within counts lives made Fallen new next asks = absurd next

-- The next fall of a plan, after the first ones.
module _ (counts : List ℕ) (lives : ℕ) (rising : CountsRise counts) (some : lives ≢ 0) (within : lives < length counts) where
  last_at : slice_get counts (lives - 1) ≡ Some (get_or counts (lives - 1) 0)
  last_at = slice_get-get_or counts (lives - 1) 0 (omega (arith, within))

  next_at : slice_get counts lives ≡ Some (get_or counts lives 0)
  next_at = slice_get-get_or counts lives 0 within

  pub rises : get_or counts (lives - 1) 0 < get_or counts lives 0
  rises =
      let place : lives ≡ lives - 1 + 1 = omega (arith, some) in
      rising (lives - 1) _ _ last_at (subst (λ (n : ℕ). slice_get counts n ≡ Some (get_or counts lives 0)) place next_at)

  pub next_fall : get_or counts lives 0 < 4294967296 → IsNextFall counts lives (After (get_or counts lives 0 - get_or counts (lives - 1) 0))
  next_fall fits = (
    omega (arith, fits),
    within,
    λ made fell.
        let same : made ≡ get_or counts (lives - 1) 0 = same_Some _ _ (sym (fell.last (omega (arith, some))) ∙ last_at) in
        let rise = rises in
        let all : get_or counts lives 0 ≡ made + (get_or counts lives 0 - get_or counts (lives - 1) 0) = omega (arith, same, rise) in
        next_at ∙ ap (λ (n : ℕ). Some n) all,
  )
