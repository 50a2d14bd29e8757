-- Walks, and plans that are ticked before each of their own steps.
use Rattle.std.proofs.Common.{◌≡◌, ℕ, ◌+◌, ◌<◌, List, [], ◌∷◌, length, Result, Ok, Err, refl, ap, subst, ◌∙◌, arith}
use Rattle.std.specs.Prelude.{Option, Some, None}
use Rattle.rme_words.specs.declared.shape.Shape.{Shape}
use Rattle.rme_service_steps.specs.declared.seat_record.Part.{Part}
use Rattle.rme_service_steps.specs.Chances.{ChanceWasAsked, ChanceCounts}
use Rattle.rme_service_steps.specs.CallSteps.{seat_call, SeatStepSequence}
use Rattle.rme_service_steps.specs.Parts.{part_after_change, part_after_step, part_after_steps, part_with_section, unchanged_part}
use Rattle.rme_service_steps.specs.SeatViews.{SeatView}
use Rattle.rme_service_steps.proofs.Chains.{led_then}
use Rattle.rme_session_protocol.specs.declared.reply.JobOutcome.{JobOutcome}
use Rattle.rme_session_protocol.specs.PlannedCrashes.{IsCrashDue, PlanAfterSteps}
use Rattle.rme_session_protocol.proofs.Counting.{due_on, left_on}
use Rattle.rme_session_threads.specs.CrashPlans.{countdown_tally}
use Rattle.rme_session_threads.specs.Stands.{held_worker}
use Rattle.rme_session_threads.specs.SessionWorks.{CountdownCrashes, CountdownSpares, WorkSpendsCountdown}
use Rattle.rme_session_threads.specs.JobOutcomes.{PlanCrashes, HasMadeOwnSteps, PlanSpares, OwnStepsBetween, OwnStepsThenLoad, part_when_told, seat_with_section, stand_steps}
use Rattle.rme_session_threads.specs.declared.stand.Holding.{Holding}
use Rattle.rme_session_protocol.specs.declared.planned_crash.Countdown.{Countdown}
use Rattle.rme_session_protocol.specs.declared.planned_crash.Countdown.TheVariants.{Runs, Fallen}
use Rattle.rme_session_protocol.specs.declared.planned_crash.PlannedCrash.{PlannedCrash}
use Rattle.rme_session_protocol.specs.declared.planned_crash.PlannedCrash.TheVariants.{Nothing, After}

left_after : (old now : PlannedCrash) (made : ℕ) → ChanceWasAsked (countdown_tally (Runs old)) (countdown_tally (Runs now)) made 0 → PlanAfterSteps old made now
left_after Nothing Nothing made asks = tt
left_after Nothing (After rest) made asks = absurd (let yes = asks.yes in omega (arith, yes))
left_after (After left) Nothing made asks = absurd (let yes = asks.yes in omega (arith, yes))
left_after (After left) (After rest) made asks = λ small. (let asked = asks.asked in omega (arith, small, asked))

not_fallen : (old : PlannedCrash) (made : ℕ) → ChanceWasAsked (countdown_tally (Runs old)) (countdown_tally Fallen) made 0 → ⊥
not_fallen Nothing made asks = let yes = asks.yes in omega (arith, yes)
not_fallen (After left) made asks = let yes = asks.yes in omega (arith, yes)

due_after : (old : PlannedCrash) (now : Countdown) (made : ℕ) → ChanceWasAsked (countdown_tally (Runs old)) (countdown_tally now) (made + 1) 1 → IsCrashDue old made
due_after Nothing (Runs Nothing) made asks = let yes = asks.yes in omega (arith, yes)
due_after Nothing (Runs (After rest)) made asks = let yes = asks.yes in omega (arith, yes)
due_after Nothing Fallen made asks = let yes = asks.yes in omega (arith, yes)
due_after (After left) (Runs Nothing) made asks = absurd (let yes = asks.yes in omega (arith, yes))
due_after (After left) (Runs (After rest)) made asks = absurd (let yes = asks.yes in omega (arith, yes))
due_after (After left) Fallen made asks = λ small. (let asked = asks.asked in omega (arith, small, asked))

-- A walk, without the count of its ticks.
abbrev pub uncounted : ChanceCounts
uncounted = record { yeses = 0; questions = None }

module _ (shape : Shape) (lead : Part → Part) (start now : SeatView) where
  pub walked_by : (old new : ChanceCounts) (falls : ℕ) (walks : SeatStepSequence (seat_call shape lead start now old new) falls) → now.ident ≡ start.ident → now.part.worker ≡ start.part.worker
      → HasMadeOwnSteps shape lead unchanged_part start now (length walks.values)
  walked_by old new falls walks ident own =
      record { ident = ident; own = own; values = walks.values; walk = walks.walk; found = walks.found; count = refl; steps = walks.steps }

  as_walk : (made : ℕ) → HasMadeOwnSteps shape lead unchanged_part start now made → SeatStepSequence (seat_call shape lead start now uncounted uncounted) 0
  as_walk made its = record {
    values = its.values;
    walk = its.walk;
    found = its.found;
    steps = omega (arith, its.steps, its.count);
    asks = record { yes = omega arith; asked = tt };
  }

  pub spared : (old new : Countdown) → SeatStepSequence (seat_call shape lead start now (countdown_tally old) (countdown_tally new)) 0 → now.ident ≡ start.ident → now.part.worker ≡ start.part.worker
      → CountdownSpares shape lead unchanged_part old (Some start) new (Some now)
  spared (Runs old) (Runs new) walks ident own =
      let all : length walks.values + 0 ≡ length walks.values = omega arith in (
        length walks.values,
        walked_by (countdown_tally (Runs old)) (countdown_tally (Runs new)) 0 walks ident own,
        left_after old new (length walks.values) (subst (λ (n : ℕ). ChanceWasAsked (countdown_tally (Runs old)) (countdown_tally (Runs new)) n 0) all walks.asks),
      )
  spared (Runs old) Fallen walks ident own = not_fallen old (length walks.values + 0) walks.asks
  spared Fallen new walks ident own = tt

  pub fallen : (old new : Countdown) → SeatStepSequence (seat_call shape lead start now (countdown_tally old) (countdown_tally new)) 1 → now.ident ≡ start.ident → now.part.worker ≡ start.part.worker
      → CountdownCrashes shape lead old (Some start) (Some now)
  fallen (Runs old) new walks ident own = (length walks.values, walked_by (countdown_tally (Runs old)) (countdown_tally new) 1 walks ident own, due_after old new (length walks.values) walks.asks)
  fallen Fallen new walks ident own = tt

-- Each value is that of one own step.
steps_after : (shape : Shape) (part : Part) (values : List ℕ) → (part_after_steps shape part values).steps ≡ part.steps + length values
steps_after shape part [] = omega arith
steps_after shape part (value ∷ values) = let rest = steps_after shape (part_after_step shape part value) values in omega (arith, rest)

steps_after_change : (shape : Shape) (part : Part) (values : List ℕ) → (part_after_change shape unchanged_part part values).steps ≡ part.steps + length values
steps_after_change shape part [] = omega arith
steps_after_change shape part (value ∷ values) = steps_after shape part (value ∷ values)

-- One walk after another, and what the worker learned at the end.
module _ (shape : Shape) (lead learns : Part → Part) (a b c : SeatView) (m n : ℕ) where
  pub walked_on : 0 < m → HasMadeOwnSteps shape lead unchanged_part a b m → HasMadeOwnSteps shape unchanged_part learns b c n → HasMadeOwnSteps shape lead learns a c (m + n)
  walked_on some one two =
      let first = as_walk shape lead a b m one in
      let more : 0 < length first.values = (let count = one.count in omega (arith, count, some)) in
      let end : SeatView = record { ident = c.ident; part = part_after_change shape unchanged_part b.part two.values } in
      let last : SeatStepSequence (seat_call shape unchanged_part b end uncounted uncounted) 0 = record {
        values = two.values;
        walk = refl;
        found = two.found;
        steps = steps_after_change shape b.part two.values;
        asks = record { yes = omega arith; asked = tt };
      } in
      let both = led_then shape a b end uncounted uncounted uncounted 0 lead first last more in
      let ones = one.steps in
      let twos = two.steps in
      let lasts = last.steps in
      let counts = two.count in
      let all = both.steps in record {
        ident = two.ident ∙ one.ident;
        own = two.own ∙ one.own;
        values = both.values;
        walk = two.walk ∙ ap (λ (part : Part). learns part) both.walk;
        found = both.found;
        count = omega (arith, all, ones, lasts, counts);
        steps = omega (arith, ones, twos);
      }

-- The load that makes a token comes after the steps.
module _ (shape : Shape) (lead : Part → Part) (start now : SeatView) (section : ℕ) where
  loaded : (made : ℕ) → HasMadeOwnSteps shape lead unchanged_part start now made → HasMadeOwnSteps shape lead (λ (part : Part). part_with_section part section) start (seat_with_section now section) made
  loaded made its = record {
    ident = its.ident;
    own = its.own;
    values = its.values;
    walk = ap (λ (part : Part). part_with_section part section) its.walk;
    found = its.found;
    count = its.count;
    steps = its.steps;
  }

  pub spares_loaded : (old new : Countdown) → CountdownSpares shape lead unchanged_part old (Some start) new (Some now)
      → CountdownSpares shape lead (λ (part : Part). part_with_section part section) old (Some start) new (Some (seat_with_section now section))
  spares_loaded (Runs old) (Runs new) (made, went, left) = (made, loaded made went, left)
  spares_loaded (Runs old) Fallen spares = absurd spares
  spares_loaded Fallen new spares = tt

module _ (shape : Shape) (lead : Part → Part) where
  pub went_on : (learns : Part → Part) (start mid end : Option SeatView) (m n : ℕ) → 0 < m → OwnStepsBetween shape lead start mid m → OwnStepsThenLoad shape unchanged_part learns mid end n
      → OwnStepsThenLoad shape lead learns start end (m + n)
  went_on learns (Some a) (Some b) (Some c) m n some one two = walked_on shape lead learns a b c m n some one two
  went_on learns (Some a) (Some b) None m n some one two = absurd two
  went_on learns (Some a) None end m n some one two = absurd one
  went_on learns None mid end m n some one two = absurd one

  -- Some step was made.
  some_made : (start mid : Option SeatView) (m : ℕ) → OwnStepsBetween shape lead start mid m → stand_steps start < stand_steps mid → 0 < m
  some_made (Some a) (Some b) m went more = let steps = went.steps in omega (arith, steps, more)
  some_made (Some a) None m went more = absurd went
  some_made None mid m went more = absurd went

  module _ (old mid : PlannedCrash) (start between : Option SeatView) (more : stand_steps start < stand_steps between) (so : PlanSpares shape lead unchanged_part old start mid between) where
    pub spared_on : (learns : Part → Part) (now : PlannedCrash) (end : Option SeatView) → PlanSpares shape unchanged_part learns mid between now end → PlanSpares shape lead learns old start now end
    spared_on learns now end (made, went, left) =
        (so.0 + made, went_on learns start between end so.0 made (some_made start between so.0 so.1 more) so.1 went, left_on old mid now so.0 made so.2 left)

    pub falls_on : (down : Option SeatView) → PlanCrashes shape unchanged_part mid between down → PlanCrashes shape lead old start down
    falls_on down (made, went, due) =
        (so.0 + made, went_on unchanged_part start between down so.0 made (some_made start between so.0 so.1 more) so.1 went, due_on old mid so.0 made so.2 due)

  module _ (start between : Option SeatView) (more : stand_steps start < stand_steps between) where
    spares_on : (learns : Part → Part) (old mid now : Countdown) (end : Option SeatView) → CountdownSpares shape lead unchanged_part old start mid between → CountdownSpares shape unchanged_part learns mid between now end
        → CountdownSpares shape lead learns old start now end
    spares_on learns (Runs old) (Runs mid) (Runs now) end so its = spared_on old mid start between more so learns now end its
    spares_on learns (Runs old) (Runs mid) Fallen end so its = absurd its
    spares_on learns (Runs old) Fallen now end so its = absurd so
    spares_on learns Fallen mid now end so its = tt

    fells_on : (old mid : Countdown) (down : Option SeatView) → CountdownSpares shape lead unchanged_part old start mid between → CountdownCrashes shape unchanged_part mid between down → CountdownCrashes shape lead old start down
    fells_on (Runs old) (Runs mid) down so its = falls_on old mid start between more so down its
    fells_on (Runs old) Fallen down so its = absurd so
    fells_on Fallen mid down so its = tt

    pub spent_on : (old mid now : Countdown) (worked : Result (Holding × JobOutcome) SeatView) → CountdownSpares shape lead unchanged_part old start mid between → WorkSpendsCountdown shape unchanged_part mid between now worked
        → WorkSpendsCountdown shape lead old start now worked
    spent_on old mid now (Ok done) so spent = spares_on (part_when_told done.1) old mid now (held_worker done.0) so spent
    spent_on old mid now (Err down) so spent = fells_on old mid (Some down) so spent

-- Without a step no lead was applied.
pub stayed : (shape : Shape) (lead other : Part → Part) (start : SeatView) (made : ℕ) → HasMadeOwnSteps shape lead unchanged_part start start made → HasMadeOwnSteps shape other unchanged_part start start made
stayed shape lead other start made its =
    let none : made ≡ 0 = (let steps = its.steps in omega (arith, steps)) in
    record { ident = refl; own = refl; values = []; walk = refl; found = tt; count = omega (arith, none); steps = its.steps }
