-- The exit after a section: from the load of the turn to the release of the whole path.
use Rattle.std.proofs.Common.{◌≡◌, ◌≢◌, ℕ, ◌+◌, ◌%◌, ◌^◌, ◌<◌, ◌≤◌, refl, sym, ◌∙◌, ap, subst, arith}
use Rattle.std.proofs.lemmas.Bool.{eq-eqb, ne_eqb}
use Rattle.rme_words.specs.declared.shape.Shape.{Shape}
use Rattle.rme_words.specs.declared.address.Address.TheVariants.{Turn}
use Rattle.rme_program.specs.declared.stage.Stage.{Stage}
use Rattle.rme_program.specs.declared.stage.Stage.TheVariants.{Resting, Leaving}
use Rattle.rme_program.specs.declared.stage.Departure.TheVariants.{LoadExitTurn, StoreExitTurn, Clear}
use Rattle.rme_program.specs.Steps.{clear_stage, exit_stage}
use Rattle.rme_service_steps.specs.Layout.{position_of_address}
use Rattle.rme_service_steps.specs.declared.seat_record.Part.{Part}
use Rattle.rme_service_steps.specs.Parts.{unchanged_part}
use Rattle.rme_service_steps.specs.Chances.{ChanceCounts}
use Rattle.rme_service_steps.specs.SeatViews.{SeatView}
use Rattle.rme_service_steps.specs.CallSteps.{seat_call, PartIsBeforeStage, CallProgress, CallFell, FellBeforeStep, OwnStepWasMade, LoadIsAllowed, StoreIsAllowed}
use Rattle.rme_service_steps.proofs.Chains.{did, then_on, falls_on, falls_at, may_load, may_store, is_stage, takes_value}
use Rattle.rme_service_phases.proofs.Clearing.{clearing_at}
use Rattle.rme_service_phases.proofs.Joins.{call_on}

module _ (s : Shape) (p : Part) (lock : ℕ) (at : PartIsBeforeStage s p (Leaving (LoadExitTurn lock))) where
  pub exit_lock : (x : Shape) → x ≡ s → lock < x.locks
  exit_lock x same = subst (λ (y : Shape). lock < y.locks) (sym same) (is_stage s p p.private.begun (Leaving (LoadExitTurn lock)) at)

  pub exit_may : (x : Shape) (number : ℕ) → x ≡ s → number ≡ position_of_address x (Turn lock) → LoadIsAllowed s unchanged_part p number
  exit_may x number same its =
      may_load s p p.private.begun (Leaving (LoadExitTurn lock)) at (Turn lock) number refl refl (exit_lock s refl) (its ∙ ap (λ (y : Shape). position_of_address y (Turn lock)) same)

module _ (s : Shape) (a : SeatView) (t : ChanceCounts) (lock : ℕ) (at : PartIsBeforeStage s a.part (Leaving (LoadExitTurn lock))) where
  module _ (b : SeatView) (u : ChanceCounts) (turn : ℕ) (made : OwnStepWasMade (seat_call s unchanged_part a b t u) turn) where
    pub exit_turn : turn < 2 ^ 32
    exit_turn = takes_value s a.part turn a.part.private.begun (Leaving (LoadExitTurn lock)) made.told at (λ e. cc)

    exit_loaded : CallProgress (seat_call s unchanged_part a b t u) 1 a.part.private.begun (exit_stage s lock turn)
    exit_loaded = did s a b t u turn made at refl refl refl

    whole_path : clear_stage lock s.height ≡ Leaving (Clear lock s.height)
    whole_path = clearing_at lock s.height s.counted.tree.some_level

    -- The turn is even: the section's was counted on already.
    exit_even : turn % 2 ≡ 0 → CallProgress (seat_call s unchanged_part a b t u) 1 a.part.private.begun (clear_stage lock s.height)
    exit_even even = subst (λ (st : Stage). CallProgress (seat_call s unchanged_part a b t u) 1 a.part.private.begun st) (rw (eq-eqb (turn % 2) 0 even) (sym whole_path)) exit_loaded

    module _ (c : SeatView) (v : ChanceCounts) (even : turn % 2 ≡ 0) (levels : ℕ) (few : levels ≡ s.height) where
      pub even_ends : CallProgress (seat_call s unchanged_part b c u v) levels b.part.private.begun Resting → (count : ℕ) × (s.height + 1 ≤ count) × (count ≤ s.height + 2) × CallProgress (seat_call s unchanged_part a c t v) count a.part.private.begun Resting
      even_ends cleared = (1 + levels, omega (arith, few), omega (arith, few), call_on s a b c t u v (exit_even even) cleared)

      pub even_falls : CallFell (seat_call s unchanged_part b c u v) levels → CallFell (seat_call s unchanged_part a c t v) (s.height + 2)
      even_falls fell = falls_on s a b c t u v (exit_even even) fell (omega (arith, few))

    -- The turn is odd, and is counted on.
    exit_odd : turn % 2 ≢ 0 → CallProgress (seat_call s unchanged_part a b t u) 1 a.part.private.begun (Leaving (StoreExitTurn lock turn))
    exit_odd odd = subst (λ (st : Stage). CallProgress (seat_call s unchanged_part a b t u) 1 a.part.private.begun st) (rw (ne_eqb (turn % 2) 0 odd) refl) exit_loaded

    pub odd_may : turn % 2 ≢ 0 → (x : Shape) (number : ℕ) → x ≡ s → number ≡ position_of_address x (Turn lock) → StoreIsAllowed s unchanged_part b.part number (turn + 1)
    odd_may odd x number same its = may_store s b.part a.part.private.begun (Leaving (StoreExitTurn lock turn)) (exit_odd odd).at (Turn lock) number (turn + 1) refl refl (exit_lock s a.part lock at s refl)
        (its ∙ ap (λ (y : Shape). position_of_address y (Turn lock)) same)

    pub odd_falls : turn % 2 ≢ 0 → (c : SeatView) (v : ChanceCounts) → FellBeforeStep (seat_call s unchanged_part b c u v) → CallFell (seat_call s unchanged_part a c t v) (s.height + 2)
    odd_falls odd c v fell = falls_on s a b c t u v (exit_odd odd) (falls_at s unchanged_part b c u v 1 fell (omega arith)) (omega arith)

    module _ (odd : turn % 2 ≢ 0) (c : SeatView) (v : ChanceCounts) (stored : OwnStepWasMade (seat_call s unchanged_part b c u v) (turn + 1)) where
      pub exit_stored : CallProgress (seat_call s unchanged_part a c t v) 2 a.part.private.begun (clear_stage lock s.height)
      exit_stored = subst (λ (st : Stage). CallProgress (seat_call s unchanged_part a c t v) 2 a.part.private.begun st) (sym whole_path)
          (then_on s a b c t u v (exit_odd odd) (did s b c u v (turn + 1) stored (exit_odd odd).at refl refl refl))

      module _ (d : SeatView) (w : ChanceCounts) (levels : ℕ) (few : levels ≡ s.height) where
        pub stored_ends : CallProgress (seat_call s unchanged_part c d v w) levels c.part.private.begun Resting → (count : ℕ) × (s.height + 1 ≤ count) × (count ≤ s.height + 2) × CallProgress (seat_call s unchanged_part a d t w) count a.part.private.begun Resting
        stored_ends cleared = (2 + levels, omega (arith, few), omega (arith, few), call_on s a c d t v w exit_stored cleared)

        pub stored_falls : CallFell (seat_call s unchanged_part c d v w) levels → CallFell (seat_call s unchanged_part a d t w) (s.height + 2)
        stored_falls fell = falls_on s a c d t v w exit_stored fell (omega (arith, few))
