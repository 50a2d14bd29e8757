-- The withdrawal of a job: from its first store to the release of the nodes that are held.
use Rattle.std.proofs.Common.{◌≡◌, ℕ, ◌+◌, ◌<◌, refl, sym, ◌∙◌, ap, subst, arith}
use Rattle.rme_words.specs.declared.shape.Shape.{Shape}
use Rattle.rme_words.specs.declared.address.Address.TheVariants.{Place, At, Reply, Done}
use Rattle.rme_program.specs.declared.private.Private.{Private}
use Rattle.rme_program.specs.declared.stage.Stage.TheVariants.{Resting, Climbing, Leaving}
use Rattle.rme_program.specs.declared.stage.Departure.TheVariants.{WithdrawPlace, WithdrawAt, WithdrawReply, WithdrawDone}
use Rattle.rme_program.specs.Steps.{private_action, clear_stage, withdrawn_place, withdrawing_private}
use Rattle.rme_service_steps.specs.Layout.{position_of_address}
use Rattle.rme_service_steps.specs.declared.seat_record.Part.{Part}
use Rattle.rme_service_steps.specs.Parts.{unchanged_part, withdrawing_part}
use Rattle.rme_service_steps.specs.Chances.{ChanceCounts}
use Rattle.rme_service_steps.specs.SeatViews.{SeatView}
use Rattle.rme_service_steps.specs.CallSteps.{seat_call, PartIsBeforeStage, CallProgress, CallFell, FellBeforeStep, OwnStepWasMade, StoreIsAllowed, stage_adds_no_entry}
use Rattle.rme_service_steps.proofs.Leading.{leads_withdraw}
use Rattle.rme_service_steps.proofs.Chains.{did_led, falls_led, falls_at, is_stage}
use Rattle.rme_service_phases.proofs.Joins.{call_led, next_store, next_did, next_fell}

module _ (s : Shape) (p : Part) (lock held : ℕ) (at : PartIsBeforeStage s p (Climbing record { lock = lock; held = held })) where
  gives_up : ◌≡◌ {A = Private} (withdrawing_part p).private record { worker = p.worker; begun = p.private.begun; stage = Leaving (WithdrawPlace lock held) }
  gives_up = ap withdrawing_private at.private

  pub climbs_in : (lock < s.locks) × (held < s.height)
  climbs_in = is_stage s p p.private.begun (Climbing record { lock = lock; held = held }) at

  pub withdraw_may : (x : Shape) (worker number : ℕ) → x ≡ s → worker ≡ p.worker → number ≡ position_of_address x (Place worker) → StoreIsAllowed s withdrawing_part p number withdrawn_place
  withdraw_may x worker number same own its = (
    Place p.worker,
    record {
      may = record {
        leads = leads_withdraw s p record { lock = lock; held = held } (ap (λ (q : Private). q.stage) at.private);
        entries = refl;
        count = refl;
        section = refl;
        here = ap (private_action s) gives_up;
        within = at.stood.worker;
        lies = its ∙ ap (λ (y : Shape). position_of_address y (Place worker)) same ∙ ap (λ (w : ℕ). position_of_address s (Place w)) own;
      };
      plain = ap (λ (q : Private). stage_adds_no_entry q.stage) gives_up;
      draft = refl;
    },
  )

module _ (s : Shape) (a b : SeatView) (t u : ChanceCounts) (lock held : ℕ) (at : PartIsBeforeStage s a.part (Climbing record { lock = lock; held = held })) where
  pub withdraw_fell : FellBeforeStep (seat_call s withdrawing_part a b t u) → CallFell (seat_call s withdrawing_part a b t u) (4 + held)
  withdraw_fell fell = falls_at s withdrawing_part a b t u (4 + held) fell (omega arith)

  module _ (x : Shape) (worker : ℕ) (same : x ≡ s) (own : worker ≡ a.part.worker) (one : OwnStepWasMade (seat_call s withdrawing_part a b t u) withdrawn_place) where
    placed : CallProgress (seat_call s withdrawing_part a b t u) 1 a.part.private.begun (Leaving (WithdrawAt lock held))
    placed = did_led s withdrawing_part a b t u withdrawn_place a.part.private.begun (Leaving (WithdrawPlace lock held)) one (gives_up s a.part lock held at) refl refl refl refl refl refl refl

    pub at_may : (number : ℕ) → number ≡ position_of_address x (At worker) → StoreIsAllowed s unchanged_part b.part number lock
    at_may number its = next_store s withdrawing_part a b t u placed At x worker number refl at.stood.worker same own its lock (λ w. refl)

    module _ (c : SeatView) (v : ChanceCounts) where
      pub at_fell : FellBeforeStep (seat_call s unchanged_part b c u v) → CallFell (seat_call s withdrawing_part a c t v) (4 + held)
      at_fell fell = next_fell s withdrawing_part a b t u placed c v (4 + held) (omega arith) fell (omega arith)

      module _ (two : OwnStepWasMade (seat_call s unchanged_part b c u v) lock) where
        located : CallProgress (seat_call s withdrawing_part a c t v) 2 a.part.private.begun (Leaving (WithdrawReply lock held))
        located = next_did s withdrawing_part a b t u placed c v (omega arith) two refl refl refl

        pub reply_may : (number : ℕ) → number ≡ position_of_address x (Reply worker) → StoreIsAllowed s unchanged_part c.part number 0
        reply_may number its = next_store s withdrawing_part a c t v located Reply x worker number refl at.stood.worker same own its 0 (λ w. refl)

        module _ (d : SeatView) (w : ChanceCounts) where
          pub reply_fell : FellBeforeStep (seat_call s unchanged_part c d v w) → CallFell (seat_call s withdrawing_part a d t w) (4 + held)
          reply_fell fell = next_fell s withdrawing_part a c t v located d w (4 + held) (omega arith) fell (omega arith)

          module _ (three : OwnStepWasMade (seat_call s unchanged_part c d v w) 0) where
            replied : CallProgress (seat_call s withdrawing_part a d t w) 3 a.part.private.begun (Leaving (WithdrawDone lock held))
            replied = next_did s withdrawing_part a c t v located d w (omega arith) three refl refl refl

            pub done_may : (number value : ℕ) → number ≡ position_of_address x (Done worker) → value ≡ a.part.private.begun → StoreIsAllowed s unchanged_part d.part number value
            done_may number value its is = subst (λ (n : ℕ). StoreIsAllowed s unchanged_part d.part number n) (sym is)
                (next_store s withdrawing_part a d t w replied Done x worker number refl at.stood.worker same own its a.part.private.begun (λ u. refl))

            module _ (e : SeatView) (y : ChanceCounts) where
              pub done_fell : FellBeforeStep (seat_call s unchanged_part d e w y) → CallFell (seat_call s withdrawing_part a e t y) (4 + held)
              done_fell fell = next_fell s withdrawing_part a d t w replied e y (4 + held) (omega arith) fell (omega arith)

              module _ (value : ℕ) (four : OwnStepWasMade (seat_call s unchanged_part d e w y) value) where
                withdrawn : CallProgress (seat_call s withdrawing_part a e t y) 4 a.part.private.begun (clear_stage lock held)
                withdrawn = next_did s withdrawing_part a d t w replied e y (omega arith) four refl refl refl

                module _ (f : SeatView) (z : ChanceCounts) where
                  pub withdraw_ends : CallProgress (seat_call s unchanged_part e f y z) held e.part.private.begun Resting → CallProgress (seat_call s withdrawing_part a f t z) (4 + held) a.part.private.begun Resting
                  withdraw_ends cleared = call_led s a e f t y z withdrawing_part (omega arith) withdrawn cleared

                  pub withdraw_falls : CallFell (seat_call s unchanged_part e f y z) held → CallFell (seat_call s withdrawing_part a f t z) (4 + held)
                  withdraw_falls fell = falls_led s a e f t y z (omega arith) withdrawn fell (omega arith)
