-- One call's steps after another's, where what is known of `begun` stays what it was; and one step after those of a call.
use Rattle.std.proofs.Common.{◌≡◌, ℕ, ◌+◌, ◌≤◌, sym, ◌∙◌, ap, subst, arith}
use Rattle.std.specs.Prelude.{true}
use Rattle.rme_words.specs.declared.shape.Shape.{Shape}
use Rattle.rme_words.specs.declared.address.Address.{Address}
use Rattle.rme_words.specs.Words.{IsShapeAddress}
use Rattle.rme_program.specs.declared.action.Action.TheVariants.{Load, Store, Swap}
use Rattle.rme_program.specs.declared.note.Note.{Note}
use Rattle.rme_program.specs.declared.private.Private.{Private}
use Rattle.rme_program.specs.declared.stage.Stage.{Stage}
use Rattle.rme_program.specs.Steps.{stage_action, outcome_at, begun_after}
use Rattle.rme_service_steps.specs.Layout.{position_of_address}
use Rattle.rme_service_steps.specs.declared.seat_record.Part.{Part}
use Rattle.rme_service_steps.specs.Parts.{unchanged_part}
use Rattle.rme_service_steps.specs.Chances.{ChanceCounts}
use Rattle.rme_service_steps.specs.SeatViews.{SeatView}
use Rattle.rme_service_steps.specs.CallSteps.{seat_call, PartIsAtStage, PartIsBeforeStage, CallProgress, CallFell, FellBeforeStep, OwnStepWasMade, LoadIsAllowed, StoreIsAllowed, SwapIsAllowed, stage_adds_no_entry}
use Rattle.rme_service_steps.proofs.Chains.{did, then_on, then_led, falls_led, falls_at, may_load, may_store, may_swap}

known : (s : Shape) (p : Part) (b : ℕ) (st : Stage) → PartIsAtStage s p b st → p.private.begun ≡ b
known s p b st at = ap (λ (q : Private). q.begun) at.private

-- A worker at a stage is before its step.
pub is_before : (s : Shape) (p : Part) (b : ℕ) (st : Stage) → PartIsAtStage s p b st → PartIsBeforeStage s p st
is_before s p b st at = subst (λ (n : ℕ). PartIsAtStage s p n st) (sym (known s p b st at)) at

-- A call's steps, after those that led to where it began.
module _ (s : Shape) (a b c : SeatView) (t u v : ChanceCounts) {m n begun : ℕ} {st1 st2 : Stage} where
  same_begun : (lead : Part → Part) → CallProgress (seat_call s lead a b t u) m begun st1 → CallProgress (seat_call s unchanged_part b c u v) n b.part.private.begun st2 → CallProgress (seat_call s unchanged_part b c u v) n begun st2
  same_begun lead one two = subst (λ (k : ℕ). CallProgress (seat_call s unchanged_part b c u v) n k st2) (known s b.part begun st1 one.at) two

  pub call_on : CallProgress (seat_call s unchanged_part a b t u) m begun st1 → CallProgress (seat_call s unchanged_part b c u v) n b.part.private.begun st2 → CallProgress (seat_call s unchanged_part a c t v) (m + n) begun st2
  call_on one two = then_on s a b c t u v one (same_begun unchanged_part one two)

  pub call_led : (lead : Part → Part) → 1 ≤ m → CallProgress (seat_call s lead a b t u) m begun st1 → CallProgress (seat_call s unchanged_part b c u v) n b.part.private.begun st2 → CallProgress (seat_call s lead a c t v) (m + n) begun st2
  call_led lead some_step one two = then_led s a b c t u v some_step one (same_begun lead one two)

-- Where steps have led to this stage, the next operation on a word that follows from the worker's number, and what it does.
module _ (s : Shape) (lead : Part → Part) (a b : SeatView) (t u : ChanceCounts) {m begun : ℕ} {st : Stage} (doing : CallProgress (seat_call s lead a b t u) m begun st) where
  module _ (address : ℕ → Address) (x : Shape) (worker number : ℕ) (plain : stage_adds_no_entry st ≡ true) (within : IsShapeAddress s (address a.part.worker)) (same : x ≡ s) (own : worker ≡ a.part.worker)
      (its : number ≡ position_of_address x (address worker)) where
    here : number ≡ position_of_address s (address a.part.worker)
    here = its ∙ ap (λ (y : Shape). position_of_address y (address worker)) same ∙ ap (λ (w : ℕ). position_of_address s (address w)) own

    pub next_load : ((w : ℕ) → stage_action s w begun st ≡ Load (address w)) → LoadIsAllowed s unchanged_part b.part number
    next_load is = may_load s b.part begun st doing.at (address a.part.worker) number plain (is b.part.worker ∙ ap (λ (w : ℕ). Load (address w)) doing.stays.own) within here

    pub next_store : (value : ℕ) → ((w : ℕ) → stage_action s w begun st ≡ Store (address w) value) → StoreIsAllowed s unchanged_part b.part number value
    next_store value is = may_store s b.part begun st doing.at (address a.part.worker) number value plain (is b.part.worker ∙ ap (λ (w : ℕ). Store (address w) value) doing.stays.own) within here

    pub next_swap : (to : ℕ → ℕ) → ((w : ℕ) → stage_action s w begun st ≡ Swap (address w) 0 (to w)) → SwapIsAllowed s unchanged_part b.part number 0 (to a.part.worker)
    next_swap to is =
        may_swap s b.part begun st doing.at (address a.part.worker) number 0 (to a.part.worker) plain (is b.part.worker ∙ ap (λ (w : ℕ). Swap (address w) 0 (to w)) doing.stays.own) within here

  module _ (c : SeatView) (v : ChanceCounts) where
    pub next_did : {b2 value : ℕ} {out : Stage} {note : Note} → 1 ≤ m → OwnStepWasMade (seat_call s unchanged_part b c u v) value → stage_adds_no_entry st ≡ true → outcome_at s b.part.worker begun st value ≡ (out, note)
        → begun_after begun st value ≡ b2 → CallProgress (seat_call s lead a c t v) (m + 1) b2 out
    next_did {b2} {value} some_step made plain leads is = then_led s a b c t u v some_step doing (did s b c u v value made doing.at plain leads is)

    pub next_fell : (most : ℕ) → 1 ≤ m → FellBeforeStep (seat_call s unchanged_part b c u v) → m + 1 ≤ most → CallFell (seat_call s lead a c t v) most
    next_fell most some_step fell few = falls_led s a b c t u v some_step doing (falls_at s unchanged_part b c u v 1 fell (omega arith)) few
