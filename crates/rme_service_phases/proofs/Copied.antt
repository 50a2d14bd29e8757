-- One cell copied: its shadow word loaded, and stored into it.
use Rattle.std.proofs.Common.{◌≡◌, ℕ, ◌+◌, ◌/◌, ◌<◌, refl, sym, ◌∙◌, ap, arith}
use Rattle.rme_words.specs.declared.shape.Shape.{Shape}
use Rattle.rme_words.specs.declared.address.Address.TheVariants.{Reply, Place, At, Cell, Shadow, ShadowReply, Mask}
use Rattle.rme_program.specs.declared.stage.Stage.TheVariants.{Copying}
use Rattle.rme_program.specs.declared.stage.Redo.TheVariants.{LoadMask, LoadShadow, StoreCell, LoadReply, StoreReply, StorePlace, StoreAt, StoreDone}
use Rattle.rme_program.specs.declared.stage.Visit.{Visit}
use Rattle.rme_program.specs.Masks.{first_cell}
use Rattle.rme_program.specs.Steps.{copy_stage_from}
use Rattle.rme_service_steps.specs.Layout.{position_of_address}
use Rattle.rme_service_steps.specs.Parts.{unchanged_part}
use Rattle.rme_service_steps.specs.Chances.{ChanceCounts}
use Rattle.rme_service_steps.specs.SeatViews.{SeatView}
use Rattle.rme_service_steps.specs.CallSteps.{seat_call, PartIsAtStage, CallProgress, CallFell, FellBeforeStep, OwnStepWasMade, LoadIsAllowed, StoreIsAllowed}
use Rattle.rme_service_steps.proofs.Chains.{did, then_on, falls_on, falls_at, may_load, may_store}

module _ (s : Shape) (a : SeatView) (t : ChanceCounts) (b mask cell : ℕ) (visit : Visit) (at : PartIsAtStage s a.part b (Copying (LoadShadow visit mask cell))) (lock : visit.lock < s.locks) (small : cell < s.cells) where
  pub shadow_may : (shape : Shape) (number : ℕ) → shape ≡ s → number ≡ position_of_address shape (Shadow visit.lock cell) → LoadIsAllowed s unchanged_part a.part number
  shadow_may shape number same its = may_load s a.part b _ at (Shadow visit.lock cell) number refl refl (lock, small) (its ∙ ap (λ (x : Shape). position_of_address x (Shadow visit.lock cell)) same)

  module _ (c : SeatView) (u : ChanceCounts) (value : ℕ) (made : OwnStepWasMade (seat_call s unchanged_part a c t u) value) where
    loaded : CallProgress (seat_call s unchanged_part a c t u) 1 b (Copying (StoreCell visit mask cell value))
    loaded = did s a c t u value made at refl refl refl

    pub cell_may : (shape : Shape) (number : ℕ) → shape ≡ s → number ≡ position_of_address shape (Cell visit.lock cell) → StoreIsAllowed s unchanged_part c.part number value
    cell_may shape number same its = may_store s c.part b _ loaded.at (Cell visit.lock cell) number value refl refl (lock, small) (its ∙ ap (λ (x : Shape). position_of_address x (Cell visit.lock cell)) same)

    pub cell_copied : (d : SeatView) (v : ChanceCounts) → OwnStepWasMade (seat_call s unchanged_part c d u v) value → CallProgress (seat_call s unchanged_part a d t v) 2 b (copy_stage_from visit mask (first_cell mask (cell + 1) s.cells))
    cell_copied d v stored = then_on s a c d t u v loaded (did s c d u v value stored loaded.at refl refl refl)

    pub cell_fell : (d : SeatView) (v : ChanceCounts) → FellBeforeStep (seat_call s unchanged_part c d u v) → CallFell (seat_call s unchanged_part a d t v) 2
    cell_fell d v fell = falls_on s a c d t u v loaded (falls_at s unchanged_part c d u v 1 fell (omega arith)) (omega arith)

-- The mask loaded, and then its cells copied.
module _ (s : Shape) (a : SeatView) (t : ChanceCounts) (b : ℕ) (visit : Visit) (at : PartIsAtStage s a.part b (Copying (LoadMask visit))) (lock : visit.lock < s.locks) where
  pub mask_may : (shape : Shape) (number : ℕ) → shape ≡ s → number ≡ position_of_address shape (Mask visit.lock) → LoadIsAllowed s unchanged_part a.part number
  mask_may shape number same its = may_load s a.part b _ at (Mask visit.lock) number refl refl lock (its ∙ ap (λ (x : Shape). position_of_address x (Mask visit.lock)) same)

  pub masked : (c : SeatView) (u : ChanceCounts) (mask : ℕ) → OwnStepWasMade (seat_call s unchanged_part a c t u) mask → CallProgress (seat_call s unchanged_part a c t u) 1 b (copy_stage_from visit mask (first_cell mask 0 s.cells))
  masked c u mask made = did s a c t u mask made at refl refl refl

-- The receipt's words.
module _ (s : Shape) (a : SeatView) (t : ChanceCounts) (b mask : ℕ) (visit : Visit) (at : PartIsAtStage s a.part b (Copying (LoadReply visit mask))) (lock : visit.lock < s.locks)
    (shape : Shape) (worker : ℕ) (same : shape ≡ s) (own : worker ≡ a.part.worker) where
  pub reply_may : (number : ℕ) → number ≡ position_of_address shape (ShadowReply visit.lock) → LoadIsAllowed s unchanged_part a.part number
  reply_may number its = may_load s a.part b _ at (ShadowReply visit.lock) number refl refl lock (its ∙ ap (λ (x : Shape). position_of_address x (ShadowReply visit.lock)) same)

  module _ (c : SeatView) (u : ChanceCounts) (reply : ℕ) (made : OwnStepWasMade (seat_call s unchanged_part a c t u) reply) where
    one : CallProgress (seat_call s unchanged_part a c t u) 1 b (Copying (StoreReply visit mask reply))
    one = did s a c t u reply made at refl refl refl

    pub store_may : (number : ℕ) → number ≡ position_of_address shape (Reply worker) → StoreIsAllowed s unchanged_part c.part number reply
    store_may number its = may_store s c.part b _ one.at (Reply c.part.worker) number reply refl refl one.at.stood.worker
        (its ∙ ap (λ (x : Shape). position_of_address x (Reply worker)) same ∙ ap (λ (w : ℕ). position_of_address s (Reply w)) (own ∙ sym one.stays.own))

    pub store_fell : (d : SeatView) (v : ChanceCounts) → FellBeforeStep (seat_call s unchanged_part c d u v) → CallFell (seat_call s unchanged_part a d t v) 4
    store_fell d v fell = falls_on s a c d t u v one (falls_at s unchanged_part c d u v 1 fell (omega arith)) (omega arith)

    module _ (d : SeatView) (v : ChanceCounts) (stored : OwnStepWasMade (seat_call s unchanged_part c d u v) reply) where
      two : CallProgress (seat_call s unchanged_part a d t v) 2 b (Copying (StorePlace visit mask reply))
      two = then_on s a c d t u v one (did s c d u v reply stored one.at refl refl refl)

      pub place_may : (number : ℕ) → number ≡ position_of_address shape (Place worker) → StoreIsAllowed s unchanged_part d.part number (visit.turn / 2)
      place_may number its = may_store s d.part b _ two.at (Place d.part.worker) number (visit.turn / 2) refl refl two.at.stood.worker
          (its ∙ ap (λ (x : Shape). position_of_address x (Place worker)) same ∙ ap (λ (w : ℕ). position_of_address s (Place w)) (own ∙ sym two.stays.own))

      pub place_fell : (e : SeatView) (x : ChanceCounts) → FellBeforeStep (seat_call s unchanged_part d e v x) → CallFell (seat_call s unchanged_part a e t x) 4
      place_fell e x fell = falls_on s a d e t v x two (falls_at s unchanged_part d e v x 1 fell (omega arith)) (omega arith)

      module _ (e : SeatView) (x : ChanceCounts) (placed : OwnStepWasMade (seat_call s unchanged_part d e v x) (visit.turn / 2)) where
        three : CallProgress (seat_call s unchanged_part a e t x) 3 b (Copying (StoreAt visit mask reply))
        three = then_on s a d e t v x two (did s d e v x (visit.turn / 2) placed two.at refl refl refl)

        pub at_may : (number : ℕ) → number ≡ position_of_address shape (At worker) → StoreIsAllowed s unchanged_part e.part number visit.lock
        at_may number its = may_store s e.part b _ three.at (At e.part.worker) number visit.lock refl refl three.at.stood.worker
            (its ∙ ap (λ (y : Shape). position_of_address y (At worker)) same ∙ ap (λ (w : ℕ). position_of_address s (At w)) (own ∙ sym three.stays.own))

        pub at_fell : (f : SeatView) (y : ChanceCounts) → FellBeforeStep (seat_call s unchanged_part e f x y) → CallFell (seat_call s unchanged_part a f t y) 4
        at_fell f y fell = falls_on s a e f t x y three (falls_at s unchanged_part e f x y 1 fell (omega arith)) (omega arith)

        pub received : (f : SeatView) (y : ChanceCounts) → OwnStepWasMade (seat_call s unchanged_part e f x y) visit.lock → CallProgress (seat_call s unchanged_part a f t y) 4 b (Copying (StoreDone visit mask reply))
        received f y locked = then_on s a e f t x y three (did s e f x y visit.lock locked three.at refl refl refl)
