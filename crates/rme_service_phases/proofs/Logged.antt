-- The steps of a section until the turn is odd.
use Rattle.std.proofs.Common.{◌≡◌, ℕ, ◌+◌, ◌<◌, List, refl, sym, ◌∙◌, ap, subst, arith}
use Rattle.std.specs.Prelude.{slice_index, slice_set}
use Rattle.rme_words.specs.declared.shape.Shape.{Shape}
use Rattle.rme_words.specs.declared.address.Address.TheVariants.{Turn, Cell, Shadow, ShadowReply, Mask}
use Rattle.rme_script.specs.Programs.{Program}
use Rattle.rme_program.specs.declared.action.Action.TheVariants.{Store}
use Rattle.rme_program.specs.declared.stage.Stage.TheVariants.{Logging, Copying}
use Rattle.rme_program.specs.declared.stage.Log.TheVariants.{LoadCells, StoreShadows, StoreShadowReply, StoreMask, StoreTurn}
use Rattle.rme_program.specs.declared.stage.Redo.TheVariants.{LoadMask}
use Rattle.rme_program.specs.declared.stage.Visit.{Visit}
use Rattle.rme_program.specs.Masks.{first_cell}
use Rattle.rme_program.specs.Steps.{cell_stage_from, shadow_stage_from, logging_section}
use Rattle.rme_service_steps.specs.Layout.{position_of_address}
use Rattle.rme_service_steps.specs.Parts.{unchanged_part}
use Rattle.rme_service_steps.specs.Chances.{ChanceCounts}
use Rattle.rme_service_steps.specs.SeatViews.{SeatView}
use Rattle.rme_service_steps.specs.CallSteps.{seat_call, PartIsAtStage, CallProgress, CallFell, FellBeforeStep, OwnStepWasMade, LoadIsAllowed, StoreIsAllowed}
use Rattle.rme_service_steps.proofs.Chains.{did, then_on, falls_on, falls_at, may_load, may_store}

-- One named cell loaded.
module _ (s : Shape) (a : SeatView) (t : ChanceCounts) (b lock turn named cell : ℕ) (script : Program) (row : List ℕ) (at : PartIsAtStage s a.part b (Logging (LoadCells lock turn script named row cell)))
    (lock_in : lock < s.locks) (small : cell < s.cells) where
  pub named_may : (shape : Shape) (number : ℕ) → shape ≡ s → number ≡ position_of_address shape (Cell lock cell) → LoadIsAllowed s unchanged_part a.part number
  named_may shape number same its = may_load s a.part b _ at (Cell lock cell) number refl refl (lock_in, small) (its ∙ ap (λ (x : Shape). position_of_address x (Cell lock cell)) same)

  pub named_loaded : (c : SeatView) (u : ChanceCounts) (value : ℕ) (later : List ℕ) → later ≡ slice_set row cell value → OwnStepWasMade (seat_call s unchanged_part a c t u) value
      → CallProgress (seat_call s unchanged_part a c t u) 1 b (cell_stage_from s (logging_section lock turn script named) later (first_cell named (cell + 1) s.cells))
  named_loaded c u value later is made =
      subst (λ (xs : List ℕ). CallProgress (seat_call s unchanged_part a c t u) 1 b (cell_stage_from s (logging_section lock turn script named) xs (first_cell named (cell + 1) s.cells))) (sym is) (did s a c t u value made at refl refl refl)

-- One shadow word stored.
module _ (s : Shape) (a : SeatView) (t : ChanceCounts) (b named reply cell : ℕ) (visit : Visit) (row : List ℕ) (at : PartIsAtStage s a.part b (Logging (StoreShadows visit named row reply cell)))
    (lock_in : visit.lock < s.locks) (small : cell < s.cells) where
  pub shadow_may : (shape : Shape) (number value : ℕ) → shape ≡ s → number ≡ position_of_address shape (Shadow visit.lock cell) → value ≡ slice_index row cell → StoreIsAllowed s unchanged_part a.part number value
  shadow_may shape number value same its is =
      may_store s a.part b _ at (Shadow visit.lock cell) number value refl (ap (λ (v : ℕ). Store (Shadow visit.lock cell) v) (sym is)) (lock_in, small)
      (its ∙ ap (λ (x : Shape). position_of_address x (Shadow visit.lock cell)) same)

  pub shadow_stored : (c : SeatView) (u : ChanceCounts) (value : ℕ) → OwnStepWasMade (seat_call s unchanged_part a c t u) value
      → CallProgress (seat_call s unchanged_part a c t u) 1 b (shadow_stage_from visit named row reply (first_cell named (cell + 1) s.cells))
  shadow_stored c u value made = did s a c t u value made at refl refl refl

-- The shadow reply, the mask and the odd turn.
module _ (s : Shape) (a : SeatView) (t : ChanceCounts) (b named reply : ℕ) (visit : Visit) (at : PartIsAtStage s a.part b (Logging (StoreShadowReply visit named reply))) (lock_in : visit.lock < s.locks)
    (shape : Shape) (same : shape ≡ s) where
  pub reply_may : (number : ℕ) → number ≡ position_of_address shape (ShadowReply visit.lock) → StoreIsAllowed s unchanged_part a.part number reply
  reply_may number its = may_store s a.part b _ at (ShadowReply visit.lock) number reply refl refl lock_in (its ∙ ap (λ (x : Shape). position_of_address x (ShadowReply visit.lock)) same)

  module _ (c : SeatView) (u : ChanceCounts) (made : OwnStepWasMade (seat_call s unchanged_part a c t u) reply) where
    replied : CallProgress (seat_call s unchanged_part a c t u) 1 b (Logging (StoreMask visit named))
    replied = did s a c t u reply made at refl refl refl

    pub mask_may : (number : ℕ) → number ≡ position_of_address shape (Mask visit.lock) → StoreIsAllowed s unchanged_part c.part number named
    mask_may number its = may_store s c.part b _ replied.at (Mask visit.lock) number named refl refl lock_in (its ∙ ap (λ (x : Shape). position_of_address x (Mask visit.lock)) same)

    pub mask_fell : (d : SeatView) (v : ChanceCounts) → FellBeforeStep (seat_call s unchanged_part c d u v) → CallFell (seat_call s unchanged_part a d t v) 3
    mask_fell d v fell = falls_on s a c d t u v replied (falls_at s unchanged_part c d u v 1 fell (omega arith)) (omega arith)

    module _ (d : SeatView) (v : ChanceCounts) (masked : OwnStepWasMade (seat_call s unchanged_part c d u v) named) where
      masked_all : CallProgress (seat_call s unchanged_part a d t v) 2 b (Logging (StoreTurn visit))
      masked_all = then_on s a c d t u v replied (did s c d u v named masked replied.at refl refl refl)

      pub turn_may : (number : ℕ) → number ≡ position_of_address shape (Turn visit.lock) → StoreIsAllowed s unchanged_part d.part number (visit.turn + 1)
      turn_may number its = may_store s d.part b _ masked_all.at (Turn visit.lock) number (visit.turn + 1) refl refl lock_in (its ∙ ap (λ (x : Shape). position_of_address x (Turn visit.lock)) same)

      pub turn_fell : (e : SeatView) (x : ChanceCounts) → FellBeforeStep (seat_call s unchanged_part d e v x) → CallFell (seat_call s unchanged_part a e t x) 3
      turn_fell e x fell = falls_on s a d e t v x masked_all (falls_at s unchanged_part d e v x 1 fell (omega arith)) (omega arith)

      pub logged : (e : SeatView) (x : ChanceCounts) → OwnStepWasMade (seat_call s unchanged_part d e v x) (visit.turn + 1) → CallProgress (seat_call s unchanged_part a e t x) 3 b (Copying (LoadMask visit))
      logged e x turned = then_on s a d e t v x masked_all (did s d e v x (visit.turn + 1) turned masked_all.at refl refl refl)
