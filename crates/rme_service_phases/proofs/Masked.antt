-- A loop over the cells of a mask, in ascending order, with a fixed number of steps for each.
use Rattle.std.proofs.Common.{List, length, ◌≡◌, ℕ, suc, ◌+◌, ◌*◌, ◌<◌, ◌≤◌, sym, ◌∙◌, ap, subst, mul-le-mul_right, suc-mul, arith}
use Rattle.std.specs.Prelude.{Option, Some, None}
use Rattle.rme_words.specs.declared.shape.Shape.{Shape}
use Rattle.rme_program.specs.declared.stage.Stage.{Stage}
use Rattle.rme_program.specs.Masks.{first_cell}
use Rattle.rme_program.specs.Phases.{mask_cells_below}
use Rattle.rme_program.proofs.Counts.{cells_below_less}
use Rattle.rme_program.proofs.Firsts.{FirstCell, first_some, first_none, below_more, below_zero}
use Rattle.rme_service_steps.specs.Parts.{unchanged_part}
use Rattle.rme_service_steps.specs.Chances.{ChanceCounts}
use Rattle.rme_service_steps.specs.SeatViews.{ServiceId, SeatView}
use Rattle.rme_service_steps.specs.CallSteps.{seat_call, PartIsAtStage, CallProgress, CallFell}
use Rattle.rme_service_steps.proofs.Chains.{nothing, then_on, falls_on}

-- The cells of the mask before `from` are done; the stage goes by the first cell that is left.
pub record OverMask (ident : ServiceId) (a : SeatView) (t : ChanceCounts) (mask each b : ℕ) (stage_at : Option ℕ → Stage) (now : SeatView) (u : ChanceCounts) (from : ℕ) : Type 0 where
  pub ours : now.ident ≡ ident
  pub fit : from ≤ ident.shape.cells
  pub doing : CallProgress (seat_call ident.shape unchanged_part a now t u) (mask_cells_below mask from * each) b (stage_at (first_cell mask from ident.shape.cells))

module _ (ident : ServiceId) (a : SeatView) (t : ChanceCounts) (mask each b : ℕ) where
  pub mask_begins : (stage_at : Option ℕ → Stage) → a.ident ≡ ident → PartIsAtStage ident.shape a.part b (stage_at (first_cell mask 0 ident.shape.cells)) → OverMask ident a t mask each b stage_at a t 0
  mask_begins stage_at ours at = record {
    ours = ours;
    fit = omega arith;
    doing = subst (λ (n : ℕ). CallProgress (seat_call ident.shape unchanged_part a a t t) (n * each) b (stage_at (first_cell mask 0 ident.shape.cells))) (sym (below_zero mask))
        (subst (λ (n : ℕ). CallProgress (seat_call ident.shape unchanged_part a a t t) n b (stage_at (first_cell mask 0 ident.shape.cells))) (omega arith) (nothing ident.shape a t b _ at));
  }

  module _ (now : SeatView) (u : ChanceCounts) (from : ℕ) where
    next_cell : (stage_at : Option ℕ → Stage) (state : OverMask ident a t mask each b stage_at now u from) (cell : ℕ) → first_cell mask from ident.shape.cells ≡ Some cell
        → FirstCell mask from ident.shape.cells cell
    next_cell stage_at state cell found = first_some mask from ident.shape.cells cell state.fit found

    pub mask_below : (stage_at : Option ℕ → Stage) (state : OverMask ident a t mask each b stage_at now u from) (cell : ℕ) → first_cell mask from ident.shape.cells ≡ Some cell
        → (cell < ident.shape.cells) × (from ≤ cell)
    mask_below stage_at state cell found = let first = next_cell stage_at state cell found in (first.below, first.after)

    pub mask_at : (stage_at : Option ℕ → Stage) (state : OverMask ident a t mask each b stage_at now u from) (cell : ℕ) → first_cell mask from ident.shape.cells ≡ Some cell
        → PartIsAtStage ident.shape now.part b (stage_at (Some cell))
    mask_at stage_at state cell found = subst (λ (c : Option ℕ). PartIsAtStage ident.shape now.part b (stage_at c)) found state.doing.at

    one_more : (stage_at : Option ℕ → Stage) (state : OverMask ident a t mask each b stage_at now u from) (cell : ℕ) → first_cell mask from ident.shape.cells ≡ Some cell
        → mask_cells_below mask (cell + 1) ≡ suc (mask_cells_below mask from)
    one_more stage_at state cell found = let first = next_cell stage_at state cell found in let more = below_more mask cell first.set in omega (arith, more, first.same)

    pub mask_more : (stage_at later : Option ℕ → Stage) (state : OverMask ident a t mask each b stage_at now u from) (cell : ℕ) (next : SeatView) (v : ChanceCounts)
        → first_cell mask from ident.shape.cells ≡ Some cell → next.ident ≡ now.ident
        → CallProgress (seat_call ident.shape unchanged_part now next u v) each b (later (first_cell mask (cell + 1) ident.shape.cells)) → OverMask ident a t mask each b later next v (cell + 1)
    mask_more stage_at later state cell next v found same steps = record {
      ours = same ∙ state.ours;
      fit = let below = (mask_below stage_at state cell found).0 in omega (arith, below);
      doing = subst (λ (n : ℕ). CallProgress (seat_call ident.shape unchanged_part a next t v) n b (later (first_cell mask (cell + 1) ident.shape.cells)))
          (let more = one_more stage_at state cell found in sym (ap (λ (n : ℕ). n * each) more ∙ suc-mul (mask_cells_below mask from) each))
          (then_on ident.shape a now next t u v state.doing steps);
    }

    pub mask_fell : (stage_at : Option ℕ → Stage) (state : OverMask ident a t mask each b stage_at now u from) (cell : ℕ) (next : SeatView) (v : ChanceCounts)
        → first_cell mask from ident.shape.cells ≡ Some cell → CallFell (seat_call ident.shape unchanged_part now next u v) each → CallFell (seat_call ident.shape unchanged_part a next t v) (mask_cells_below mask ident.shape.cells * each)
    mask_fell stage_at state cell next v found fell =
        let below = (mask_below stage_at state cell found).0 in
        let more = one_more stage_at state cell found in
        let less = cells_below_less mask (cell + 1) ident.shape.cells (omega (arith, below)) in
        let fits : suc (mask_cells_below mask from) * each ≤ mask_cells_below mask ident.shape.cells * each = mul-le-mul_right each (omega (arith, more, less)) in
        falls_on ident.shape a now next t u v state.doing fell (omega (arith, fits, suc-mul (mask_cells_below mask from) each))

    pub mask_ends : (stage_at : Option ℕ → Stage) (state : OverMask ident a t mask each b stage_at now u from) → first_cell mask from ident.shape.cells ≡ None
        → CallProgress (seat_call ident.shape unchanged_part a now t u) (mask_cells_below mask ident.shape.cells * each) b (stage_at None)
    mask_ends stage_at state none =
        let all = first_none mask from ident.shape.cells state.fit none in
        subst (λ (n : ℕ). CallProgress (seat_call ident.shape unchanged_part a now t u) (n * each) b (stage_at None)) (sym all)
        (subst (λ (c : Option ℕ). CallProgress (seat_call ident.shape unchanged_part a now t u) (mask_cells_below mask from * each) b (stage_at c)) none state.doing)

-- The next cell that the code found is that of the service's shape.
pub found_cell : (mask from k : ℕ) (shape s : Shape) (next : Option ℕ) → next ≡ first_cell mask from k → k ≡ shape.cells → shape ≡ s → first_cell mask from s.cells ≡ next
found_cell mask from k shape s next is counted same = sym (is ∙ ap (first_cell mask from) (counted ∙ ap (λ (x : Shape). x.cells) same))

-- The same, one step a cell, where a row is filled.
pub record OverRow (ident : ServiceId) (a : SeatView) (t : ChanceCounts) (mask b : ℕ) (stage_at : List ℕ → Option ℕ → Stage) (row : List ℕ) (now : SeatView) (u : ChanceCounts) (from : ℕ) : Type 0 where
  pub over : OverMask ident a t mask 1 b (stage_at row) now u from
  pub long : length row ≡ ident.shape.cells
