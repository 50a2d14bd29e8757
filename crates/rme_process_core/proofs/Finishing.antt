-- What the steps of a section lead to once its script was run, where the copies find what was stored.
use Rattle.std.proofs.Common.{◌≡◌, ◌<◌, ◌≤◌, inl, inr, ℕ, ◌+◌, ◌*◌, List, refl, sym, ap, subst}
use Rattle.std.specs.Prelude.{Option, Some, None, slice_index}
use Rattle.rme_words.specs.declared.shape.Shape.{Shape}
use Rattle.rme_words.specs.declared.address.Address.TheVariants.{Turn, Cell, Shadow, ShadowReply, Mask}
use Rattle.rme_words.specs.Words.{word_number}
use Rattle.rme_program.specs.Masks.{first_cell}
use Rattle.rme_program.specs.declared.note.Note.TheVariants.{Quiet}
use Rattle.rme_program.specs.declared.private.Private.{Private}
use Rattle.rme_program.specs.declared.stage.Stage.TheVariants.{Logging, Copying}
use Rattle.rme_program.specs.declared.stage.Log.TheVariants.{StoreShadows, StoreShadowReply, StoreMask, StoreTurn}
use Rattle.rme_program.specs.declared.stage.Redo.TheVariants.{LoadMask, StoreCell, LoadReply, StoreReply, StorePlace, StoreAt, StoreDone}
use Rattle.rme_program.specs.declared.stage.Visit.{Visit}
use Rattle.rme_program.specs.Steps.{shadow_stage_from, copy_stage_from, finish_outcome}
use Rattle.rme_process_core.specs.Flat.{flat_store, flat_expecting_load}
use Rattle.rme_process_core.specs.declared.flat.Batch.{Batch}
use Rattle.rme_process_core.specs.Batches.{batch_actions}
use Rattle.rme_process_core.specs.Runs.{PredictsUpTo, private_at_stage}
use Rattle.rme_process_core.proofs.Telling.{Goes, Steps}

module _ (shape : Shape) (worker begun : ℕ) (visit : Visit) where
  abbrev logging : ℕ → ℕ → Private
  logging named reply = private_at_stage worker begun (Logging (StoreShadowReply visit named reply))

  -- ---- until the turn is odd

  pub shadow_goes : (named reply cell value : ℕ) (row : List ℕ)
      → Goes shape (private_at_stage worker begun (Logging (StoreShadows visit named row reply cell))) value Quiet (λ p. p ≡ private_at_stage worker begun (shadow_stage_from visit named row reply (first_cell named (cell + 1) shape.cells)))
  shadow_goes named reply cell value row = record { takes = tt; says = refl; next = refl }

  pub shadow_step : (named reply cell : ℕ) (row : List ℕ)
      → Steps shape (private_at_stage worker begun (Logging (StoreShadows visit named row reply cell))) (flat_store (word_number shape (Shadow visit.lock cell)) (slice_index row cell))
      Quiet (λ p. p ≡ private_at_stage worker begun (shadow_stage_from visit named row reply (first_cell named (cell + 1) shape.cells)))
  shadow_step named reply cell row = record { busy = λ e. cc; does = refl; goes = λ value goes. shadow_goes named reply cell value row }

  pub shadow_reply_goes : (named reply value : ℕ) → Goes shape (logging named reply) value Quiet (λ p. p ≡ private_at_stage worker begun (Logging (StoreMask visit named)))
  shadow_reply_goes named reply value = record { takes = tt; says = refl; next = refl }

  pub shadow_reply_step : (named reply : ℕ) → Steps shape (logging named reply) (flat_store (word_number shape (ShadowReply visit.lock)) reply) Quiet (λ p. p ≡ private_at_stage worker begun (Logging (StoreMask visit named)))
  shadow_reply_step named reply = record { busy = λ e. cc; does = refl; goes = λ value goes. shadow_reply_goes named reply value }

  pub mask_goes : (named value : ℕ) → Goes shape (private_at_stage worker begun (Logging (StoreMask visit named))) value Quiet (λ p. p ≡ private_at_stage worker begun (Logging (StoreTurn visit)))
  mask_goes named value = record { takes = tt; says = refl; next = refl }

  pub mask_step : (named : ℕ) → Steps shape (private_at_stage worker begun (Logging (StoreMask visit named))) (flat_store (word_number shape (Mask visit.lock)) named) Quiet (λ p. p ≡ private_at_stage worker begun (Logging (StoreTurn visit)))
  mask_step named = record { busy = λ e. cc; does = refl; goes = λ value goes. mask_goes named value }

  pub odd_goes : (value : ℕ) → Goes shape (private_at_stage worker begun (Logging (StoreTurn visit))) value Quiet (λ p. p ≡ private_at_stage worker begun (Copying (LoadMask visit)))
  odd_goes value = record { takes = tt; says = refl; next = refl }

  pub odd_step : Steps shape (private_at_stage worker begun (Logging (StoreTurn visit))) (flat_store (word_number shape (Turn visit.lock)) (visit.turn + 1)) Quiet (λ p. p ≡ private_at_stage worker begun (Copying (LoadMask visit)))
  odd_step = record { busy = λ e. cc; does = refl; goes = λ value goes. odd_goes value }

  -- ---- the copies

  pub mask_load_goes : (named : ℕ) → Goes shape (private_at_stage worker begun (Copying (LoadMask visit))) named Quiet (λ p. p ≡ private_at_stage worker begun (copy_stage_from visit named (first_cell named 0 shape.cells)))
  mask_load_goes named = record { takes = tt; says = refl; next = refl }

  pub mask_load_step : (named : ℕ)
      → Steps shape (private_at_stage worker begun (Copying (LoadMask visit))) (flat_expecting_load (word_number shape (Mask visit.lock)) named) Quiet (λ p. p ≡ private_at_stage worker begun (copy_stage_from visit named (first_cell named 0 shape.cells)))
  mask_load_step named =
      let V : ℕ → Type 0 = λ v. Goes shape (private_at_stage worker begun (Copying (LoadMask visit))) v Quiet (λ p. p ≡ private_at_stage worker begun (copy_stage_from visit named (first_cell named 0 shape.cells))) in
      record { busy = λ e. cc; does = (inr (inl refl), refl); goes = λ value goes. subst V (sym (goes.expected refl)) (mask_load_goes named) }

  module _ (named from cell : ℕ) (is : first_cell named from shape.cells ≡ Some cell) where
    pub copy_load_goes : (value : ℕ) → Goes shape (private_at_stage worker begun (copy_stage_from visit named (first_cell named from shape.cells))) value Quiet (λ p. p ≡ private_at_stage worker begun (Copying (StoreCell visit named cell value)))
    copy_load_goes value =
        let P : Option ℕ → Type 0 = λ o. Goes shape (private_at_stage worker begun (copy_stage_from visit named o)) value Quiet (λ p. p ≡ private_at_stage worker begun (Copying (StoreCell visit named cell value))) in
        subst P (sym is) record { takes = tt; says = refl; next = refl }

    pub copy_load_step : (copied : ℕ)
        → Steps shape (private_at_stage worker begun (copy_stage_from visit named (first_cell named from shape.cells))) (flat_expecting_load (word_number shape (Shadow visit.lock cell)) copied)
        Quiet (λ p. p ≡ private_at_stage worker begun (Copying (StoreCell visit named cell copied)))
    copy_load_step copied =
        let P : Option ℕ → Type 0 = λ o. Steps shape (private_at_stage worker begun (copy_stage_from visit named o)) (flat_expecting_load (word_number shape (Shadow visit.lock cell)) copied)
        Quiet (λ p. p ≡ private_at_stage worker begun (Copying (StoreCell visit named cell copied))) in
        let V : ℕ → Type 0 = λ v. Goes shape (private_at_stage worker begun (copy_stage_from visit named (Some cell))) v Quiet (λ p. p ≡ private_at_stage worker begun (Copying (StoreCell visit named cell copied))) in
        subst P (sym is) record { busy = λ e. cc; does = (inr (inl refl), refl); goes = λ value goes. subst V (sym (goes.expected refl)) record { takes = tt; says = refl; next = refl } }

  pub copy_goes : (named cell copied value : ℕ)
      → Goes shape (private_at_stage worker begun (Copying (StoreCell visit named cell copied))) value Quiet (λ p. p ≡ private_at_stage worker begun (copy_stage_from visit named (first_cell named (cell + 1) shape.cells)))
  copy_goes named cell copied value = record { takes = tt; says = refl; next = refl }

  pub copy_step : (named cell copied : ℕ)
      → Steps shape (private_at_stage worker begun (Copying (StoreCell visit named cell copied))) (flat_store (word_number shape (Cell visit.lock cell)) copied)
      Quiet (λ p. p ≡ private_at_stage worker begun (copy_stage_from visit named (first_cell named (cell + 1) shape.cells)))
  copy_step named cell copied = record { busy = λ e. cc; does = refl; goes = λ value goes. copy_goes named cell copied value }

  pub copies_made : (named from : ℕ) → first_cell named from shape.cells ≡ None → private_at_stage worker begun (copy_stage_from visit named (first_cell named from shape.cells)) ≡ private_at_stage worker begun (Copying (LoadReply visit named))
  copies_made named from is = ap (λ (o : Option ℕ). private_at_stage worker begun (copy_stage_from visit named o)) is

  -- ---- the receipt

  pub reply_load_goes : (named reply : ℕ) → Goes shape (private_at_stage worker begun (Copying (LoadReply visit named))) reply Quiet (λ p. p ≡ private_at_stage worker begun (Copying (StoreReply visit named reply)))
  reply_load_goes named reply = record { takes = tt; says = refl; next = refl }

  pub reply_load_step : (named reply : ℕ)
      → Steps shape (private_at_stage worker begun (Copying (LoadReply visit named))) (flat_expecting_load (word_number shape (ShadowReply visit.lock)) reply) Quiet (λ p. p ≡ private_at_stage worker begun (Copying (StoreReply visit named reply)))
  reply_load_step named reply =
      let V : ℕ → Type 0 = λ v. Goes shape (private_at_stage worker begun (Copying (LoadReply visit named))) v Quiet (λ p. p ≡ private_at_stage worker begun (Copying (StoreReply visit named reply))) in
      record { busy = λ e. cc; does = (inr (inl refl), refl); goes = λ value goes. subst V (sym (goes.expected refl)) (reply_load_goes named reply) }

  module _ (mask reply : ℕ) where
    pub reply_goes : (value : ℕ) → Goes shape (private_at_stage worker begun (Copying (StoreReply visit mask reply))) value Quiet (λ p. p ≡ private_at_stage worker begun (Copying (StorePlace visit mask reply)))
    reply_goes value = record { takes = tt; says = refl; next = refl }

    pub place_goes : (value : ℕ) → Goes shape (private_at_stage worker begun (Copying (StorePlace visit mask reply))) value Quiet (λ p. p ≡ private_at_stage worker begun (Copying (StoreAt visit mask reply)))
    place_goes value = record { takes = tt; says = refl; next = refl }

    pub at_goes : (value : ℕ) → Goes shape (private_at_stage worker begun (Copying (StoreAt visit mask reply))) value Quiet (λ p. p ≡ private_at_stage worker begun (Copying (StoreDone visit mask reply)))
    at_goes value = record { takes = tt; says = refl; next = refl }

    pub done_goes : (value : ℕ) → Goes shape (private_at_stage worker begun (Copying (StoreDone visit mask reply))) value (finish_outcome worker begun visit reply).1 (λ p. p ≡ private_at_stage worker begun (finish_outcome worker begun visit reply).0)
    done_goes value = record { takes = tt; says = refl; next = refl }

-- ---- the loops

pub record TellsShadows (shape : Shape) (until : ℕ) (visit : Visit) (named : ℕ) (row : List ℕ) (cell at : ℕ) (before batch : Batch) : Type 0 where
  pub leads : (start : Private) (worker begun reply : ℕ) → PredictsUpTo shape until start (batch_actions before) (private_at_stage worker begun (Logging (StoreShadows visit named row reply cell)))
      → PredictsUpTo shape until start (batch_actions batch) (private_at_stage worker begun (shadow_stage_from visit named row reply (first_cell named (at + 1) shape.cells)))
  pub few : batch.count ≤ before.count + at + 1
  pub below : at < shape.cells

pub record TellsCopies (shape : Shape) (until : ℕ) (visit : Visit) (named from : ℕ) (before batch : Batch) : Type 0 where
  pub leads : (start : Private) (worker begun : ℕ) → PredictsUpTo shape until start (batch_actions before) (private_at_stage worker begun (copy_stage_from visit named (first_cell named 0 shape.cells)))
      → PredictsUpTo shape until start (batch_actions batch) (private_at_stage worker begun (copy_stage_from visit named (first_cell named from shape.cells)))
  pub few : batch.count ≤ before.count + 2 * from
  pub within : from ≤ shape.cells
