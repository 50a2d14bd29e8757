use Rattle.std.proofs.Common.{◌≡◌, ◌+◌, ◌++◌, [], ◌∷◌, ℕ, List, refl, sym, ap, ◌∙◌, arith}
use Rattle.rme_program.proofs.Firsts.{first_some}
use Rattle.rme_program.specs.declared.private.Private.{Private}
use Rattle.rme_program.specs.declared.stage.Stage.TheVariants.{Copying}
use Rattle.rme_program.specs.declared.stage.Redo.TheVariants.{StoreCell}
use Rattle.rme_program.specs.Steps.{copy_stage_from}
use Rattle.rme_program.specs.Masks.{first_cell}
use Rattle.rme_words.specs.declared.address.Address.TheVariants.{Shadow, Cell}
use Rattle.rme_words.specs.Words.{word_number}
use Rattle.rme_process_core.specs.declared.flat.FlatAction.{FlatAction}
use Rattle.rme_process_core.specs.Flat.{flat_store, flat_expecting_load}
use Rattle.rme_process_core.specs.Batches.{batch_actions}
use Rattle.rme_process_core.specs.Runs.{private_at_stage}
use Rattle.rme_process_core.proofs.Telling.{more_told, leads_more}
use Rattle.rme_process_core.proofs.Finishing.{copy_load_step, copy_step}
use Rattle.rme_process_core.proofs.stores.predict_copies.Goals as goal

pub put-requires : goal.put-requires
put-requires c =
    let below = first_some c.args.section.now.named c.loop-cell.from c.args.context.shape.cells c.in-Some.cell c.loop-cell.invariant.within (sym c.in-Some.ensures.first) in
    (omega arith, omega (arith, c.loop-cell.invariant.few, below.after, below.below, c.requires.room))

pub loop-cell-smaller : goal.loop-cell-smaller
loop-cell-smaller c =
    let below = first_some c.args.section.now.named c.loop-cell.from c.args.context.shape.cells c.in-Some.cell c.loop-cell.invariant.within (sym c.in-Some.ensures.first) in
    omega (arith, below.after, below.below)

pub loop-cell-preserved : goal.loop-cell-preserved
loop-cell-preserved c =
    let shape = c.args.context.shape in let visit = c.args.section.now.visit in let named = c.args.section.now.named in let from = c.loop-cell.from in let cell = c.in-Some.cell in
    let value : ℕ = c.get-value.result in
    let told : List FlatAction = batch_actions c.loop-cell.batch in
    let load : FlatAction = flat_expecting_load (word_number shape (Shadow visit.lock cell)) value in
    let store : FlatAction = flat_store (word_number shape (Cell visit.lock cell)) value in
    let loaded : List FlatAction = told ++ load ∷ [] in
    let is : batch_actions c.put.new.batch ≡ loaded ++ store ∷ [] =
    c.put.ensures.told ∙ ap (λ (a : FlatAction). told ++ a ∷ c.store.result ∷ []) (c.expect-shadow.ensures ∙ ap (λ (w : ℕ). flat_expecting_load w value) c.shadow_at.ensures)
    ∙ ap (λ (a : FlatAction). told ++ load ∷ a ∷ []) (c.store.ensures ∙ ap (λ (w : ℕ). flat_store w value) c.cell_at.ensures) ∙ more_told told load (store ∷ []) in
    let below = first_some named from shape.cells cell c.loop-cell.invariant.within (sym c.in-Some.ensures.first) in
    record {
      leads = λ start worker begun leads.
          let copied : Private = private_at_stage worker begun (Copying (StoreCell visit named cell value)) in
          leads_more shape c.args.context.until start loaded copied
          (leads_more shape c.args.context.until start told (private_at_stage worker begun (copy_stage_from visit named (first_cell named from shape.cells))) (c.loop-cell.invariant.leads start worker begun leads) load loaded refl copied
          (copy_load_step shape worker begun visit named from cell (sym c.in-Some.ensures.first) value))
          store (batch_actions c.put.new.batch) is (private_at_stage worker begun (copy_stage_from visit named (first_cell named (cell + 1) shape.cells))) (copy_step shape worker begun visit named cell value);
      few = omega (arith, c.put.ensures.count, c.loop-cell.invariant.few, below.after);
      within = omega (arith, below.below);
    }
