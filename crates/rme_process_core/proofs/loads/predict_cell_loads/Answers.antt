use Rattle.std.proofs.Common.{◌≡◌, ◌≤◌, ◌+◌, ◌++◌, [], ◌∷◌, ℕ, List, sym, ap, ◌∙◌, arith}
use Rattle.rme_program.proofs.Firsts.{first_some}
use Rattle.rme_words.specs.declared.address.Address.TheVariants.{Cell}
use Rattle.rme_words.specs.Words.{word_number}
use Rattle.rme_process_core.specs.declared.flat.FlatAction.{FlatAction}
use Rattle.rme_process_core.specs.Flat.{flat_load}
use Rattle.rme_process_core.specs.Batches.{batch_actions}
use Rattle.rme_process_core.specs.Runs.{IsLoadingCells}
use Rattle.rme_process_core.proofs.Telling.{reaches_more}
use Rattle.rme_process_core.proofs.Loading.{cell_step}
use Rattle.rme_process_core.proofs.loads.predict_cell_loads.Goals as goal

pub loop-next-smaller : goal.loop-next-smaller
loop-next-smaller c =
    let later : c.loop-next.at + 1 ≤ c.in-Some.next =
    (first_some c.args.named (c.loop-next.at + 1) c.args.context.shape.cells c.in-Some.next (omega (arith, c.loop-next.invariant.below)) (sym c.in-Some.ensures.first)).after in
    omega (arith, later, c.in-Some.ensures.below, c.loop-next.invariant.below)

pub loop-next-preserved : goal.loop-next-preserved
loop-next-preserved c =
    let shape = c.args.context.shape in let at = c.loop-next.at in let next = c.in-Some.next in let told : List FlatAction = batch_actions c.loop-next.batch in
    let action : FlatAction = flat_load (word_number shape (Cell c.args.lock at)) in
    let is : batch_actions c.put.new.batch ≡ told ++ action ∷ [] =
    c.put.ensures.told ∙ ap (λ (a : FlatAction). told ++ a ∷ []) (c.load.ensures ∙ ap (λ (w : ℕ). flat_load w) c.cell_at.ensures) in
    let later : at + 1 ≤ next = (first_some c.args.named (at + 1) shape.cells next (omega (arith, c.loop-next.invariant.below)) (sym c.in-Some.ensures.first)).after in
    record {
      reaches = λ private reaches. reaches_more shape c.args.context.until private told (IsLoadingCells c.args.lock c.args.named at) (c.loop-next.invariant.reaches private reaches) action (batch_actions c.put.new.batch) is
          (IsLoadingCells c.args.lock c.args.named next) (λ mid loads. cell_step shape c.args.lock c.args.named at mid loads next (sym c.in-Some.ensures.first));
      few = omega (arith, c.put.ensures.count, c.loop-next.invariant.few, later);
      below = c.in-Some.ensures.below;
    }
