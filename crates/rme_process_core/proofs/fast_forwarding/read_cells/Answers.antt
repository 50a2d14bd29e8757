use Rattle.std.proofs.Common.{◌+◌, ℕ, List, sym, subst, ◌∙◌, arith}
use Rattle.std.specs.Prelude.{slice_index, slice_set}
use Rattle.std.proofs.lemmas.List.{length-set}
use Rattle.rme_program.proofs.Firsts.{first_some}
use Rattle.rme_program.specs.Masks.{first_cell}
use Rattle.rme_program.specs.Steps.{cell_stage_from, logging_section}
use Rattle.rme_process_core.specs.Runs.{private_at_stage}
use Rattle.rme_process_core.proofs.Led.{ReadsCells, takes_none, takes_one}
use Rattle.rme_process_core.proofs.Loading.{cell_goes}
use Rattle.rme_process_core.proofs.fast_forwarding.read_cells.Goals as goal

pub loop-cell-init : goal.loop-cell-init
loop-cell-init c = record {
  takes = λ worker begun lock turn script. takes_none c.args.shape.now (private_at_stage worker begun (cell_stage_from c.args.shape.now (logging_section lock turn script c.args.named) c.args.row.now (first_cell c.args.named 0 c.args.shape.now.cells)));
  within = omega arith;
  from_within = omega arith;
  whole = c.requires.row;
}

pub loop-cell-smaller : goal.loop-cell-smaller
loop-cell-smaller c =
    let below = first_some c.args.named c.loop-cell.from c.args.shape.now.cells c.in-Some.cell c.loop-cell.invariant.from_within (sym c.in-Some.ensures.first) in
    omega (arith, below.after, below.below)

pub loop-cell-preserved : goal.loop-cell-preserved
loop-cell-preserved c =
    let shape = c.args.shape.now in let named = c.args.named in let from = c.loop-cell.from in let cell = c.in-Some.cell in let values : List ℕ = c.args.values.now in let count = c.loop-cell.count in
    let below = first_some named from shape.cells cell c.loop-cell.invariant.from_within (sym c.in-Some.ensures.first) in
    let value : ℕ = slice_index values count in
    let P : List ℕ → Type 0 = λ r. ReadsCells shape named (cell + 1) c.args.row.now values (count + 1) r in
    subst P (sym c.set.ensures) record {
      takes = λ worker begun lock turn script.
          takes_one shape (private_at_stage worker begun (cell_stage_from shape (logging_section lock turn script named) c.args.row.now (first_cell named 0 shape.cells))) values count
          (private_at_stage worker begun (cell_stage_from shape (logging_section lock turn script named) c.loop-cell.row (first_cell named from shape.cells)))
          (private_at_stage worker begun (cell_stage_from shape (logging_section lock turn script named) (slice_set c.loop-cell.row cell value) (first_cell named (cell + 1) shape.cells)))
          (c.loop-cell.invariant.takes worker begun lock turn script) c.if-count-values.false
          (cell_goes shape worker begun lock turn script named c.loop-cell.row from cell value (sym c.in-Some.ensures.first));
      within = omega (arith, c.if-count-values.false);
      from_within = omega (arith, below.below);
      whole = length-set c.loop-cell.row cell value ∙ c.loop-cell.invariant.whole;
    }
