use Rattle.std.proofs.Common.{sym, ◌∙◌, ap, subst, ℕ, List}
use Rattle.rme_words.specs.declared.shape.Shape.{Shape}
use Rattle.rme_words.specs.declared.address.Address.TheVariants.{Cell}
use Rattle.rme_machine.specs.AbstractCells.{AbstractCells}
use Rattle.rme_world.specs.WorldViews.{WorldView, world_memory, world_abstract_state}
use Rattle.rme_world.specs.WorldInvariants.{WorldInvariant}
use Rattle.rme_world.proofs.Looking.{row_next, row_whole, shown_cells}
use Rattle.rme_world.proofs.world.World.row.Goals as goal

pub loop-cell-preserved : goal.loop-cell-preserved
loop-cell-preserved c =
    row_next c.args.self.now c.args.lock c.loop-cell.cell c.load.result c.shape-shape.result.cells c.loop-cell.row c.set.new.self (ap (λ (s : Shape). s.cells) c.shape-shape.ensures)
    c.loop-cell.invariant.0 c.loop-cell-test.true (c.load.ensures ∙ ap (λ (s : WorldView). world_memory s (Cell c.args.lock c.loop-cell.cell)) c.self.view_is) c.set.ensures c.loop-cell.invariant.1

pub returns-clause-cells : goal.returns-clause-cells
returns-clause-cells c =
    row_whole c.args.self.now c.args.lock c.loop-cell.cell c.shape-shape.result.cells c.loop-cell.row (ap (λ (s : Shape). s.cells) c.shape-shape.ensures)
    c.loop-cell.invariant.0 c.loop-cell-test.false c.loop-cell.auto.cell-end c.loop-cell.invariant.1

pub returns-clause-shown : goal.returns-clause-shown
returns-clause-shown c =
    subst (λ (cells : List ℕ). AbstractCells c.args.self.now.shape (world_abstract_state c.args.self.now) c.args.lock cells)
    (sym (row_whole c.args.self.now c.args.lock c.loop-cell.cell c.shape-shape.result.cells c.loop-cell.row (ap (λ (s : Shape). s.cells) c.shape-shape.ensures)
    c.loop-cell.invariant.0 c.loop-cell-test.false c.loop-cell.auto.cell-end c.loop-cell.invariant.1))
    (shown_cells c.args.self.now c.args.lock (subst (λ (s : WorldView). WorldInvariant s) c.self.view_is c.self.invariant) c.requires)
