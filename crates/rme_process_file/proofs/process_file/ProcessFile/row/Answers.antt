use Rattle.std.proofs.Common.{◌∙◌, ap}
use Rattle.rme_words.specs.declared.shape.Shape.{Shape}
use Rattle.rme_words.specs.declared.address.Address.TheVariants.{Cell}
use Rattle.rme_process_file.specs.ProcessFiles.{ProcessFileView, file_memory}
use Rattle.rme_process_file.proofs.Rows.{row_next, row_whole}
use Rattle.rme_process_file.proofs.process_file.ProcessFile.row.Goals as goal

pub loop-cell-preserved : goal.loop-cell-preserved
loop-cell-preserved c =
    row_next c.args.self.now c.args.lock c.loop-cell.cell c.load.result c.shape-shape.result.cells c.loop-cell.row c.set.new.self (ap (λ (s : Shape). s.cells) c.shape-shape.ensures)
    c.loop-cell.invariant.0 c.loop-cell-test.true (c.load.ensures ∙ ap (λ (file : ProcessFileView). file_memory file (Cell c.args.lock c.loop-cell.cell)) c.self.view_is) c.set.ensures c.loop-cell.invariant.1

pub returns : goal.returns
returns c =
    row_whole c.args.self.now c.args.lock c.loop-cell.cell c.shape-shape.result.cells c.loop-cell.row (ap (λ (s : Shape). s.cells) c.shape-shape.ensures)
    c.loop-cell.invariant.0 c.loop-cell-test.false c.loop-cell.auto.cell-end c.loop-cell.invariant.1
