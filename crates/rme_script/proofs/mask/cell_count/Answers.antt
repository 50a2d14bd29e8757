use Rattle.std.proofs.Common.{sym, ◌∙◌, arith}
use Rattle.rme_script.proofs.Rising.{count_start, count_hit, count_miss, count_end}
use Rattle.rme_script.proofs.mask.cell_count.Goals as goal
use Rattle.rme_script.proofs.mask.cell_count.Goals.{then-has_cell, else-has_cell}

pub loop-c-init : goal.loop-c-init
loop-c-init c = record { counted = count_start c.args.mask c.args.cells; most = omega arith }

pub loop-c-preserved : goal.loop-c-preserved
loop-c-preserved c =
    elim c.if-has_cell.branch [
      | then-has_cell w ↦ record {
        counted = rw w.count-is (count_hit c.args.mask c.args.cells c.loop-c.c c.loop-c.count c.loop-c-test.true (sym c.has_cell.ensures ∙ w.if-has_cell.true) c.loop-c.invariant.counted);
        most = omega arith;
      }
      | else-has_cell w ↦ record {
        counted = rw w.count-is (count_miss c.args.mask c.args.cells c.loop-c.c c.loop-c.count c.loop-c-test.true (sym c.has_cell.ensures ∙ w.if-has_cell.false) c.loop-c.invariant.counted);
        most = omega arith;
      }
    ]

pub returns-clause-count : goal.returns-clause-count
returns-clause-count c = count_end c.args.mask c.args.cells c.loop-c.c c.loop-c.count c.loop-c-test.false c.loop-c.invariant.counted
