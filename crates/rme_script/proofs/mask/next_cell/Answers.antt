use Rattle.std.proofs.Common.{◌≡◌, false, sym, ◌∙◌}
use Rattle.rme_script.specs.Cells.{mask_has_cell}
use Rattle.rme_script.proofs.Rising.{cells_from_hit, cells_from_miss, cells_from_end, none_more}
use Rattle.rme_script.proofs.mask.next_cell.Goals as goal

pub loop-c-preserved : goal.loop-c-preserved
loop-c-preserved c =
    let missed : mask_has_cell c.args.mask c.loop-c.c ≡ false = sym c.has_cell.ensures ∙ c.if-has_cell.false in
    record {
      rest = sym (cells_from_miss c.args.mask c.loop-c.c c.args.cells c.loop-c-test.true missed) ∙ c.loop-c.invariant.rest;
      none = none_more c.args.mask c.args.from c.loop-c.c c.loop-c.invariant.none missed;
    }

pub returns-then-has_cell-clause-rest : goal.returns-then-has_cell-clause-rest
returns-then-has_cell-clause-rest c =
    sym c.loop-c.invariant.rest ∙ cells_from_hit c.args.mask c.loop-c.c c.args.cells c.loop-c-test.true (sym c.has_cell.ensures ∙ c.if-has_cell.true)

pub returns-clause-rest : goal.returns-clause-rest
returns-clause-rest c = sym c.loop-c.invariant.rest ∙ cells_from_end c.args.mask c.loop-c.c c.args.cells c.loop-c-test.false
