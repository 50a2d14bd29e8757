use Rattle.std.proofs.Common.{arith}
use Rattle.rme_program.proofs.Counts.{cells_below_less}
use Rattle.rme_program.proofs.progress.cells_left.Goals as goal

pub overflow_sub-result : goal.overflow_sub-result
overflow_sub-result c = omega (arith, cells_below_less c.args.mask c.args.cell c.args.cells c.requires.within, c.cell_count.ensures.count, c.cell_count-2.ensures.count)

pub returns-clause-sum : goal.returns-clause-sum
returns-clause-sum c = omega (arith, cells_below_less c.args.mask c.args.cell c.args.cells c.requires.within, c.cell_count.ensures.count, c.cell_count-2.ensures.count)
