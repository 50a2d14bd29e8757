use Rattle.std.proofs.Common.{arith}
use Rattle.rme_core_checker.proofs.StateReads.{cells_reach, row_read}
use Rattle.rme_core_checker.proofs.checker_state.CheckerState.cells.Goals as goal

pub index-requires : goal.index-requires
index-requires c =
    let counted = c.self.inside.fold.rows.ok.0 in
    let reach = cells_reach _ _ _ _ c.self.invariant.fold c.args.lock c.if-lock-self.false in
    omega (arith, counted, reach)

pub returns-clause-some : goal.returns-clause-some
returns-clause-some c =
    rw (← c.self.view_is)
    (row_read _ _ _ _ c.self.invariant.fold c.args.lock c.if-lock-self.false c.index.result.now c.index.ensures)
