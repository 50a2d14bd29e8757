use Rattle.std.proofs.Common.{ℕ, ◌∙◌, ap, arith}
use Rattle.rme_words.specs.declared.shape.Shape.{Shape}
use Rattle.rme_words.specs.Words.{memory_of}
use Rattle.rme_words.specs.declared.address.Address.TheVariants.{Cell}
use Rattle.rme_table.proofs.Filled.{cells_long, cells_more}
use Rattle.rme_table.proofs.filling.put_cells.Goals as goal

pub push_reserved-requires : goal.push_reserved-requires
push_reserved-requires c =
    let long = cells_long (λ (k : ℕ). memory_of c.args.bank.now (Cell c.args.lock k)) c.loop-cell.cell c.loop-cell.cells.items c.loop-cell.invariant.0 in
    let all = ap (λ (s : Shape). s.cells) c.shape-cell-end.ensures in
    omega (arith, long, all, c.loop-cell.cells.ok.0, c.loop-cell-test.true, c.requires.room, c.loop-cell.invariant.1)

pub loop-cell-preserved : goal.loop-cell-preserved
loop-cell-preserved c =
    (cells_more (λ (k : ℕ). memory_of c.args.bank.now (Cell c.args.lock k)) c.loop-cell.cell _ _ _ c.loop-cell.invariant.0 c.load.ensures c.push_reserved.ensures.items, c.push_reserved.ensures.capacity ∙ c.loop-cell.invariant.1)
