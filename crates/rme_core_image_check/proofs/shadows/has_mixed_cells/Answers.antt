use Rattle.std.proofs.Common.{ℕ, ap}
use Rattle.rme_words.specs.declared.shape.Shape.{Shape}
use Rattle.rme_words.specs.declared.address.Address.TheVariants.{Cell}
use Rattle.rme_words.specs.Words.{memory_of}
use Rattle.rme_core_image_check.proofs.Answering.{no_to, yes_to}
use Rattle.rme_core_image_check.proofs.Shadowing.{mixed_off, mixed_all}
use Rattle.rme_core_image_check.proofs.shadows.has_mixed_cells.Goals as goal

pub returns-then-cell-get-2 : goal.returns-then-cell-get-2
returns-then-cell-get-2 c =
    no_to (mixed_off (λ (k : ℕ). memory_of c.args.bank.now (Cell c.args.lock k)) _ _ (ap (λ (s : Shape). s.cells) c.shape-c-end.ensures)
    c.args.before.now c.args.after.now c.loop-c.c c.load-cell.result c.get.result c.get-then-cell-get.result c.loop-c-test.true c.load-cell.ensures
    c.get.ensures c.get-then-cell-get.ensures c.if-cell-get.true c.if-cell-get-2.true)

pub returns : goal.returns
returns c =
    yes_to (mixed_all (λ (k : ℕ). memory_of c.args.bank.now (Cell c.args.lock k)) _ _ (ap (λ (s : Shape). s.cells) c.shape-c-end.ensures)
    c.args.before.now c.args.after.now c.loop-c.c c.loop-c-test.false c.loop-c.invariant)
