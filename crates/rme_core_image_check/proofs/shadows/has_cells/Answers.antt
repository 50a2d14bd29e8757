use Rattle.std.proofs.Common.{ℕ, ap}
use Rattle.rme_words.specs.declared.shape.Shape.{Shape}
use Rattle.rme_words.specs.declared.address.Address.TheVariants.{Cell}
use Rattle.rme_words.specs.Words.{memory_of}
use Rattle.rme_core_image_check.proofs.Answering.{no_to, yes_to}
use Rattle.rme_core_image_check.proofs.Shadowing.{cell_off, cells_same}
use Rattle.rme_core_image_check.proofs.shadows.has_cells.Goals as goal

pub returns-then-load-get : goal.returns-then-load-get
returns-then-load-get c =
    no_to (cell_off (λ (k : ℕ). memory_of c.args.bank.now (Cell c.args.lock k)) _ _ (ap (λ (s : Shape). s.cells) c.shape-c-end.ensures)
    c.args.row.now c.loop-c.c c.load.result c.get.result c.loop-c-test.true c.load.ensures c.get.ensures c.if-load-get.true)

pub returns : goal.returns
returns c =
    yes_to (cells_same (λ (k : ℕ). memory_of c.args.bank.now (Cell c.args.lock k)) _ _ (ap (λ (s : Shape). s.cells) c.shape-c-end.ensures)
    c.args.row.now c.loop-c.c c.requires.row c.loop-c-test.false c.loop-c.invariant)
