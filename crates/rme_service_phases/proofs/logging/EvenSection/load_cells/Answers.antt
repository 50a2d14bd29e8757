use Rattle.std.proofs.Common.{◌≡◌, ℕ, List, length, sym, ◌∙◌, ap, arith}
use Rattle.std.proofs.lemmas.List.{length-set, length-replicate}
use Rattle.std.specs.Prelude.{replicate}
use Rattle.rme_words.specs.declared.shape.Shape.{Shape}
use Rattle.rme_program.specs.Masks.{first_cell}
use Rattle.rme_program.specs.Steps.{cell_stage_from, logging_section}
use Rattle.rme_service_steps.proofs.Chains.{falls_at}
use Rattle.rme_service_phases.proofs.Outcomes.{passed_on}
use Rattle.rme_service_phases.proofs.Masked.{mask_begins, mask_below, mask_at, mask_more, mask_fell, mask_ends, found_cell}
use Rattle.rme_service_phases.proofs.Parts.{before_at}
use Rattle.rme_service_phases.proofs.Logged.{named_may, named_loaded}
use Rattle.rme_service_phases.proofs.logging.EvenSection.load_cells.Goals as goal

all_zeros : (s shape : Shape) (row : List ℕ) → shape ≡ s → row ≡ replicate shape.cells 0 → row ≡ replicate s.cells 0
all_zeros s shape row same zeros = zeros ∙ ap (λ (x : Shape). replicate x.cells 0) same

pub loop-cell-init : goal.loop-cell-init
loop-cell-init g c = record {
  over = mask_begins _ _ _ _ 1 _ (cell_stage_from c.args.service.now.shape (logging_section c.args.self.lock c.args.self.turn c.args.script.now c.args.self.named) c.zeros-row.result) c.requires.ours
      (before_at c.requires.at (ap (λ (row : List ℕ). cell_stage_from c.args.service.now.shape (logging_section c.args.self.lock c.args.self.turn c.args.script.now c.args.self.named) row (first_cell c.args.self.named 0 c.args.service.now.shape.cells)) (sym (all_zeros _ _ _ c.shape-shape.ensures c.zeros-row.ensures))));
  long = ap length (all_zeros _ _ _ c.shape-shape.ensures c.zeros-row.ensures) ∙ length-replicate c.args.service.now.shape.cells 0;
}

pub load-requires-clause-ours : goal.load-requires-clause-ours
load-requires-clause-ours g c = c.loop-cell.invariant.over.ours

pub load-requires-clause-may : goal.load-requires-clause-may
load-requires-clause-may g c =
    let found = found_cell _ _ _ _ _ _ c.in-Some.ensures.first c.cells.ensures c.shape-shape.ensures in
    let here = mask_at _ _ _ _ _ _ _ _ _ (cell_stage_from c.args.service.now.shape (logging_section c.args.self.lock c.args.self.turn c.args.script.now c.args.self.named) c.loop-cell.row) c.loop-cell.invariant.over _ found in
    let below = mask_below _ _ _ _ _ _ _ _ _ (cell_stage_from c.args.service.now.shape (logging_section c.args.self.lock c.args.self.turn c.args.script.now c.args.self.named) c.loop-cell.row) c.loop-cell.invariant.over _ found in
    named_may _ c.loop-cell.seat (g.C.Chance.tally c.loop-cell.chance) _ _ _ _ _ _ _ here c.requires.lock below.0 _ _ c.shape-shape.ensures c.cell_at.ensures

pub returns-in_err-value-clause-loads : goal.returns-in_err-value-clause-loads
returns-in_err-value-clause-loads g c =
    let found = found_cell _ _ _ _ _ _ c.in-Some.ensures.first c.cells.ensures c.shape-shape.ensures in
    passed_on _ _ _ c.from_residual.ensures.0 (mask_fell _ _ _ _ _ _ _ _ _ (cell_stage_from c.args.service.now.shape (logging_section c.args.self.lock c.args.self.turn c.args.script.now c.args.self.named) c.loop-cell.row) c.loop-cell.invariant.over _ _ _ found
    (falls_at _ _ _ _ _ _ 1 c.in_err-value.ensures (omega arith)))

pub loop-cell-smaller : goal.loop-cell-smaller
loop-cell-smaller g c =
    let found = found_cell _ _ _ _ _ _ c.in-Some.ensures.first c.cells.ensures c.shape-shape.ensures in
    let below = mask_below _ _ _ _ _ _ _ _ _ (cell_stage_from c.args.service.now.shape (logging_section c.args.self.lock c.args.self.turn c.args.script.now c.args.self.named) c.loop-cell.row) c.loop-cell.invariant.over _ found in
    omega (arith, below.0, below.1)

pub loop-cell-preserved : goal.loop-cell-preserved
loop-cell-preserved g c =
    let found = found_cell _ _ _ _ _ _ c.in-Some.ensures.first c.cells.ensures c.shape-shape.ensures in
    let here = mask_at _ _ _ _ _ _ _ _ _ (cell_stage_from c.args.service.now.shape (logging_section c.args.self.lock c.args.self.turn c.args.script.now c.args.self.named) c.loop-cell.row) c.loop-cell.invariant.over _ found in
    let below = mask_below _ _ _ _ _ _ _ _ _ (cell_stage_from c.args.service.now.shape (logging_section c.args.self.lock c.args.self.turn c.args.script.now c.args.self.named) c.loop-cell.row) c.loop-cell.invariant.over _ found in
    let made = c.in_ok-value.ensures in
    record {
      over = mask_more _ _ _ _ _ _ _ _ _ (cell_stage_from c.args.service.now.shape (logging_section c.args.self.lock c.args.self.turn c.args.script.now c.args.self.named) c.loop-cell.row) (cell_stage_from c.args.service.now.shape (logging_section c.args.self.lock c.args.self.turn c.args.script.now c.args.self.named) c.set.new.self) c.loop-cell.invariant.over _ _ _ found made.ident
          (named_loaded _ c.loop-cell.seat (g.C.Chance.tally c.loop-cell.chance) _ _ _ _ _ _ _ here c.requires.lock below.0 _ _ _ _ c.set.ensures made);
      long = ap length c.set.ensures ∙ length-set c.loop-cell.row c.in-Some.cell c.in_ok-value.value ∙ c.loop-cell.invariant.long;
    }

pub returns-clause-loads : goal.returns-clause-loads
returns-clause-loads g c =
    let none = found_cell _ _ _ _ _ _ c.in_default.ensures.first c.cells.ensures c.shape-shape.ensures in
    mask_ends _ _ _ _ _ _ _ _ _ (cell_stage_from c.args.service.now.shape (logging_section c.args.self.lock c.args.self.turn c.args.script.now c.args.self.named) c.loop-cell.row) c.loop-cell.invariant.over none
