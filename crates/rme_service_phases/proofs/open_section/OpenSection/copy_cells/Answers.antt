use Rattle.std.proofs.Common.{◌∙◌, arith}
use Rattle.rme_program.specs.Steps.{copy_stage_from}
use Rattle.rme_service_phases.specs.Sections.{visit_of_part}
use Rattle.rme_service_steps.proofs.Chains.{falls_at}
use Rattle.rme_service_phases.proofs.Outcomes.{passed_on}
use Rattle.rme_service_phases.proofs.Masked.{mask_begins, mask_below, mask_at, mask_more, mask_fell, mask_ends, found_cell}
use Rattle.rme_service_phases.proofs.Copied.{shadow_may, cell_may, cell_copied, cell_fell}
use Rattle.rme_service_phases.proofs.open_section.OpenSection.copy_cells.Goals as goal

pub loop-cell-init : goal.loop-cell-init
loop-cell-init g c = mask_begins _ _ _ _ 2 _ (copy_stage_from (visit_of_part c.args.seat.now.part c.args.self.lock c.args.self.turn) c.args.mask) c.requires.ours c.requires.at

pub load-requires-clause-ours : goal.load-requires-clause-ours
load-requires-clause-ours g c = c.loop-cell.invariant.ours

pub load-requires-clause-may : goal.load-requires-clause-may
load-requires-clause-may g c =
    let found = found_cell _ _ _ _ _ _ c.in-Some.ensures.first c.cells.ensures c.shape-shape.ensures in
    let here = mask_at _ _ _ _ _ _ _ _ _ (copy_stage_from (visit_of_part c.args.seat.now.part c.args.self.lock c.args.self.turn) c.args.mask) c.loop-cell.invariant _ found in
    let below = mask_below _ _ _ _ _ _ _ _ _ (copy_stage_from (visit_of_part c.args.seat.now.part c.args.self.lock c.args.self.turn) c.args.mask) c.loop-cell.invariant _ found in
    shadow_may _ c.loop-cell.seat (g.C.Chance.tally c.loop-cell.chance) _ _ _ _ here c.requires.lock below.0 _ _ c.shape-shape.ensures c.shadow_at.ensures

pub returns-in_err-value : goal.returns-in_err-value
returns-in_err-value g c =
    let found = found_cell _ _ _ _ _ _ c.in-Some.ensures.first c.cells.ensures c.shape-shape.ensures in
    passed_on _ _ _ c.from_residual.ensures.0 (mask_fell _ _ _ _ _ _ _ _ _ (copy_stage_from (visit_of_part c.args.seat.now.part c.args.self.lock c.args.self.turn) c.args.mask) c.loop-cell.invariant _ _ _ found
    (falls_at _ _ _ _ _ _ 2 c.in_err-value.ensures (omega arith)))

pub store-requires-clause-ours : goal.store-requires-clause-ours
store-requires-clause-ours g c = let made = c.in_ok-value.ensures in made.ident ∙ c.loop-cell.invariant.ours

pub store-requires-clause-may : goal.store-requires-clause-may
store-requires-clause-may g c =
    let found = found_cell _ _ _ _ _ _ c.in-Some.ensures.first c.cells.ensures c.shape-shape.ensures in
    let here = mask_at _ _ _ _ _ _ _ _ _ (copy_stage_from (visit_of_part c.args.seat.now.part c.args.self.lock c.args.self.turn) c.args.mask) c.loop-cell.invariant _ found in
    let below = mask_below _ _ _ _ _ _ _ _ _ (copy_stage_from (visit_of_part c.args.seat.now.part c.args.self.lock c.args.self.turn) c.args.mask) c.loop-cell.invariant _ found in
    cell_may _ c.loop-cell.seat (g.C.Chance.tally c.loop-cell.chance) _ _ _ _ here c.requires.lock below.0 _ _ _ c.in_ok-value.ensures _ _ c.shape-shape.ensures c.cell_at.ensures

pub returns-in_err-store : goal.returns-in_err-store
returns-in_err-store g c =
    let found = found_cell _ _ _ _ _ _ c.in-Some.ensures.first c.cells.ensures c.shape-shape.ensures in
    let here = mask_at _ _ _ _ _ _ _ _ _ (copy_stage_from (visit_of_part c.args.seat.now.part c.args.self.lock c.args.self.turn) c.args.mask) c.loop-cell.invariant _ found in
    let below = mask_below _ _ _ _ _ _ _ _ _ (copy_stage_from (visit_of_part c.args.seat.now.part c.args.self.lock c.args.self.turn) c.args.mask) c.loop-cell.invariant _ found in
    passed_on _ _ _ c.from_residual-in_err-store.ensures.0 (mask_fell _ _ _ _ _ _ _ _ _ (copy_stage_from (visit_of_part c.args.seat.now.part c.args.self.lock c.args.self.turn) c.args.mask) c.loop-cell.invariant _ _ _ found
    (cell_fell _ c.loop-cell.seat (g.C.Chance.tally c.loop-cell.chance) _ _ _ _ here c.requires.lock below.0 _ _ _ c.in_ok-value.ensures _ _ c.in_err-store.ensures))

pub loop-cell-smaller : goal.loop-cell-smaller
loop-cell-smaller g c =
    let found = found_cell _ _ _ _ _ _ c.in-Some.ensures.first c.cells.ensures c.shape-shape.ensures in
    let below = mask_below _ _ _ _ _ _ _ _ _ (copy_stage_from (visit_of_part c.args.seat.now.part c.args.self.lock c.args.self.turn) c.args.mask) c.loop-cell.invariant _ found in
    omega (arith, below.0, below.1)

pub loop-cell-preserved : goal.loop-cell-preserved
loop-cell-preserved g c =
    let found = found_cell _ _ _ _ _ _ c.in-Some.ensures.first c.cells.ensures c.shape-shape.ensures in
    let here = mask_at _ _ _ _ _ _ _ _ _ (copy_stage_from (visit_of_part c.args.seat.now.part c.args.self.lock c.args.self.turn) c.args.mask) c.loop-cell.invariant _ found in
    let below = mask_below _ _ _ _ _ _ _ _ _ (copy_stage_from (visit_of_part c.args.seat.now.part c.args.self.lock c.args.self.turn) c.args.mask) c.loop-cell.invariant _ found in
    let made = c.in_ok-value.ensures in
    let stored = c.in_ok-store.ensures in
    mask_more _ _ _ _ _ _ _ _ _ (copy_stage_from (visit_of_part c.args.seat.now.part c.args.self.lock c.args.self.turn) c.args.mask) _ c.loop-cell.invariant _ _ _ found (stored.ident ∙ made.ident)
    (cell_copied _ c.loop-cell.seat (g.C.Chance.tally c.loop-cell.chance) _ _ _ _ here c.requires.lock below.0 _ _ _ made _ _ stored)

pub returns : goal.returns
returns g c =
    let none = found_cell _ _ _ _ _ _ c.in_default.ensures.first c.cells.ensures c.shape-shape.ensures in
    mask_ends _ _ _ _ _ _ _ _ _ (copy_stage_from (visit_of_part c.args.seat.now.part c.args.self.lock c.args.self.turn) c.args.mask) c.loop-cell.invariant none
