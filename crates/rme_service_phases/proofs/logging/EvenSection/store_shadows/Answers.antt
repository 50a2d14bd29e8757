use Rattle.std.proofs.Common.{arith}
use Rattle.rme_program.specs.Steps.{shadow_stage_from}
use Rattle.rme_service_steps.proofs.Chains.{falls_at}
use Rattle.rme_service_phases.specs.Sections.{visit_from_even_turn}
use Rattle.rme_service_phases.proofs.Outcomes.{passed_on}
use Rattle.rme_service_phases.proofs.Masked.{mask_begins, mask_below, mask_at, mask_more, mask_fell, mask_ends, found_cell}
use Rattle.rme_service_phases.proofs.Logged.{shadow_may, shadow_stored}
use Rattle.rme_service_phases.proofs.logging.EvenSection.store_shadows.Goals as goal

pub loop-cell-init : goal.loop-cell-init
loop-cell-init g c = mask_begins _ _ _ _ 1 _ (shadow_stage_from (visit_from_even_turn c.args.self.lock c.args.self.turn c.args.self.operations c.args.self.named) c.args.self.named c.args.outcome.now.row c.args.outcome.now.reply) c.requires.ours c.requires.at

pub store-requires-clause-ours : goal.store-requires-clause-ours
store-requires-clause-ours g c = c.loop-cell.invariant.ours

pub store-requires-clause-may : goal.store-requires-clause-may
store-requires-clause-may g c =
    let found = found_cell _ _ _ _ _ _ c.in-Some.ensures.first c.cells.ensures c.shape-shape.ensures in
    let here = mask_at _ _ _ _ _ _ _ _ _ (shadow_stage_from (visit_from_even_turn c.args.self.lock c.args.self.turn c.args.self.operations c.args.self.named) c.args.self.named c.args.outcome.now.row c.args.outcome.now.reply) c.loop-cell.invariant _ found in
    let below = mask_below _ _ _ _ _ _ _ _ _ (shadow_stage_from (visit_from_even_turn c.args.self.lock c.args.self.turn c.args.self.operations c.args.self.named) c.args.self.named c.args.outcome.now.row c.args.outcome.now.reply) c.loop-cell.invariant _ found in
    shadow_may _ c.loop-cell.seat (g.C.Chance.tally c.loop-cell.chance) _ _ _ _ _ _ here c.requires.lock below.0 _ _ _ c.shape-shape.ensures c.shadow_at.ensures c.get.ensures

pub returns-in_err-store : goal.returns-in_err-store
returns-in_err-store g c =
    let found = found_cell _ _ _ _ _ _ c.in-Some.ensures.first c.cells.ensures c.shape-shape.ensures in
    passed_on _ _ _ c.from_residual.ensures.0 (mask_fell _ _ _ _ _ _ _ _ _ (shadow_stage_from (visit_from_even_turn c.args.self.lock c.args.self.turn c.args.self.operations c.args.self.named) c.args.self.named c.args.outcome.now.row c.args.outcome.now.reply) c.loop-cell.invariant _ _ _ found
    (falls_at _ _ _ _ _ _ 1 c.in_err-store.ensures (omega arith)))

pub loop-cell-smaller : goal.loop-cell-smaller
loop-cell-smaller g c =
    let found = found_cell _ _ _ _ _ _ c.in-Some.ensures.first c.cells.ensures c.shape-shape.ensures in
    let below = mask_below _ _ _ _ _ _ _ _ _ (shadow_stage_from (visit_from_even_turn c.args.self.lock c.args.self.turn c.args.self.operations c.args.self.named) c.args.self.named c.args.outcome.now.row c.args.outcome.now.reply) c.loop-cell.invariant _ found in
    omega (arith, below.0, below.1)

pub loop-cell-preserved : goal.loop-cell-preserved
loop-cell-preserved g c =
    let found = found_cell _ _ _ _ _ _ c.in-Some.ensures.first c.cells.ensures c.shape-shape.ensures in
    let here = mask_at _ _ _ _ _ _ _ _ _ (shadow_stage_from (visit_from_even_turn c.args.self.lock c.args.self.turn c.args.self.operations c.args.self.named) c.args.self.named c.args.outcome.now.row c.args.outcome.now.reply) c.loop-cell.invariant _ found in
    let below = mask_below _ _ _ _ _ _ _ _ _ (shadow_stage_from (visit_from_even_turn c.args.self.lock c.args.self.turn c.args.self.operations c.args.self.named) c.args.self.named c.args.outcome.now.row c.args.outcome.now.reply) c.loop-cell.invariant _ found in
    let made = c.in_ok-store.ensures in
    mask_more _ _ _ _ _ _ _ _ _ (shadow_stage_from (visit_from_even_turn c.args.self.lock c.args.self.turn c.args.self.operations c.args.self.named) c.args.self.named c.args.outcome.now.row c.args.outcome.now.reply) _ c.loop-cell.invariant _ _ _ found made.ident
    (shadow_stored _ c.loop-cell.seat (g.C.Chance.tally c.loop-cell.chance) _ _ _ _ _ _ here c.requires.lock below.0 _ _ _ made)

pub returns : goal.returns
returns g c =
    let none = found_cell _ _ _ _ _ _ c.in_default.ensures.first c.cells.ensures c.shape-shape.ensures in
    mask_ends _ _ _ _ _ _ _ _ _ (shadow_stage_from (visit_from_even_turn c.args.self.lock c.args.self.turn c.args.self.operations c.args.self.named) c.args.self.named c.args.outcome.now.row c.args.outcome.now.reply) c.loop-cell.invariant none
