use Rattle.rme_service_phases.proofs.Outcomes.{passed_on}
use Rattle.rme_service_phases.proofs.Ascents.{climb_begins, climb_may, climb_fell, climb_blocked, climb_more, climb_ends}
use Rattle.rme_service_phases.proofs.climbing.climb.Goals as goal

pub loop-level-init : goal.loop-level-init
loop-level-init g c = climb_begins _ _ _ _ _ c.requires.ours c.requires.at

pub swap-requires-clause-ours : goal.swap-requires-clause-ours
swap-requires-clause-ours g c = c.loop-level.invariant.ours

pub swap-requires-clause-may : goal.swap-requires-clause-may
swap-requires-clause-may g c =
    climb_may _ _ _ _ _ _ _ _ c.loop-level.invariant _ c.shape-shape.ensures c.loop-level-test.true _ _ _ _ c.worker-worker.ensures.worker c.node.ensures.node c.node.ensures.is_node c.node.ensures.below_leaves
    c.node_at-at.ensures c.side-own.ensures.side

pub returns-in_err-found : goal.returns-in_err-found
returns-in_err-found g c = passed_on _ _ _ c.from_residual.ensures.0 (climb_fell _ _ _ _ _ _ _ _ c.loop-level.invariant _ c.shape-shape.ensures c.loop-level-test.true _ _ c.in_err-found.ensures)

pub returns-then-found-ne0 : goal.returns-then-found-ne0
returns-then-found-ne0 g c = climb_blocked _ _ _ _ _ _ _ _ c.loop-level.invariant _ c.shape-shape.ensures c.loop-level-test.true _ _ _ c.in_ok-found.ensures c.if-found-ne0.true

pub loop-level-preserved : goal.loop-level-preserved
loop-level-preserved g c = climb_more _ _ _ _ _ _ _ _ c.loop-level.invariant _ c.shape-shape.ensures c.loop-level-test.true _ _ _ c.in_ok-found.ensures c.if-found-ne0.false

pub returns : goal.returns
returns g c = climb_ends _ _ _ _ _ _ _ _ c.loop-level.invariant _ c.shape-shape.ensures c.loop-level-test.false
