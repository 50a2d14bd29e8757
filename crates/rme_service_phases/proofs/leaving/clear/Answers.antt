use Rattle.std.proofs.Common.{ap, arith}
use Rattle.rme_words.specs.declared.shape.Shape.{Shape}
use Rattle.rme_service_phases.proofs.Outcomes.{passed_on}
use Rattle.rme_service_phases.proofs.Clearing.{clear_begins, clear_may, clear_more, clear_fell, clear_ends}
use Rattle.rme_service_phases.proofs.leaving.clear.Goals as goal

pub loop-level-init : goal.loop-level-init
loop-level-init g c = clear_begins _ _ _ _ _ c.requires.ours c.requires.at

pub node-requires-clause-to_root : goal.node-requires-clause-to_root
node-requires-clause-to_root g c =
    let top = ap (λ (x : Shape). x.height) c.shape-shape.ensures in
    let few = c.loop-level.invariant.few in
    omega (arith, top, few, c.requires.levels)

pub store-requires-clause-ours : goal.store-requires-clause-ours
store-requires-clause-ours g c = c.loop-level.invariant.ours

pub store-requires-clause-may : goal.store-requires-clause-may
store-requires-clause-may g c =
    clear_may _ _ _ _ _ _ _ _ c.loop-level.invariant _ _ _ _ c.loop-level-test.true c.shape-shape.ensures c.worker-worker.ensures.worker c.node.ensures.node c.node.ensures.is_node c.node.ensures.below_leaves
    c.node_at-at.ensures c.requires.lock

pub returns-in_err-store : goal.returns-in_err-store
returns-in_err-store g c = passed_on _ _ _ c.from_residual.ensures.0 (clear_fell _ _ _ _ _ _ _ _ c.loop-level.invariant _ _ c.loop-level-test.true c.in_err-store.ensures)

pub loop-level-preserved : goal.loop-level-preserved
loop-level-preserved g c = clear_more _ _ _ _ _ _ _ _ c.loop-level.invariant _ _ c.loop-level-test.true c.in_ok-store.ensures

pub returns : goal.returns
returns g c = clear_ends _ _ _ _ _ _ _ _ c.loop-level.invariant (let none = c.loop-level-test.false in omega (arith, none))
