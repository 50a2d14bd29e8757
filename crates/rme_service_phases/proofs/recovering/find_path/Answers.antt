use Rattle.rme_service_phases.proofs.Outcomes.{passed_on}
use Rattle.rme_service_phases.proofs.Lookups.{path_begins, path_may, path_fell, path_ends_below, path_more, path_ends}
use Rattle.rme_service_phases.proofs.recovering.find_path.Goals as goal

pub loop-held-init : goal.loop-held-init
loop-held-init g c = path_begins _ _ _ _ _ c.requires.ours c.requires.at

pub load-requires-clause-ours : goal.load-requires-clause-ours
load-requires-clause-ours g c = c.loop-held.invariant.ours

pub load-requires-clause-may : goal.load-requires-clause-may
load-requires-clause-may g c =
    path_may _ _ _ _ _ _ _ _ c.loop-held.invariant _ c.shape-shape.ensures c.loop-held-test.true _ _ _ c.worker-worker.ensures.worker c.node.ensures.node c.node.ensures.is_node c.node.ensures.below_leaves c.node_at-at.ensures

pub returns-in_err-word : goal.returns-in_err-word
returns-in_err-word g c = passed_on _ _ _ c.from_residual.ensures.0 (path_fell _ _ _ _ _ _ _ _ c.loop-held.invariant _ c.shape-shape.ensures c.loop-held-test.true _ _ c.in_err-word.ensures)

pub returns-then-word-side : goal.returns-then-word-side
returns-then-word-side g c = path_ends_below _ _ _ _ _ _ _ _ c.loop-held.invariant _ c.shape-shape.ensures c.loop-held-test.true _ _ _ c.in_ok-word.ensures _ _ c.worker-worker.ensures.worker c.side.ensures.side c.if-word-side.true _ c.partial_resume_point.ensures.leads c.partial_resume_point.ensures.read

pub loop-held-preserved : goal.loop-held-preserved
loop-held-preserved g c = path_more _ _ _ _ _ _ _ _ c.loop-held.invariant _ c.shape-shape.ensures c.loop-held-test.true _ _ _ c.in_ok-word.ensures _ _ c.worker-worker.ensures.worker c.side.ensures.side c.if-word-side.false

pub returns : goal.returns
returns g c = path_ends _ _ _ _ _ _ _ _ c.loop-held.invariant _ c.shape-shape.ensures c.loop-held-test.false
