use Rattle.std.proofs.Common.{arith}
use Rattle.rme_service_phases.proofs.Outcomes.{passed_on}
use Rattle.rme_service_phases.proofs.Writing.{write_begins, write_small, write_within, write_may, write_more, write_fell, write_ends}
use Rattle.rme_service_phases.proofs.posting.write_operations.Goals as goal

pub loop-i-init : goal.loop-i-init
loop-i-init g c = write_begins _ _ _ _ c.requires.ours c.requires.at

pub slate_at-at-requires-clause-operation : goal.slate_at-at-requires-clause-operation
slate_at-at-requires-clause-operation g c = write_small _ _ _ _ _ _ _ c.loop-i.invariant _ c.n-i-end.ensures.n c.loop-i-test.true

pub slate_word-requires : goal.slate_word-requires
slate_word-requires g c = write_within _ _ _ _ _ _ _ c.loop-i.invariant _ c.n-i-end.ensures.n c.loop-i-test.true

pub store-requires-clause-ours : goal.store-requires-clause-ours
store-requires-clause-ours g c = c.loop-i.invariant.ours

pub store-requires-clause-may : goal.store-requires-clause-may
store-requires-clause-may g c =
    write_may _ _ _ _ _ _ _ c.loop-i.invariant _ _ _ _ _ c.n-i-end.ensures.n c.loop-i-test.true c.shape-shape.ensures c.worker-worker.ensures.worker c.slate_at-at.ensures c.slate_word.ensures

pub returns-in_err-store : goal.returns-in_err-store
returns-in_err-store g c = passed_on _ _ _ c.from_residual.ensures.0 (write_fell _ _ _ _ _ _ _ c.loop-i.invariant _ _ _ c.n-i-end.ensures.n c.loop-i-test.true c.in_err-store.ensures)

pub loop-i-preserved : goal.loop-i-preserved
loop-i-preserved g c = write_more _ _ _ _ _ _ _ c.loop-i.invariant _ _ _ _ c.n-i-end.ensures.n c.loop-i-test.true c.in_ok-store.ensures

pub returns : goal.returns
returns g c = write_ends _ _ _ _ _ _ _ c.loop-i.invariant _ c.n-i-end.ensures.n (let done = c.loop-i-test.false in let most = c.loop-i.auto.i-end in omega (arith, done, most))
