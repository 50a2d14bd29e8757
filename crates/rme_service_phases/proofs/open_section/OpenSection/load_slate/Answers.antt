use Rattle.std.proofs.Common.{refl, arith}
use Rattle.rme_service_phases.proofs.Outcomes.{passed_on}
use Rattle.rme_service_phases.proofs.Slated.{read_begins, read_may, read_more, read_fell, read_all, read_words}
use Rattle.rme_service_phases.proofs.open_section.OpenSection.load_slate.Goals as goal

pub loop-i-init : goal.loop-i-init
loop-i-init g c = read_begins _ _ _ _ _ _ _ refl c.requires.ours c.requires.at

pub load-requires-clause-ours : goal.load-requires-clause-ours
load-requires-clause-ours g c = c.loop-i.invariant.ours

pub load-requires-clause-may : goal.load-requires-clause-may
load-requires-clause-may g c =
    read_may _ _ _ _ _ _ _ _ _ _ c.loop-i.invariant _ _ _ c.requires.few c.loop-i-test.true c.shape-shape.ensures c.worker-worker.ensures.worker c.slate_at-at.ensures

pub returns-in_err-words-clause-loads : goal.returns-in_err-words-clause-loads
returns-in_err-words-clause-loads g c = passed_on _ _ _ c.from_residual.ensures.0 (read_fell _ _ _ _ _ _ _ _ _ _ c.loop-i.invariant _ _ c.loop-i-test.true c.in_err-words.ensures)

pub loop-i-preserved : goal.loop-i-preserved
loop-i-preserved g c = read_more _ _ _ _ _ _ _ _ _ _ c.loop-i.invariant c.requires.few c.requires.operations _ _ _ _ c.loop-i-test.true refl c.in_ok-words.ensures

pub returns-clause-read : goal.returns-clause-read
returns-clause-read g c = c.loop-i.invariant.good (let done = c.loop-i-test.false in let most = c.loop-i.auto.i-end in omega (arith, done, most))

pub returns-clause-loads : goal.returns-clause-loads
returns-clause-loads g c = read_all _ _ _ _ _ _ _ _ _ _ c.loop-i.invariant (let done = c.loop-i-test.false in let most = c.loop-i.auto.i-end in omega (arith, done, most))

pub returns-clause-drafted : goal.returns-clause-drafted
returns-clause-drafted g c = read_words _ _ _ _ _ _ _ _ _ _ c.loop-i.invariant (let done = c.loop-i-test.false in let most = c.loop-i.auto.i-end in omega (arith, done, most))
