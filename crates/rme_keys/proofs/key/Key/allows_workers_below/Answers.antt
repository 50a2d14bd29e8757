use Rattle.std.proofs.Common.{refl, sym, ◌∙◌, below_more, arith}
use Rattle.std.proofs.lemmas.Bool.{false≢true}
use Rattle.rme_keys.specs.Allowing.{AllowsWorker}
use Rattle.rme_keys.proofs.key.Key.allows_workers_below.Goals as goal

pub returns-then-not-allows_worker : goal.returns-then-not-allows_worker
returns-then-not-allows_worker c = (
  λ never. absurd (false≢true never),
  λ all. absurd (false≢true (sym c.if-not-allows_worker.true ∙ c.allows_worker.ensures.1 (all c.loop-worker.worker (omega arith)))),
)

pub loop-worker-preserved : goal.loop-worker-preserved
loop-worker-preserved c =
    below_more (λ k. AllowsWorker c.args.self.now k) c.loop-worker.worker c.loop-worker.invariant (c.allows_worker.ensures.0 c.if-not-allows_worker.false)

pub returns : goal.returns
returns c = (λ _ k below. c.loop-worker.invariant k (omega arith), λ _. refl)
