use Rattle.std.proofs.Common.{ℕ, arith, inl, inr, subst, sym}
use Rattle.std.proofs.lemmas.Bool.{cases_eq}
use Rattle.rme_durable_checkpoint.specs.Checkpoints.{IsWorkerAlike}
use Rattle.rme_durable_checkpoint.proofs.validation.same_workers.Goals as goal

pub loop-worker-preserved : goal.loop-worker-preserved
loop-worker-preserved c =
    λ worker less. elim (cases_eq worker c.loop-worker.worker) [
      | inl same ↦
          (let P = λ (w : ℕ). IsWorkerAlike c.args.before.now.base.now c.args.before.now.executor.now c.args.after.now.base.now c.args.after.now.executor.now w in
          subst P (sym same) (c.is_worker_alike.ensures c.if-not-is_worker_alike.false))
      | inr apart ↦ c.loop-worker.invariant worker (omega (arith, less, apart))
    ]
