use Rattle.std.proofs.Common.{◌+◌, ap, subst, sym, ◌∙◌, arith}
use Rattle.std.specs.Prelude.{Option, is_some}
use Rattle.rme_words.specs.declared.shape.Shape.{Shape}
use Rattle.rme_program.specs.declared.private.Private.{Private}
use Rattle.rme_world.specs.WorldViews.{WorldView}
use Rattle.rme_session_world.proofs.Falling.{FallenTo, down_next, falls_next}
use Rattle.rme_session_world.proofs.executor.crash_all_workers.Goals as goal
use Rattle.rme_session_world.proofs.executor.crash_all_workers.Goals.{then-is_some, else-is_some}

pub loop-worker-preserved : goal.loop-worker-preserved
loop-worker-preserved c =
    let P = λ (s : WorldView). FallenTo (c.loop-worker.worker + 1) c.args.world.now s in
    let workers = ap (λ (s : Shape). s.workers) (c.shape-worker-end.ensures ∙ sym c.loop-worker.invariant.shape) in
    elim c.if-is_some.branch [
      | then-is_some w ↦ subst P (sym w.world-is) (falls_next c.loop-worker.worker c.args.world.now c.loop-worker.world w.crash_worker.new.world c.loop-worker.invariant w.crash_worker.ensures.crashed)
      | else-is_some w ↦ subst P (sym w.world-is)
          (down_next c.loop-worker.worker c.args.world.now c.loop-worker.world c.loop-worker.invariant c.known.ensures.kept (omega (arith, workers, c.loop-worker-test.true))
          (ap (λ (found : Option Private). is_some found) (sym c.known.ensures.known) ∙ sym c.is_some.ensures ∙ w.if-is_some.false))
    ]
