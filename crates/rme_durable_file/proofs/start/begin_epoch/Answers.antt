use Rattle.std.proofs.Common.{◌≡◌, None, replicate, subst, sym}
use Rattle.rme_session_world.specs.Executors.{HasCrashedAll}
use Rattle.rme_session_world.specs.ExecutorStates.{ExecutorState}
use Rattle.rme_durable_file.proofs.start.begin_epoch.Goals as goal

pub returns-clause-begins : goal.returns-clause-begins
returns-clause-begins g =
    let found = g.args.recovered in
    record {
      base = g.new-2.ensures.base;
      lives = g.new-2.ensures.lives;
      number = g.new-2.ensures.epoch;
      crashed = subst (λ (e : ExecutorState). HasCrashedAll found.log.world e.world) (sym g.new-2.ensures.executor) g.in_ok-executor.ensures.fallen;
      nobody = subst (λ (e : ExecutorState). e.holders ≡ replicate found.log.world.shape.workers None) (sym g.new-2.ensures.executor) g.in_ok-executor.ensures.nobody;
      works = g.new-2.ensures.works;
    }
