use Rattle.std.proofs.Common.{◌≡◌, subst, sym}
use Rattle.rme_session_world.specs.Executors.{executor_session_view}
use Rattle.rme_durable_epochs.specs.EpochStates.{EpochState}
use Rattle.rme_durable_epochs.proofs.epoch_executor.EpochExecutor.execute_in_epoch.Goals as goal

pub execute-requires : goal.execute-requires
execute-requires c =
    let V = λ (e : EpochState). c.args.view.now ≡ (executor_session_view e.executor c.args.session.now).session in
    record { view = subst V (sym c.self.view_is) c.requires.view }
