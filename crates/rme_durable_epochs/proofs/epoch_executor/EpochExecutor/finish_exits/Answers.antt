use Rattle.std.proofs.Common.{refl, suc, zero, ◌∙◌}
use Rattle.rme_durable_epochs.specs.LoggedStates.{logged_state}
use Rattle.rme_durable_epochs.proofs.epoch_executor.EpochExecutor.finish_exits.Goals as goal

pub loop-init : goal.loop-init
loop-init c = ((zero, refl), refl, refl, refl)

pub loop-preserved : goal.loop-preserved
loop-preserved c =
    let ((count, all), base, epoch, taken) = c.loop.invariant in
    let (mid, first, second) = c.in_ok-finish_exit.ensures.written in
    let here = logged_state c.loop.self.executor c.loop.self.lives c.loop.self.lines in
    ((suc (suc count), (mid, (here, all, first), second)), c.in_ok-finish_exit.ensures.base ∙ base, c.in_ok-finish_exit.ensures.epoch ∙ epoch, c.in_ok-finish_exit.ensures.taken ∙ taken)
