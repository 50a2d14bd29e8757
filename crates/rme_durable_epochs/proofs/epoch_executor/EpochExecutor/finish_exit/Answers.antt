use Rattle.std.proofs.Common.{ℕ, ap, refl, subst, sym, ◌∙◌}
use Rattle.rme_session_world.specs.declared.executor.SessionState.{SessionState}
use Rattle.rme_durable_epochs.specs.LoggedStates.{LoggedStep, logged_state}
use Rattle.rme_durable_epochs.proofs.epoch_executor.EpochExecutor.finish_exit.Goals as goal

pub returns-in-Ok-clause-written : goal.returns-in-Ok-clause-written
returns-in-Ok-clause-written c =
    let after = c.execute-attached.new.self in
    let mid = logged_state after.executor after.lives after.lines in
    let ended = c.detach_session.new.self in
    let old = c.args.self.now in
    let own = ap (λ (s : SessionState). s.session) c.new-session.ensures in
    let first = subst (λ (session : ℕ). LoggedStep c.args.names.now session (logged_state old.executor old.lives old.lines) mid) own c.in-Ok.ensures.written in
    let second = subst (λ (session : ℕ). LoggedStep c.args.names.now session mid (logged_state ended.executor ended.lives ended.lines)) (c.in-Ok.ensures.session ∙ own) c.in_ok-detach_session.ensures.written in
    (mid, first, second)
