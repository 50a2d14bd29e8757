use Rattle.std.proofs.Common.{subst}
use Rattle.rme_session_protocol.specs.ClientReplies.{reply_of_client}
use Rattle.rme_session_protocol.specs.declared.order.Order.{Order}
use Rattle.rme_durable_epochs.specs.EpochStates.{SessionStepAcrossCheckpoints, executor_session}
use Rattle.rme_durable_epochs.proofs.Living.{steps_life, tells_current, tells_life, tells_section}
use Rattle.rme_durable_epochs.proofs.epoch_executor.EpochExecutor.execute.Goals as goal

pub returns-clause-obeys : goal.returns-clause-obeys
returns-clause-obeys c =
    let old = executor_session c.args.self.now.executor c.args.session.now in
    let now = executor_session c.execute_at_any_life.new.self.executor c.execute_at_any_life.new.session in
    let answer = reply_of_client c.in_ok-answered.answered.reply in
    let O = λ (its : Order). SessionStepAcrossCheckpoints c.args.self.now.base old its now answer in
    steps_life c.args.self.now.base old c.args.order.now now c.execute_at_any_life.new.self.lives answer (reply_of_client c.with_life.result) c.with_life.ensures (subst O c.without_after.ensures c.in_ok-answered.ensures.obeys)

pub returns-clause-section : goal.returns-clause-section
returns-clause-section c =
    tells_section c.args.self.now.base c.execute_at_any_life.new.self.lives (executor_session c.execute_at_any_life.new.self.executor c.execute_at_any_life.new.session) (reply_of_client c.in_ok-answered.answered.reply) (reply_of_client c.with_life.result) c.with_life.ensures c.in_ok-answered.ensures.section

pub returns-clause-life : goal.returns-clause-life
returns-clause-life c =
    tells_life c.execute_at_any_life.new.self.lives (executor_session c.execute_at_any_life.new.self.executor c.execute_at_any_life.new.session) (reply_of_client c.in_ok-answered.answered.reply) (reply_of_client c.with_life.result) c.with_life.ensures

pub returns-clause-overtaken : goal.returns-clause-overtaken
returns-clause-overtaken c =
    let old = executor_session c.args.self.now.executor c.args.session.now in
    let now = executor_session c.execute_at_any_life.new.self.executor c.execute_at_any_life.new.session in
    let answer = reply_of_client c.in_ok-answered.answered.reply in
    let O = λ (its : Order). SessionStepAcrossCheckpoints c.args.self.now.base old its now answer in
    tells_current c.args.self.now.base c.args.self.now.lives c.execute_at_any_life.new.self.lives old c.args.order.now now answer (reply_of_client c.with_life.result) c.with_life.ensures (c.is_overtaken.ensures.not c.if-is_overtaken.false) (subst O c.without_after.ensures c.in_ok-answered.ensures.obeys)
