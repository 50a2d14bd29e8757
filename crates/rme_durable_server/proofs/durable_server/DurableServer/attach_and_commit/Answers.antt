use Rattle.std.proofs.Common.{◌≡◌, ℕ, rules, subst}
use Rattle.rme_session_protocol.specs.ClientReplies.{reply_of_client}
use Rattle.rme_session_world.specs.Executors.{IsChosenWorker}
use Rattle.rme_session_world.specs.ExecutorStates.{ExecutorState}
use Rattle.rme_durable_server.specs.ServerHistories.{server_state, session_moment}
use Rattle.rme_durable_server.proofs.Choosing.{attaches_chosen}
use Rattle.rme_durable_server.proofs.durable_server.DurableServer.attach_and_commit.Goals as goal

pub returns-in-Ok : goal.returns-in-Ok
returns-in-Ok g c =
    let before = c.deref_mut.result.now in
    let done = c.in-Ok.done in
    let same : c.executor-executor.result.now ≡ before.executor = search rules in
    let worker : c.in-Some.chosen ≡ c.args.worker = search rules in
    let W = λ (w : ℕ). IsChosenWorker c.executor-executor.result.now c.args.asked.now.choice c.args.self.now.clients w in
    let E = λ (e : ExecutorState). IsChosenWorker e c.args.asked.now.choice c.args.self.now.clients c.args.worker in
    attaches_chosen (server_state before) g.J.ServerTag.opening c.args.self.now.clients c.args.session.now c.args.asked.now c.args.worker (session_moment done.state done.end) (reply_of_client done.answered.reply)
    c.in-Ok.ensures (subst E same (subst W worker c.in-Some.ensures.chosen))
