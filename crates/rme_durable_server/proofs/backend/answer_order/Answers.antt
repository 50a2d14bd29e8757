use Rattle.std.proofs.Common.{◌≡◌, ℕ, List, refl, subst, sym, ◌∙◌}
use Rattle.std.specs.Prelude.{OnOk, string_bytes}
use Rattle.rme_durable_server.proofs.Extending.{order_at, refuses_it, says_it}
use Rattle.rme_session_protocol.specs.ClientReplies.{reply_of_client}
use Rattle.rme_session_protocol.specs.SessionLines.{session_reply_line}
use Rattle.rme_session_loop.specs.OrderRuns.{MayStopAfter}
use Rattle.rme_session_protocol.specs.declared.reply.SessionReply.TheVariants.{Refused}
use Rattle.rme_words.specs.declared.refusal.Refusal.TheVariants.{NoWorker}
use Rattle.rme_durable_server.proofs.backend.answer_order.Goals as goal

pub returns-then-asks_checkpoint_worker-clause-answers : goal.returns-then-asks_checkpoint_worker-clause-answers
returns-then-asks_checkpoint_worker-clause-answers g c =
    let server = c.args.run.now.backend.now in
    let S = λ (names : List (List ℕ)). OnOk c.write_reply.result (string_bytes c.write_reply.new.self.text ≡ session_reply_line names (Refused NoWorker)) in
    refuses_it c.write_reply.result g.L.LogStore.holds server.clients g.L.LogStore.shared g.J.ServerTag.opening c.args.session c.args.run.now.request.order (string_bytes c.write_reply.new.self.text) c.args.session (sym c.asks_checkpoint_worker.ensures ∙ c.if-asks_checkpoint_worker.true) refl (subst S server.named c.write_reply.ensures.says)

pub returns-in-Ok-clause-answers : goal.returns-in-Ok-clause-answers
returns-in-Ok-clause-answers g c =
    let server = c.args.run.now.backend.now in
    let its = c.args.run.now.request.order in
    let answered = c.in-Ok.answered in
    let now = c.execute-session.result.0 in
    let S = λ (names : List (List ℕ)). OnOk c.answer_committed-told.result (string_bytes c.answer_committed-told.new.buffers.text ≡ session_reply_line names (reply_of_client answered.reply)) in
    says_it c.answer_committed-told.result g.L.LogStore.holds server.clients g.L.LogStore.shared g.J.ServerTag.opening c.args.session its (reply_of_client answered.reply) (string_bytes c.answer_committed-told.new.buffers.text) now
    (sym c.asks_checkpoint_worker.ensures ∙ c.if-asks_checkpoint_worker.false)
    (order_at c.execute-session.result.1 answered (λ r. reply_of_client r.reply) (λ (tries : ℕ). λ r. MayStopAfter (g.C.Client.gone c.args.run.now.request.client.now) its tries (reply_of_client r.reply)) g.J.ServerTag.opening c.args.session its now c.in-Ok.is c.execute-session.ensures.executes)
    (subst S server.named c.answer_committed-told.ensures.says) c.answer_committed-told.ensures.kept
