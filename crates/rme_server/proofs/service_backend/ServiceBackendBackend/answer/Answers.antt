use Rattle.std.proofs.Common.{◌≡◌, ℕ, rules, subst, sym}
use Rattle.std.proofs.lemmas.Result.{IfOk-at_ok, on_ok_weaker}
use Rattle.std.specs.Prelude.{OnOk, Ok, Result, string_bytes}
use Rattle.rme_words.specs.declared.refusal.Refusal.{Refusal}
use Rattle.rme_line_io.specs.Cuts.{input_line_of}
use Rattle.rme_session_protocol.specs.declared.order.Order.{Order}
use Rattle.rme_session_protocol.specs.declared.reply.SessionReply.{SessionReply}
use Rattle.rme_session_protocol.specs.Attempts.{with_tries}
use Rattle.rme_session_protocol.specs.Orders.{world_numbers}
use Rattle.rme_session_protocol.specs.WorkerChoices.{choice_of_line}
use Rattle.rme_session_loop.specs.OrderRuns.{IsReplyOfTries, MayStopAfter}
use Rattle.rme_session_loop.specs.SessionAnswers.{parsed_order}
use Rattle.rme_session_threads.specs.ThreadSteps.{ThreadSessionStep}
use Rattle.rme_server.specs.ServiceChoices.{AnswerByOrder}
use Rattle.rme_server.proofs.Trying.{tries_until_gone}
use Rattle.rme_server.proofs.service_backend.ServiceBackendBackend.answer.Goals as goal

pub returns-in-Ok-clause-answers : goal.returns-in-Ok-clause-answers
returns-in-Ok-clause-answers g c =
    let gone = g.C.Client.gone c.args.client.now in
    let ident = g.K.Tag.ident in
    let count = c.args.self.now.slots.now in
    let names = c.args.self.now.names.now in
    let line = input_line_of c.args.buffers.now.cut c.args.buffers.now.exchange.line.items in
    let now = c.execute-stand.result.0 in
    let its = c.in-Ok-Ok.order in
    let asked : parsed_order names world_numbers line ≡ Ok its = search rules in
    let O : SessionReply → Type 0 = IsReplyOfTries (λ (tries : ℕ). λ (reply : SessionReply). ThreadSessionStep ident count c.args.stand (with_tries tries its) now reply) (λ (tries : ℕ). λ (reply : SessionReply). MayStopAfter gone its tries reply) in
    let step = tries_until_gone gone ident count c.args.stand now its c.in-Ok.reply (IfOk-at_ok O c.in-Ok.is c.execute-stand.ensures.executes) in
    let bytes = string_bytes c.write_reply.new.self.text in
    let A = λ (asked : Result Order Refusal). OnOk c.write_reply.result (AnswerByOrder gone ident count names asked (choice_of_line line) c.args.stand bytes now) in
    subst A (sym asked) (on_ok_weaker c.write_reply.result (λ says. (c.in-Ok.reply, step, says)) c.write_reply.ensures.says)
