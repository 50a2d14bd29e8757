use Rattle.std.proofs.Common.{ap, ◌∙◌}
use Rattle.rme_durable_server.proofs.Keeping.{keeps_buffered}
use Rattle.rme_durable_server.proofs.backend.DurableServerBackend.answer.Goals as goal

pub returns-in-Ok-Err-clause-gathers : goal.returns-in-Ok-Err-clause-gathers
returns-in-Ok-Err-clause-gathers g c =
    keeps_buffered c.answer_non_order-session.result.1 (g.O.Sink.contents c.args.writer.now) c.args.buffers.now.exchange.pending c.answer_non_order-session.new.buffers.exchange.pending
    (ap (λ e. e.pending) (c.answer_non_order-session.ensures.same ∙ c.parse_order.ensures.same))
