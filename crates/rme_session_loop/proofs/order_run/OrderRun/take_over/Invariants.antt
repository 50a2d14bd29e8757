-- The order was executed by the tries so far, and another session has the worker.
use Rattle.std.proofs.Common.{◌≡◌, ◌≤◌, ℕ}
use Rattle.rme_session_protocol.specs.declared.reply.SessionReply.TheVariants.{Refused}
use Rattle.rme_words.specs.declared.refusal.Refusal.TheVariants.{Taken}
use Rattle.rme_session_loop.proofs.order_run.OrderRun.take_over.Given as goal

abbrev pub invariant-loop : goal.invariant-loop
invariant-loop g l = record {
  may_have : g.A.OrderAttempts.may_have l.fn.self.backend.now l.session;
  taken : g.A.OrderAttempts.says l.reply ≡ Refused Taken;
  executes : (old : g.row.A-Session.Denot)
      → g.A.OrderAttempts.executes l.fn.self.backend.now l.fn.first.tries old l.fn.self.request.order l.fn.session l.fn.first.reply
      → (tries : ℕ) × (1 ≤ tries) × g.A.OrderAttempts.executes l.fn.self.backend.now tries old l.fn.self.request.order l.session l.reply;
}
