-- The order was executed by the tries so far, and its job waits.
use Rattle.std.proofs.Common.{◌≡◌, ◌≤◌, true}
use Rattle.rme_session_protocol.specs.Attempts.{is_still_waiting}
use Rattle.rme_session_loop.specs.SessionAnswers.{MayContinueOrder}
use Rattle.rme_session_loop.proofs.order_run.OrderRun.retry_until_done.Given as goal

abbrev pub invariant-loop-made : goal.invariant-loop-made
invariant-loop-made g l = record {
  may_have : g.A.OrderAttempts.may_have l.fn.self.backend.now l.session;
  waits : is_still_waiting (g.A.OrderAttempts.says l.reply) ≡ true;
  may : MayContinueOrder l.fn.self.request.order (g.A.OrderAttempts.says l.reply);
  some : 1 ≤ l.made;
  executes : (old : g.row.A-Session.Denot)
      → g.A.OrderAttempts.executes l.fn.self.backend.now l.fn.first.tries old l.fn.self.request.order l.fn.session l.fn.first.reply
      → g.A.OrderAttempts.executes l.fn.self.backend.now l.made old l.fn.self.request.order l.session l.reply;
}
