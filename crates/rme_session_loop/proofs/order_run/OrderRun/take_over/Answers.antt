use Rattle.std.proofs.Common.{◌≤◌, ◌+◌, ℕ}
use Rattle.std.proofs.lemmas.Result.{IfOk-at_ok}
use Rattle.rme_session_loop.specs.OrderRuns.{MayStopAfter}
use Rattle.rme_session_loop.proofs.Retrying.{one_more, stops_attached, with_stops}
use Rattle.rme_session_loop.proofs.order_run.OrderRun.take_over.Goals as goal

pub loop-init : goal.loop-init
loop-init g c = record {
  may_have = c.requires.may_have;
  taken = c.requires.taken;
  executes = λ (old : g.row.A-Session.Denot). λ first. (c.args.first.tries, c.requires.some, first);
}

pub returns-then-not-is_taken-clause-executes : goal.returns-then-not-is_taken-clause-executes
returns-then-not-is_taken-clause-executes g c old first =
    let does = g.A.OrderAttempts.executes c.args.self.now.backend.now in
    let its = c.args.self.now.request.order in
    let gone = g.C.Client.gone c.args.self.now.request.client.now in
    let P : g.row.A-Reply.Denot → Type 0 =
    λ last. (tries : ℕ) (begun : g.row.A-Session.Denot) → 1 ≤ tries → does tries begun its c.loop.session c.loop.reply → does (tries + 1) begun its c.retry-next.result.0 last in
    let more = IfOk-at_ok P c.in-Ok.is c.retry-next.ensures.executes in
    let X : ℕ → g.row.A-Reply.Denot → Type 0 = λ tries. λ reply. does tries old its c.retry-next.result.0 reply in
    let S : ℕ → g.row.A-Reply.Denot → Type 0 = λ tries. λ reply. MayStopAfter gone its tries (g.A.OrderAttempts.says reply) in
    let E : ℕ → Type 0 = λ tries. does tries old its c.loop.session c.loop.reply in
    let F : ℕ → Type 0 = λ tries. does tries old its c.retry-next.result.0 c.in-Ok.reply in
    with_stops X S c.in-Ok.reply (λ tries. stops_attached gone its c.args.asked.now tries (g.A.OrderAttempts.says c.in-Ok.reply) c.requires.attach)
    (one_more E F (λ tries. λ some. λ had. more tries old some had) (c.loop.invariant.executes old first))

pub loop-preserved : goal.loop-preserved
loop-preserved g c =
    let does = g.A.OrderAttempts.executes c.args.self.now.backend.now in
    let its = c.args.self.now.request.order in
    let P : g.row.A-Reply.Denot → Type 0 =
    λ last. (tries : ℕ) (begun : g.row.A-Session.Denot) → 1 ≤ tries → does tries begun its c.loop.session c.loop.reply → does (tries + 1) begun its c.retry-next.result.0 last in
    let more = IfOk-at_ok P c.in-Ok.is c.retry-next.ensures.executes in record {
      may_have = c.retry-next.ensures.may_have;
      taken = c.is_taken.ensures c.if-not-is_taken.false;
      executes = λ (old : g.row.A-Session.Denot). λ first.
          let E : ℕ → Type 0 = λ tries. does tries old its c.loop.session c.loop.reply in
          let F : ℕ → Type 0 = λ tries. does tries old its c.retry-next.result.0 c.in-Ok.reply in
          one_more E F (λ tries. λ some. λ had. more tries old some had) (c.loop.invariant.executes old first);
    }
