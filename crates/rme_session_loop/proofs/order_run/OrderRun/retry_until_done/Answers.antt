use Rattle.std.proofs.Common.{◌≤◌, ◌+◌, ◌∙◌, ℕ, arith, inl, inr, refl, sym}
use Rattle.std.proofs.lemmas.Result.{IfOk-at_ok}
use Rattle.rme_session_protocol.specs.Attempts.{least_patience_tries, order_patience}
use Rattle.rme_session_loop.proofs.Retrying.{may_again, stops_settled}
use Rattle.rme_session_loop.proofs.order_run.OrderRun.retry_until_done.Goals.{then-is_over-via-then-is_over, then-is_over-via-else-is_over+then-is_client_gone}
use Rattle.rme_session_loop.proofs.order_run.OrderRun.retry_until_done.Goals as goal

pub loop-made-init : goal.loop-made-init
loop-made-init g c = record {
  may_have = c.requires.may_have;
  waits = c.requires.waits;
  may = c.requires.may;
  some = c.requires.some;
  executes = λ (old : g.row.A-Session.Denot). λ first. first;
}

pub returns-then-not-is_waiting-clause-executes : goal.returns-then-not-is_waiting-clause-executes
returns-then-not-is_waiting-clause-executes g c old first =
    let does = g.A.OrderAttempts.executes c.args.self.now.backend.now in
    let its = c.args.self.now.request.order in
    let P : g.row.A-Reply.Denot → Type 0 =
    λ last. (tries : ℕ) (begun : g.row.A-Session.Denot) → 1 ≤ tries → does tries begun its c.loop-made.session c.loop-made.reply → does (tries + 1) begun its c.retry-next.result.0 last in
    let more = IfOk-at_ok P c.in-Ok.is c.retry-next.ensures.executes in
    let inv = c.loop-made.invariant in (
      c.loop-made.made + 1,
      omega arith,
      more c.loop-made.made old inv.some (inv.executes old first),
      stops_settled (g.C.Client.gone c.args.self.now.request.client.now) its (c.loop-made.made + 1) (g.A.OrderAttempts.says c.in-Ok.reply) (sym c.is_waiting.ensures ∙ c.if-not-is_waiting.true),
    )

pub returns-then-is_over-clause-executes : goal.returns-then-is_over-clause-executes
returns-then-is_over-clause-executes g c old first =
    let does = g.A.OrderAttempts.executes c.args.self.now.backend.now in
    let its = c.args.self.now.request.order in
    let P : g.row.A-Reply.Denot → Type 0 =
    λ last. (tries : ℕ) (begun : g.row.A-Session.Denot) → 1 ≤ tries → does tries begun its c.loop-made.session c.loop-made.reply → does (tries + 1) begun its c.retry-next.result.0 last in
    let more = IfOk-at_ok P c.in-Ok.is c.retry-next.ensures.executes in
    let inv = c.loop-made.invariant in (
      c.loop-made.made + 1,
      omega arith,
      more c.loop-made.made old inv.some (inv.executes old first),
      λ waits.
          elim c.then-is_over.branch [
            | then-is_over-via-then-is_over w ↦ (let few : least_patience_tries (order_patience its) ≤ 1 = w.if-is_over.ensures refl in inl (omega (arith, few)))
            | then-is_over-via-else-is_over+then-is_client_gone w ↦ inr (w.if-is_client_gone.ensures refl)
          ],
    )

pub loop-made-preserved : goal.loop-made-preserved
loop-made-preserved g c =
    let does = g.A.OrderAttempts.executes c.args.self.now.backend.now in
    let its = c.args.self.now.request.order in
    let P : g.row.A-Reply.Denot → Type 0 =
    λ last. (tries : ℕ) (begun : g.row.A-Session.Denot) → 1 ≤ tries → does tries begun its c.loop-made.session c.loop-made.reply → does (tries + 1) begun its c.retry-next.result.0 last in
    let more = IfOk-at_ok P c.in-Ok.is c.retry-next.ensures.executes in
    let inv = c.loop-made.invariant in
    let waits = sym c.is_waiting.ensures ∙ c.if-not-is_waiting.false in record {
      may_have = c.retry-next.ensures.may_have;
      waits = waits;
      may = may_again its (g.A.OrderAttempts.says c.loop-made.reply) (g.A.OrderAttempts.says c.in-Ok.reply) inv.may inv.waits waits;
      some = omega arith;
      executes = λ (old : g.row.A-Session.Denot). λ first. more c.loop-made.made old inv.some (inv.executes old first);
    }

pub returns-clause-executes : goal.returns-clause-executes
returns-clause-executes g c old first =
    let most = c.max_tries-made-end.ensures in
    let done = c.loop-made-test.false in
    (c.loop-made.made, c.loop-made.invariant.some, c.loop-made.invariant.executes old first, λ waits. inl (omega (arith, most, done)))
