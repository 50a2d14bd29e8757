use Rattle.std.proofs.Common.{arith}
use Rattle.rme_history.proofs.Following.{first_broken, goes_on_legal, never_broken}
use Rattle.rme_history.proofs.replaying.follow_all.Goals as goal

pub returns-then-not-follow-clause-broken : goal.returns-then-not-follow-clause-broken
returns-then-not-follow-clause-broken c = first_broken _ _ _ (omega (arith, c.loop-i-test.true, c.len-i-end.ensures)) c.loop-i.invariant.legal c.if-not-follow.ensures.follows

pub returns-then-not-follow-clause-accepted : goal.returns-then-not-follow-clause-accepted
returns-then-not-follow-clause-accepted c = λ legal. absurd (never_broken _ _ _ c.if-not-follow.ensures.follows legal)

pub loop-i-preserved : goal.loop-i-preserved
loop-i-preserved c = record {
  legal = goes_on_legal _ _ _ (omega (arith, c.loop-i-test.true, c.len-i-end.ensures)) c.loop-i.invariant.legal c.if-not-follow.ensures.follows;
  fold = c.if-not-follow.ensures.fold;
}
