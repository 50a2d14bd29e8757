use Rattle.std.proofs.Common.{arith}
use Rattle.rme_supervisor.proofs.Fallen.{next_fall, rises}
use Rattle.rme_supervisor.proofs.fall_countdown.FallCountdown.next.Goals as goal

pub overflow_sub-result-2 : goal.overflow_sub-result-2
overflow_sub-result-2 c = let less = rises c.args.counts.now c.args.lives c.requires.rising c.if-place-eq0.false c.if-place-counts.false in omega (arith, less)

pub returns : goal.returns
returns c = next_fall c.args.counts.now c.args.lives c.requires.rising c.if-place-eq0.false c.if-place-counts.false (let fits = c.type_inv.counts c.args.lives in omega (arith, fits))
