use Rattle.std.proofs.Common.{◌≡◌, ◌+◌, ◌-◌, min, ap, ◌∙◌, arith}
use Rattle.rme_cli_ask.specs.Waits.{milliseconds_after, round_of}
use Rattle.rme_cli_ask.proofs.finish.begin_round.Goals as goal

pub returns-clause-less : goal.returns-clause-less
returns-clause-less c = λ left is.
    let round = c.next_round-round.result in
    let long : round ≡ min (left + 1) 5000 = c.next_round-round.ensures.round ∙ ap round_of is in
    (left + 1 - round, c.next_round-round.ensures.spent ∙ ap (milliseconds_after round) is, omega (arith, long))
