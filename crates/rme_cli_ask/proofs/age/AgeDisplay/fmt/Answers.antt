use Rattle.std.proofs.Common.{◌≡◌, ◌/◌, ◌%◌, arith}
use Rattle.std.specs.Fmt.{styled_decimal}
use Rattle.rme_cli_ask.specs.Ages.{two_digits}
use Rattle.rme_cli_ask.proofs.Ages.{days_text, hours_text, minutes_text, two_digits_padded}
use Rattle.rme_cli_ask.proofs.age.AgeDisplay.fmt.Goals as goal

pub returns-then-hours-eq0-clause-writes : goal.returns-then-hours-eq0-clause-writes
returns-then-hours-eq0-clause-writes g c plain ok =
    let seconds = c.args.self.now.seconds in
    let rest : styled_decimal c.laid_out.result (seconds % 60) ≡ two_digits (seconds % 60) =
    rw c.laid_out.ensures (two_digits_padded (seconds % 60) (omega arith)) in
    rw (← minutes_text seconds (omega (arith, c.if-minutes-eq0.false)) (omega (arith, c.if-hours-eq0.true)), ← rest) (c.write-then-hours-eq0.ensures.writes plain ok)

pub returns-then-days-eq0-clause-writes : goal.returns-then-days-eq0-clause-writes
returns-then-days-eq0-clause-writes g c plain ok =
    let seconds = c.args.self.now.seconds in
    let rest : styled_decimal c.laid_out-then-days-eq0.result (seconds / 60 % 60) ≡ two_digits (seconds / 60 % 60) =
    rw c.laid_out-then-days-eq0.ensures (two_digits_padded (seconds / 60 % 60) (omega arith)) in
    rw (← hours_text seconds (omega (arith, c.if-hours-eq0.false)) (omega (arith, c.if-days-eq0.true)), ← rest) (c.write-then-days-eq0.ensures.writes plain ok)

pub returns-else-days-eq0-clause-writes : goal.returns-else-days-eq0-clause-writes
returns-else-days-eq0-clause-writes g c plain ok =
    let seconds = c.args.self.now.seconds in
    let rest : styled_decimal c.laid_out-else-days-eq0.result (seconds / 60 / 60 % 24) ≡ two_digits (seconds / 60 / 60 % 24) =
    rw c.laid_out-else-days-eq0.ensures (two_digits_padded (seconds / 60 / 60 % 24) (omega arith)) in
    rw (← days_text seconds (omega (arith, c.if-days-eq0.false)), ← rest) (c.write-else-days-eq0.ensures.writes plain ok)
