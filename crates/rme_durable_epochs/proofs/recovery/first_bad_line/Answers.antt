use Rattle.std.proofs.Common.{subst, sym}
use Rattle.rme_durable_epochs.specs.RecoveredStates.{IsWhyNoState}
use Rattle.rme_durable_epochs.proofs.Judging.{bad_early, judged_bad, judged_good}
use Rattle.rme_durable_epochs.proofs.recovery.first_bad_line.Goals as goal
use Rattle.rme_durable_epochs.proofs.recovery.first_bad_line.Goals.{in-Ok, in-Err}

pub returns-then-line-le2 : goal.returns-then-line-le2
returns-then-line-le2 g c = bad_early c.args.bytes.now c.args.line c.requires c.if-line-le2.true

pub returns : goal.returns
returns g c =
    let bytes = c.args.bytes.now in
    let line = c.args.line in
    let more = c.if-line-le2.false in
    let front = c.first_two_lines.result.now in
    let cut = c.first_two_lines.ensures in
    elim c.match-recover_with_base.branch [
      | in-Ok w ↦ subst (IsWhyNoState bytes) (sym w.result-is) (judged_good bytes front line _ c.requires more cut w.in-Ok.ensures.ok)
      | in-Err w ↦ subst (IsWhyNoState bytes) (sym w.result-is) (judged_bad bytes front line w.in-Err.why c.requires more cut w.in-Err.ensures.err)
    ]
