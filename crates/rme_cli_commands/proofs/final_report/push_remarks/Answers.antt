use Rattle.std.proofs.Common.{◌<◌, length, ◌∙◌, arith}
use Rattle.rme_cli_commands.proofs.InOrder.{next_lock, text_there}
use Rattle.rme_cli_commands.specs.FinalReports.{lock_remark_text}
use Rattle.rme_cli_commands.proofs.final_report.push_remarks.Goals as goal

pub loop-number-preserved : goal.loop-number-preserved
loop-number-preserved c =
    let within : c.loop-number.number < length c.args.names.now = omega arith in
    next_lock lock_remark_text c.args.locks.now _ c.args.names.now _ _ c.loop-number.number within c.loop-number.invariant
    (c.in_ok-push_remark_at.ensures ∙ text_there lock_remark_text c.args.locks.now c.args.names.now _ c.loop-number.number c.get.result c.name.result.now c.name.ensures c.get.ensures.lookup)
